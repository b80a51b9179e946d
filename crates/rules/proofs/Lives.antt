-- The promise, over whole lives.
use Rattle.std.proofs.Common.{◌≡◌, ℕ, ◌+◌, Bool, true, false, List, [], ◌∷◌, Ok, Err, Option, Result, sym, ap, ◌∙◌, subst, ⊎_elim, arith}
use Rattle.std.proofs.lemmas.Bool.{cases_Bool, cond-true, cond-false}
use Rattle.flash.specs.Part.{wear}
use Rattle.rules.specs.declared.refusal.Refusal.{Refusal}
use Rattle.rules.specs.declared.answer.Usage.{Usage}
use Rattle.rules.specs.declared.answer.Reply.TheVariants.{Used}
use Rattle.rules.specs.State.{Bytes, State, live_pages, page_map}
use Rattle.rules.specs.Calls.{Asks}
use Rattle.rules.specs.Stands.{Stands}
use Rattle.rules.specs.Answers.{Answer, answer_of}
use Rattle.rules.specs.Runs.{Call, Run, Life}
use Rattle.rules.specs.Runs.Call.{write, read, trim, collect, scan, usage, save}
use Rattle.rules.specs.Promise.{seen, is_host, host_calls, SameAnswers, stored_and_moved, settled_from, Promise}
use Rattle.rules.specs.Promise.Seen.{refused}
use Rattle.rules.specs.PlainMap.{plain_answer, plain_after, Plain}
use Rattle.rules.proofs.Moving.{mid}
use Rattle.rules.proofs.Counting.{pages_enough, pages_few}
use Rattle.rules.proofs.Steps.{Exact, step_outcome}
use Rattle.rules.proofs.Made.{made_stands}

-- What a run keeps and does.
record Ran (print : Bytes → ℕ) (s : State) (hs : List (Call × Answer)) (t : State) : Type 0 where
  standing : Stands print t
  worn : wear t.part ≡ wear s.part + stored_and_moved hs
  exact : (so : Bool) → (so ≡ true → Exact s) → settled_from so hs ≡ true → Exact t

run_keeps : (print : Bytes → ℕ) (s : State) (hs : List (Call × Answer)) (t : State) → Stands print s → Run print s hs t → Ran print s hs t
run_keeps print s [] t h is =
    subst (Ran print s []) (sym is) (record { standing = h; worn = omega arith; exact = λ so was now. was now })
run_keeps print s (k ∷ hs) t h (m, step, rest) =
    let o = step_outcome print s k.0 k.1 m h step in
    let r = run_keeps print m hs t o.standing rest in
    record {
      standing = r.standing;
      worn = omega (arith, r.worn, o.worn);
      exact = λ so was now. r.exact _ (o.exact so was) now;
    }

-- A call that is not the host's leaves the page map.
pub other_call : (c : Call) (a : Answer) (m after : List (Option Bytes)) → is_host c ≡ false → Plain m c a after → after ≡ m
other_call (write n x) a m after off p = cc
other_call (read n len) a m after off p = cc
other_call (trim n) a m after off p = cc
other_call collect a m after off p = ⊎_elim (λ q. q.2) (λ q. q.1) p
other_call scan a m after off p = ⊎_elim (λ q. q.2) (λ q. q.1) p
other_call usage a m after off p = ⊎_elim (λ q. q.2) (λ q. q.1) p
other_call (save len) a m after off p = ⊎_elim (λ q. q.2) (λ q. q.1) p

-- One call of the host on two devices with the same pages.
host_pair : (c d : Call) (a b : Answer) (m m₁ n n₁ : List (Option Bytes)) → m ≡ n → is_host c ≡ true → is_host d ≡ true → Plain m c a m₁ → Plain n d b n₁
    → c ≡ d → (seen a ≡ refused 3 → ⊥) → (seen b ≡ refused 3 → ⊥) → (seen a ≡ seen b) × (m₁ ≡ n₁)
host_pair c d a b m m₁ n n₁ same on on' p q calls fine fine' =
    ⊎_elim (λ bad. absurd (fine bad.1))
    (λ x. ⊎_elim (λ bad. absurd (fine' bad.1))
    (λ y. (
      x.0 on ∙ ap (plain_answer m) calls ∙ ap (λ v. plain_answer v d) same ∙ sym (y.0 on'),
      x.1 ∙ ap (plain_after m) calls ∙ ap (λ v. plain_after v d) same ∙ sym y.1,
    )) q) p

host_on : (k : Call × Answer) (ks : List (Call × Answer)) → is_host k.0 ≡ true → host_calls (k ∷ ks) ≡ k ∷ host_calls ks
host_on k ks on = cond-true (is_host k.0) (k ∷ host_calls ks) (host_calls ks) on

host_off : (k : Call × Answer) (ks : List (Call × Answer)) → is_host k.0 ≡ false → host_calls (k ∷ ks) ≡ host_calls ks
host_off k ks off = cond-false (is_host k.0) (k ∷ host_calls ks) (host_calls ks) off

-- The first device has made the host's call h; the second comes to its next call of the host.
second : (print : Bytes → ℕ) (h : Call × Answer) (hs ks : List (Call × Answer)) (m m₁ : List (Option Bytes)) (t v : State)
    → is_host h.0 ≡ true → Plain m h.0 h.1 m₁ → m ≡ page_map t → Stands print t → Run print t ks v
    → ((ks' : List (Call × Answer)) (t' : State) → m₁ ≡ page_map t' → Stands print t' → Run print t' ks' v → SameAnswers (host_calls hs) (host_calls ks'))
    → SameAnswers (h ∷ host_calls hs) (host_calls ks)
second print h hs [] m m₁ t v on p same stands run rest = tt
second print h hs (k ∷ ks) m m₁ t v on p same stands (t₁, step, run) rest =
    let o = step_outcome print t k.0 k.1 t₁ stands step in
    ⊎_elim
    (λ on'. subst (SameAnswers (h ∷ host_calls hs)) (sym (host_on k ks on'))
    (λ calls fine fine'.
    let r = host_pair h.0 k.0 h.1 k.1 m m₁ (page_map t) (page_map t₁) same on on' p o.plain calls fine fine' in
    (r.0, rest ks t₁ r.1 o.standing run)))
    (λ off. subst (SameAnswers (h ∷ host_calls hs)) (sym (host_off k ks off))
    (second print h hs ks m m₁ t₁ v on p (same ∙ sym (other_call k.0 k.1 (page_map t) (page_map t₁) off o.plain)) o.standing run rest))
    (cases_Bool (is_host k.0))

same_answers : (print print' : Bytes → ℕ) (hs ks : List (Call × Answer)) (s u t v : State) → Stands print s → Stands print' t
    → page_map s ≡ page_map t → Run print s hs u → Run print' t ks v → SameAnswers (host_calls hs) (host_calls ks)
same_answers print print' [] ks s u t v h h' same run run' = tt
same_answers print print' (k ∷ hs) ks s u t v h h' same (s₁, step, run) run' =
    let o = step_outcome print s k.0 k.1 s₁ h step in
    ⊎_elim
    (λ on. subst (λ c. SameAnswers c (host_calls ks)) (sym (host_on k hs on))
    (second print' k hs ks (page_map s) (page_map s₁) t v on o.plain same h' run'
    (λ ks' t' same' stands' run''. same_answers print print' hs ks' s₁ u t' v o.standing stands' same' run run'')))
    (λ off. subst (λ c. SameAnswers c (host_calls ks)) (sym (host_off k hs off))
    (same_answers print print' hs ks s₁ u t v o.standing h'
    (other_call k.0 k.1 (page_map s) (page_map s₁) off o.plain ∙ same) run run'))
    (cases_Bool (is_host k.0))

-- Every life ends in a state that stands.
pub life_stands : (l : Life) → Stands l.print l.end
life_stands l = (run_keeps l.print l.start l.history l.end (made_stands l.print l.start l.made) l.ran).standing

-- A usage question is answered with the pages in use.
usage_asked : (s : State) (r : Result Usage Refusal) (a : Answer) (t : State) → a ≡ answer_of Used r → Asks s r t
    → (u : Usage) × (a ≡ Ok (Used u)) × (u.live ≡ live_pages s)
usage_asked s (Ok u) a t is (same, live, dead, unwritten) = (u, is, live)
usage_asked s (Err e) a t is never = absurd never

pub promise : Promise
promise l =
    let start = made_stands l.print l.start l.made in
    let r = run_keeps l.print l.start l.history l.end start l.ran in
    let m = mid l.print l.end r.standing in
    record {
      alike = λ o same. same_answers l.print o.print l.history o.history l.start l.end o.start o.end start
          (made_stands o.print o.start o.made) same l.ran o.ran;
      worn = r.worn;
      enough = pages_enough l.print l.end m;
      few = pages_few l.print l.end m;
      exact = λ now. r.exact false (λ never. cc) now;
      asked = λ a t step. usage_asked l.end step.0 a t step.1 step.2;
    }
