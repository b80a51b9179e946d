-- The rules decide every answer.
use Rattle.std.proofs.Common.{◌≡◌, ℕ, ◌+◌, ◌⊎◌, cond, eqb, Some, Ok, Err, Result, sym, refl, ap, ◌∙◌, inl, inr, ⊎_elim, le_antisymm, arith}
use Rattle.rules.specs.declared.refusal.Refusal.{Refusal}
use Rattle.rules.specs.declared.refusal.Refusal.TheVariants.{Geometry, HostPages, WornOut, NoSuchPage, Length, Empty, NothingToCollect, ShortBuffer, ImageLength, BlockCheck, BlockHead, WordRange, FlashDiffers, Contradiction, FlashState, NoMemory}
use Rattle.rules.specs.declared.kind.Kind.{Kind}
use Rattle.rules.specs.declared.kind.Kind.TheVariants.{Stored, Shared, Unchanged}
use Rattle.rules.specs.declared.answer.Written.{Written}
use Rattle.rules.specs.declared.answer.Usage.{Usage}
use Rattle.rules.specs.declared.answer.Reply.{Reply}
use Rattle.rules.specs.declared.answer.Reply.TheVariants.{Wrote, Page, Number, Used}
use Rattle.rules.specs.Numbers.{refusal_number}
use Rattle.rules.specs.State.{Bytes, State, live_in, live_pages, held, page_map}
use Rattle.rules.specs.Calls.{Candidate, Victim, NothingDead, AllWornOut, Ready, Readied, NoneOffered, WritesAs, Writes, Reads, Trims, Collects, Merges, Scans, Asks}
use Rattle.rules.specs.Stands.{Stands}
use Rattle.rules.specs.Answers.{Answer, answer_of}
use Rattle.rules.specs.Runs.{Saves}
use Rattle.rules.specs.Runs.Call.{write, read, trim, collect, scan, usage, save}
use Rattle.rules.specs.Promise.{contents, different}
use Rattle.rules.specs.Theorems.{AnswersDecided}
use Rattle.rules.proofs.Buffers.{read_rule, save_rule}
use Rattle.rules.proofs.Moving.{mid}
use Rattle.rules.proofs.Scanning.{merges_scanned}
use Rattle.rules.proofs.Counting.{pages_exact}
use Rattle.rules.proofs.PageMaps.{map_same}

-- The refusal with a number.
abbrev refusal_of : ℕ → Refusal
refusal_of n =
    cond (eqb n 1) Geometry (cond (eqb n 2) HostPages (cond (eqb n 3) WornOut (cond (eqb n 4) NoSuchPage (cond (eqb n 5) Length
    (cond (eqb n 6) Empty (cond (eqb n 7) NothingToCollect (cond (eqb n 8) ShortBuffer (cond (eqb n 9) ImageLength
    (cond (eqb n 10) BlockCheck (cond (eqb n 11) BlockHead (cond (eqb n 12) WordRange (cond (eqb n 13) FlashDiffers
    (cond (eqb n 14) Contradiction (cond (eqb n 15) FlashState NoMemory))))))))))))))

refusal_back : (e : Refusal) → refusal_of (refusal_number e) ≡ e
refusal_back Geometry = refl
refusal_back HostPages = refl
refusal_back WornOut = refl
refusal_back NoSuchPage = refl
refusal_back Length = refl
refusal_back Empty = refl
refusal_back NothingToCollect = refl
refusal_back ShortBuffer = refl
refusal_back ImageLength = refl
refusal_back BlockCheck = refl
refusal_back BlockHead = refl
refusal_back WordRange = refl
refusal_back FlashDiffers = refl
refusal_back Contradiction = refl
refusal_back FlashState = refl
refusal_back NoMemory = refl

-- Refusals with one number are one.
pub refusal_same : (d e : Refusal) → refusal_number d ≡ refusal_number e → d ≡ e
refusal_same d e same = sym (refusal_back d) ∙ ap refusal_of same ∙ refusal_back e

-- A rule with one result: its values are the same, none comes beside a refusal, and its refusals have one number.
record One {X : Type 0} (rule : Result X Refusal → State → Type 0) : Type 0 where
  values : (x y : X) (t u : State) → rule (Ok x) t → rule (Ok y) u → x ≡ y
  not_both : (x : X) (e : Refusal) (t u : State) → rule (Ok x) t → rule (Err e) u → ⊥
  numbers : (d e : Refusal) (t u : State) → rule (Err d) t → rule (Err e) u → refusal_number d ≡ refusal_number e

one_result : {X : Type 0} (rule : Result X Refusal → State → Type 0) → One rule → (q r : Result X Refusal) (t u : State)
    → rule q t → rule r u → q ≡ r
one_result rule one (Ok x) (Ok y) t u p p' = ap Ok (one.values x y t u p p')
one_result rule one (Ok x) (Err e) t u p p' = absurd (one.not_both x e t u p p')
one_result rule one (Err d) (Ok y) t u p p' = absurd (one.not_both y d u t p' p)
one_result rule one (Err d) (Err e) t u p p' = ap Err (refusal_same d e (one.numbers d e t u p p'))

-- Such a rule decides the answer.
decided : {X : Type 0} (reply : X → Reply) (rule : Result X Refusal → State → Type 0) → One rule → (a b : Answer) (t u : State)
    → (q : Result X Refusal) × (a ≡ answer_of reply q) × rule q t → (r : Result X Refusal) × (b ≡ answer_of reply r) × rule r u → a ≡ b
decided reply rule one a b t u (q, is, p) (r, is', p') = is ∙ ap (answer_of reply) (one_result rule one q r t u p p') ∙ sym is'

-- Two victims have as many pages in use.
victims_same : (s : State) (v w : ℕ) → Victim s v → Victim s w → live_in s v ≡ live_in s w
victims_same s v w x y = le_antisymm (x.1 w y.0) (y.1 v x.0)

one_collect : (s : State) → One (Collects s)
one_collect s = record {
  values = λ m n t u p p'. p.2 ∙ victims_same s p.0 p'.0 p.1 p'.1 ∙ sym p'.2;
  not_both = λ m e t u p p'. ⊎_elim (λ seven. seven.1 p.0 p.1.0.0) (λ three. three.2 p.0 p.1.0) p'.1;
  numbers = λ d e t u p p'. same d e p.1 p'.1;
}
  where
    same : (d e : Refusal) → NothingDead s d ⊎ AllWornOut s d → NothingDead s e ⊎ AllWornOut s e → refusal_number d ≡ refusal_number e
    same d e (inl x) (inl y) = x.0 ∙ sym y.0
    same d e (inl x) (inr y) = absurd (x.1 y.1.0 y.1.1)
    same d e (inr x) (inl y) = absurd (y.1 x.1.0 x.1.1)
    same d e (inr x) (inr y) = x.0 ∙ sym y.0

readied_same : (s : State) (m n : ℕ) (u v : State) → Readied s m u → Readied s n v → m ≡ n
readied_same s m n u v (inl (ready, zero_m, is)) (inl (ready', zero_n, is')) = zero_m ∙ sym zero_n
readied_same s m n u v (inl x) (inr y) = absurd (y.0 x.0)
readied_same s m n u v (inr x) (inl y) = absurd (x.0 y.0)
readied_same s m n u v (inr (unready, x)) (inr (unready', y)) = (one_collect s).values m n u v x y

-- The kind and the pages moved of an accepted write.
kinds_same : (print : Bytes → ℕ) (s : State) (n : ℕ) (x : Bytes) (j k : Kind) (a b : ℕ) (t u : State)
    → WritesAs print s n x j a t → WritesAs print s n x k b u → (j ≡ k) × (a ≡ b)
kinds_same print s n x Stored Stored a b t u r q = (refl, readied_same s a b r.2.0 q.2.0 r.2.1 q.2.1)
kinds_same print s n x Stored Shared a b t u r q = absurd (r.1 q.2.0 q.2.2)
kinds_same print s n x Stored Unchanged a b t u r q = absurd (r.0 q.0)
kinds_same print s n x Shared Stored a b t u r q = absurd (q.1 r.2.0 r.2.2)
kinds_same print s n x Shared Shared a b t u r q = (refl, r.1 ∙ sym q.1)
kinds_same print s n x Shared Unchanged a b t u r q = absurd (r.0 q.0)
kinds_same print s n x Unchanged Stored a b t u r q = absurd (q.0 r.0)
kinds_same print s n x Unchanged Shared a b t u r q = absurd (q.0 r.0)
kinds_same print s n x Unchanged Unchanged a b t u r q = (refl, r.1 ∙ sym q.1)

-- An accepted write is not refused.
write_or : (print : Bytes → ℕ) (s : State) (n : ℕ) (x : Bytes) (k : Kind) (a : ℕ) (t : State)
    → WritesAs print s n x k a t → (held s n ≡ Some x → ⊥) → NoneOffered print s x → (Ready s → ⊥) → ((b : ℕ) → Candidate s b → ⊥) → ⊥
write_or print s n x Stored a t r not_held none unready no_victim =
    ⊎_elim (λ ready. unready ready.0) (λ collects. no_victim collects.1.0 collects.1.1.0) r.2.1
write_or print s n x Shared a t r not_held none unready no_victim = none r.2.0 r.2.2
write_or print s n x Unchanged a t r not_held none unready no_victim = not_held r.0

one_write : (print : Bytes → ℕ) (s : State) (n : ℕ) (x : Bytes) → One (Writes print s n x)
one_write print s n x = record {
  values = λ v w t u p p'. let e = kinds_same print s n x v.kind w.kind v.moved w.moved t u p.2 p'.2 in
      let same : ◌≡◌ {A = Written} (record { kind = v.kind; moved = v.moved }) (record { kind = w.kind; moved = w.moved }) = cc in same;
  not_both = λ w e t u p p'. ⊎_elim (λ four. omega (arith, four.1, p.0))
      (⊎_elim (λ five. five.2 p.1) (λ three. write_or print s n x w.kind w.moved t p.2 three.3 three.4 three.5 three.6))
      p'.1;
  numbers = λ d e t u p p'. grind (arith, p.1, p'.1);
}

one_read : (s : State) (n len : ℕ) → One (Reads s n len)
one_read s n len = record {
  values = λ x y t u p p'. cc (p.3, p'.3);
  not_both = λ x e t u p p'. grind (arith, p, p'.1);
  numbers = λ d e t u p p'. grind (arith, p.1, p'.1);
}

one_trim : (s : State) (n : ℕ) → One (Trims s n)
one_trim s n = record {
  values = λ x y t u p p'. p.1 ∙ sym p'.1;
  not_both = λ x e t u p p'. omega (arith, p.0, p'.1.1);
  numbers = λ d e t u p p'. p.1.0 ∙ sym p'.1.0;
}

-- A scan ends with as many pages in use as there are different contents.
one_scan : (print : Bytes → ℕ) (s : State) → Stands print s → One (Scans s)
one_scan print s h = record {
  values = λ a b t u p p'. omega (arith, left_over a t p, left_over b u p');
  not_both = λ x e t u p never. never;
  numbers = λ d e t u never p'. absurd never;
}
  where
    left_over : (died : ℕ) (t : State) → Merges died s t → different (contents (page_map s)) + died ≡ live_pages s
    left_over died t merges =
        let f = merges_scanned print died s t (mid print s h) merges in
        omega (arith, f.fewer, pages_exact print t f.mids f.no_copies, ap (λ m. different (contents m)) (map_same s t f.same_hosts f.same_held))

one_usage : (s : State) → One (Asks s)
one_usage s = record {
  values = λ a b t u p p'. let (is, live, dead, unwritten) = p in let (is', live', dead', unwritten') = p' in
      let same : ◌≡◌ {A = Usage} (record { live = a.live; dead = a.dead; unwritten = a.unwritten })
      (record { live = b.live; dead = b.dead; unwritten = b.unwritten }) = cc in same;
  not_both = λ x e t u p never. never;
  numbers = λ d e t u never p'. absurd never;
}

one_save : (s : State) (len : ℕ) → One (Saves s len)
one_save s len = record {
  values = λ x y t u p p'. p.1 ∙ sym p'.1;
  not_both = λ x e t u p p'. omega (arith, p.1, p.2, p'.2);
  numbers = λ d e t u p p'. p.1 ∙ sym p'.1;
}

pub answers_decided : AnswersDecided
answers_decided print s (write n x) a b t u h p p' = decided Wrote (Writes print s n x) (one_write print s n x) a b t u p p'
answers_decided print s (read n len) a b t u h (q, is, p) (r, is', p') =
    decided Page (Reads s n len) (one_read s n len) a b t u (q, is, read_rule s n len q t p) (r, is', read_rule s n len r u p')
answers_decided print s (trim n) a b t u h p p' = decided Number (Trims s n) (one_trim s n) a b t u p p'
answers_decided print s collect a b t u h p p' = decided Number (Collects s) (one_collect s) a b t u p p'
answers_decided print s scan a b t u h p p' = decided Number (Scans s) (one_scan print s h) a b t u p p'
answers_decided print s usage a b t u h p p' = decided Used (Asks s) (one_usage s) a b t u p p'
answers_decided print s (save len) a b t u h (q, is, p) (r, is', p') =
    decided Number (Saves s len) (one_save s len) a b t u (q, is, save_rule s len q t p) (r, is', save_rule s len r u p')
