-- Which flash page a host page's word reaches after a small change of the namers.
use Rattle.std.proofs.Common.{◌≡◌, ℕ, ◌<◌, ◌≤◌, Bool, cond, eqb, ap, ◌∙◌, arith}
use Rattle.rules.specs.State.{no_page, leads}
use Rattle.rules.specs.Tables.{renamed}
use Rattle.rules.specs.Making.{Agree}
use Rattle.rules.proofs.Cases.{by_eq}
use Rattle.rules.proofs.Namers.{put, put_same, put_other, put_twice_cases, renamed_cases, leads_cases, merged_names, merged_cases, merged_word_cases, merged_entry_cases}

-- The page that word n reaches.
abbrev pub goes : (ℕ → ℕ) → ℕ → ℕ
goes f n = leads f (f n)

-- A word leads to the same page whatever the words hold: only an entry can change that.
pub leads_same : (f g : ℕ → ℕ) (w : ℕ) → (4096 ≤ w → f w ≡ g w) → leads f w ≡ leads g w
leads_same f g w same = let p = leads_cases f w in let q = leads_cases g w in grind (arith, p, q, same)

-- Word n takes the value w.
pub goes_word : (f : ℕ → ℕ) (n w : ℕ) → n < 4096 → goes (put f n w) n ≡ leads f w
goes_word f n w l =
    ap (leads (put f n w)) (put_same f n w) ∙ leads_same (put f n w) f w (λ big. put_other f n w w (λ e. absurd (omega arith)))

pub goes_word_other : (f : ℕ → ℕ) (n w m : ℕ) → n < 4096 → (m ≡ n → ⊥) → goes (put f n w) m ≡ goes f m
goes_word_other f n w m l ne =
    ap (leads (put f n w)) (put_other f n w m ne)
    ∙ leads_same (put f n w) f (f m) (λ big. put_other f n w (f m) (λ e. absurd (omega arith)))

-- An entry that no word holds is freed.
pub goes_freed : (f : ℕ → ℕ) (x m : ℕ) → 4096 ≤ x → m < 4096 → (f m ≡ x → ⊥) → goes (put f x no_page) m ≡ goes f m
goes_freed f x m big l free =
    ap (leads (put f x no_page)) (put_other f x no_page m (λ e. absurd (omega arith)))
    ∙ leads_same (put f x no_page) f (f m) (λ wide. put_other f x no_page (f m) free)

-- Page q, which word n named, is shared through the free entry k.
pub goes_lifted : (f : ℕ → ℕ) (is_written : ℕ → Bool) (host n k m : ℕ) → Agree f is_written host → n < 4096 → 4096 ≤ k → m < 4096
    → f n < no_page → f k ≡ no_page → goes (put (put f n k) k (f n)) m ≡ goes f m
goes_lifted f is_written host n k m a l big l' direct free =
    grind (
      arith,
      put_twice_cases f n k k (f n) m,
      put_twice_cases f n k k (f n) (f m),
      put_twice_cases f n k k (f n) k,
      leads_cases f (f m),
      leads_cases (put (put f n k) k (f n)) (put (put f n k) k (f n) m),
      a.used m l',
    )

-- Page q is renamed q'.
pub goes_renamed : (f : ℕ → ℕ) (q q' n : ℕ) → q < no_page → q' < no_page
    → goes (λ k. renamed q q' (f k)) n ≡ renamed q q' (goes f n)
goes_renamed f q q' n small small' =
    let p = renamed_cases q q' (f n) in
    let d = leads_cases (λ k. renamed q q' (f k)) (renamed q q' (f n)) in
    let c = leads_cases f (f n) in
    grind (arith, p, d, c)

-- The copy j is merged into the page of entry e.
pub goes_merged : (f : ℕ → ℕ) (j e n : ℕ) → 4096 ≤ e → (f e ≡ j → ⊥) → n < 4096
    → goes (merged_names f j e) n ≡ cond (eqb (goes f n) j) (f e) (goes f n)
goes_merged f j e n big apart l =
    grind (
      arith,
      merged_cases f j e n,
      merged_word_cases f j e (f n),
      leads_cases f (f n),
      leads_cases (merged_names f j e) (f n),
      merged_cases f j e (f n),
      merged_entry_cases j (f (f n)),
      leads_cases (merged_names f j e) e,
      merged_cases f j e e,
      merged_entry_cases j (f e),
      by_eq (goes f n) j (f e) (goes f n),
    )
