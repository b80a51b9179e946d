-- Counting the numbers below a bound that pass a test.
use Rattle.std.proofs.Common.{◌≡◌, ℕ, zero, suc, ◌+◌, ◌<◌, ◌≤◌, Bool, true, false, cond, not, ◌&&◌, eqb, sym, refl, ap, ◌∙◌, ⊎_elim, arith}
use Rattle.std.proofs.lemmas.Bool.{cases_Bool, cases_eq, both_ways, eq-eqb, ne_eqb}
use Rattle.rules.specs.State.{tally}

-- A passed test counts 1.
abbrev pub one : Bool → ℕ
one b = cond b 1 0

pub one_le : (b : Bool) → one b ≤ 1
one_le true = omega arith
one_le false = omega arith

pub one_true : (b : Bool) → b ≡ true → one b ≡ 1
one_true b e = ap one e

pub one_false : (b : Bool) → b ≡ false → one b ≡ 0
one_false b e = ap one e

-- Tests that agree below n count alike.
pub tally_same : (f g : ℕ → Bool) (n : ℕ) → ((k : ℕ) → k < n → f k ≡ g k) → tally f n ≡ tally g n
tally_same f g zero h = refl
tally_same f g (suc n) h =
    let e = tally_same f g n (λ k l. h k (omega arith)) in let d = h n (omega arith) in cc

pub tally_le : (f : ℕ → Bool) (n : ℕ) → tally f n ≤ n
tally_le f zero = omega arith
tally_le f (suc n) = omega (arith, tally_le f n, one_le (f n))

-- A positive count has a number that passes, and a number that passes makes it positive.
pub tally_find : (f : ℕ → Bool) (n : ℕ) → 0 < tally f n → (k : ℕ) × (k < n) × (f k ≡ true)
tally_find f zero h = absurd (omega arith)
tally_find f (suc n) h =
    ⊎_elim (λ t. (n, omega arith, t))
    (λ t. let r = tally_find f n (omega (arith, one_false (f n) t)) in (r.0, omega (arith, r.1), r.2))
    (cases_Bool (f n))

pub tally_pos : (f : ℕ → Bool) (n k : ℕ) → k < n → f k ≡ true → 0 < tally f n
tally_pos f zero k h t = absurd (omega arith)
tally_pos f (suc n) k h t =
    ⊎_elim (λ e. omega (arith, one_true (f n) (ap f (sym e) ∙ t))) (λ ne. omega (arith, tally_pos f n k (omega arith) t)) (cases_eq k n)

pub tally_none : (f : ℕ → Bool) (n : ℕ) → ((k : ℕ) → k < n → f k ≡ false) → tally f n ≡ 0
tally_none f zero h = refl
tally_none f (suc n) h = omega (arith, tally_none f n (λ k l. h k (omega arith)), one_false (f n) (h n (omega arith)))

-- Two tests that differ at k alone.
pub tally_at : (f g : ℕ → Bool) (n k : ℕ) → k < n → ((j : ℕ) → j < n → (j ≡ k → ⊥) → f j ≡ g j)
    → tally g n + cond (f k) 1 0 ≡ tally f n + cond (g k) 1 0
tally_at f g zero k h same = absurd (omega arith)
tally_at f g (suc n) k h same =
    ⊎_elim
    (λ e. let r = tally_same f g n (λ j l. same j (omega arith) (λ d. absurd (omega arith))) in
    let p = ap (λ i. one (f i)) e in let q = ap (λ i. one (g i)) e in omega arith)
    (λ ne. let r = tally_at f g n k (omega arith) (λ j l d. same j (omega arith) d) in
    let p = ap one (same n (omega arith) (λ e. ne (sym e))) in omega arith)
    (cases_eq k n)

-- What passes one test or the other.
pub tally_not : (f : ℕ → Bool) (n : ℕ) → tally f n + tally (λ k. not (f k)) n ≡ n
tally_not f zero = refl
tally_not f (suc n) = grind (arith, tally_not f n, cases_Bool (f n))

-- What passes a weaker test counts at least as much.
pub tally_mono : (f g : ℕ → Bool) (n : ℕ) → ((k : ℕ) → k < n → f k ≡ true → g k ≡ true) → tally f n ≤ tally g n
tally_mono f g zero h = omega arith
tally_mono f g (suc n) h =
    grind (arith, tally_mono f g n (λ k l. h k (omega arith)), cases_Bool (f n), h n (omega arith))

-- Two tests with no number in common below n: what passes both together.
pub tally_split : (f g : ℕ → Bool) (n : ℕ) → tally (λ k. f k && g k) n + tally (λ k. f k && not (g k)) n ≡ tally f n
tally_split f g zero = refl
tally_split f g (suc n) = grind (arith, tally_split f g n, cases_Bool (f n), cases_Bool (g n))

-- The test without the number b.
abbrev besides : (ℕ → Bool) → ℕ → ℕ → Bool
besides f b k = cond (eqb k b) false (f k)

besides_off : (f : ℕ → Bool) (b : ℕ) → besides f b b ≡ false
besides_off f b = ap (λ t. cond t false (f b)) (eq-eqb b b refl)

besides_on : (f : ℕ → Bool) (b k : ℕ) → (k ≡ b → ⊥) → f k ≡ besides f b k
besides_on f b k ne = sym (ap (λ t. cond t false (f k)) (ne_eqb k b ne))

tally_besides : (f : ℕ → Bool) (n b : ℕ) → b < n → tally (besides f b) n + one (f b) ≡ tally f n
tally_besides f n b l =
    omega (arith, tally_at f (besides f b) n b l (λ j m ne. besides_on f b j ne), one_false (besides f b b) (besides_off f b))

-- Two different numbers that pass count at least two ..
pub tally_two : (f : ℕ → Bool) (n c d : ℕ) → c < n → d < n → (d ≡ c → ⊥) → f c ≡ true → f d ≡ true → 2 ≤ tally f n
tally_two f n c d in_c in_d ne at_c at_d =
    omega (arith, tally_besides f n c in_c, one_true (f c) at_c, tally_pos (besides f c) n d in_d (sym (besides_on f c d ne) ∙ at_d))

-- .. and of two that pass one is another than b.
pub another : (f : ℕ → Bool) (n b : ℕ) → b < n → 2 ≤ tally f n → (c : ℕ) × (c < n) × (f c ≡ true) × (c ≡ b → ⊥)
another f n b l two =
    let r = tally_find (besides f b) n (omega (arith, tally_besides f n b l, one_le (f b))) in
    let apart : r.0 ≡ b → ⊥ = λ e. both_ways (besides f b r.0) (ap (besides f b) e ∙ besides_off f b) r.2 in
    (r.0, r.1, besides_on f b r.0 apart ∙ r.2, apart)
