-- Going by cases: tests on numbers, and what an option holds.
use Rattle.std.proofs.Common.{◌≡◌, ℕ, ◌<◌, ◌≤◌, Bool, true, false, cond, eqb, ltb, ◌⊎◌, refl, ap, inl, inr, ⊎_elim}
use Rattle.std.proofs.lemmas.Bool.{cases_eq, cases_lt, eq-eqb, ne_eqb, lt-ltb, le-ltb}

-- What a choice by equality of two numbers gives.
pub by_eq : {X : Type 0} (a b : ℕ) (x y : X)
    → ((a ≡ b) × (cond (eqb a b) x y ≡ x)) ⊎ ((a ≡ b → ⊥) × (cond (eqb a b) x y ≡ y))
by_eq a b x y =
    ⊎_elim (λ e. inl (e, ap (λ t. cond t x y) (eq-eqb a b e))) (λ ne. inr (ne, ap (λ t. cond t x y) (ne_eqb a b ne))) (cases_eq a b)

-- What a choice by the order of two numbers gives.
pub by_lt : {X : Type 0} (a b : ℕ) (x y : X) → ((a < b) × (cond (ltb a b) x y ≡ x)) ⊎ ((b ≤ a) × (cond (ltb a b) x y ≡ y))
by_lt a b x y =
    ⊎_elim (λ l. inl (l, ap (λ t. cond t x y) (lt-ltb a b l))) (λ h. inr (h, ap (λ t. cond t x y) (le-ltb a b h))) (cases_lt a b)

-- A choice between equals.
pub same_ways : {X : Type 0} (t : Bool) (x : X) → cond t x x ≡ x
same_ways true x = refl
same_ways false x = refl
