-- The numbers below a bound that pass a test, as a list.
use Rattle.std.proofs.Common.{◌≡◌, ℕ, zero, suc, ◌<◌, Bool, true, false, cond, ◌⊎◌, List, [], ◌∷◌, ◌++◌, length, sym, refl, ap, ◌∙◌, subst, inl, inr, ⊎_elim, arith}
use Rattle.std.proofs.lemmas.List.{length_push, append-nil}
use Rattle.std.proofs.lemmas.Bool.{cases_Bool, cases_eq}
use Rattle.rules.specs.State.{tally}
use Rattle.rules.specs.Calls.{below}
use Rattle.rules.proofs.Tally.{one_true, one_false}

-- k stands in the list.
abbrev pub In : ℕ → List ℕ → Type 0
In k [] = ⊥
In k (x ∷ xs) = (k ≡ x) ⊎ In k xs

-- No number stands twice in the list.
abbrev pub Apart : List ℕ → Type 0
Apart [] = Unit {0}
Apart (x ∷ xs) = (In x xs → ⊥) × Apart xs

pub in_push : (k x : ℕ) (xs : List ℕ) → In k (xs ++ x ∷ []) → In k xs ⊎ (k ≡ x)
in_push k x [] (inl e) = inr e
in_push k x [] (inr i) = absurd i
in_push k x (y ∷ ys) (inl e) = inl (inl e)
in_push k x (y ∷ ys) (inr i) = ⊎_elim (λ j. inl (inr j)) (λ e. inr e) (in_push k x ys i)

pub in_left : (k x : ℕ) (xs : List ℕ) → In k xs → In k (xs ++ x ∷ [])
in_left k x [] i = absurd i
in_left k x (y ∷ ys) (inl e) = inl e
in_left k x (y ∷ ys) (inr i) = inr (in_left k x ys i)

pub in_last : (x : ℕ) (xs : List ℕ) → In x (xs ++ x ∷ [])
in_last x [] = inl refl
in_last x (y ∷ ys) = inr (in_last x ys)

pub apart_push : (x : ℕ) (xs : List ℕ) → Apart xs → (In x xs → ⊥) → Apart (xs ++ x ∷ [])
apart_push x [] a n = (λ i. i, tt)
apart_push x (y ∷ ys) a n =
    (λ i. ⊎_elim (λ j. a.0 j) (λ e. n (inl (sym e))) (in_push y x ys i), apart_push x ys a.1 (λ i. n (inr i)))

-- One more number, by the test's outcome.
pub below_yes : (f : ℕ → Bool) (n : ℕ) → f n ≡ true → below f (suc n) ≡ below f n ++ n ∷ []
below_yes f n t = ap (λ b. below f n ++ cond b (n ∷ []) []) t

pub below_no : (f : ℕ → Bool) (n : ℕ) → f n ≡ false → below f (suc n) ≡ below f n
below_no f n t = ap (λ b. below f n ++ cond b (n ∷ []) []) t ∙ append-nil (below f n)

pub in_below : (f : ℕ → Bool) (n k : ℕ) → In k (below f n) → (k < n) × (f k ≡ true)
in_below f zero k i = absurd i
in_below f (suc n) k i =
    ⊎_elim
    (λ t. ⊎_elim (λ j. let r = in_below f n k j in (omega (arith, r.0), r.1)) (λ e. (omega arith, ap f e ∙ t))
    (in_push k n (below f n) (subst (In k) (below_yes f n t) i)))
    (λ t. let r = in_below f n k (subst (In k) (below_no f n t) i) in (omega (arith, r.0), r.1))
    (cases_Bool (f n))

pub below_in : (f : ℕ → Bool) (n k : ℕ) → k < n → f k ≡ true → In k (below f n)
below_in f zero k l t = absurd (omega arith)
below_in f (suc n) k l t =
    ⊎_elim
    (λ e. subst (In k) (sym (below_yes f n (ap f (sym e) ∙ t))) (subst (λ i. In i (below f n ++ n ∷ [])) (sym e) (in_last n (below f n))))
    (λ ne. ⊎_elim
    (λ s. subst (In k) (sym (below_yes f n s)) (in_left k n (below f n) (below_in f n k (omega arith) t)))
    (λ s. subst (In k) (sym (below_no f n s)) (below_in f n k (omega arith) t))
    (cases_Bool (f n)))
    (cases_eq k n)

pub below_apart : (f : ℕ → Bool) (n : ℕ) → Apart (below f n)
below_apart f zero = tt
below_apart f (suc n) =
    ⊎_elim
    (λ t. subst Apart (sym (below_yes f n t))
    (apart_push n (below f n) (below_apart f n) (λ i. absurd (omega (arith, (in_below f n n i).0)))))
    (λ t. subst Apart (sym (below_no f n t)) (below_apart f n))
    (cases_Bool (f n))

pub length_below : (f : ℕ → Bool) (n : ℕ) → length (below f n) ≡ tally f n
length_below f zero = refl
length_below f (suc n) =
    ⊎_elim
    (λ t. ap length (below_yes f n t) ∙ length_push (below f n) n ∙ omega (arith, length_below f n, one_true (f n) t))
    (λ t. ap length (below_no f n t) ∙ omega (arith, length_below f n, one_false (f n) t))
    (cases_Bool (f n))
