-- How many different numbers a list has, and how many different contents they lead to.
use Rattle.std.proofs.Common.{◌≡◌, ℕ, ◌+◌, ◌<◌, ◌≤◌, Bool, true, false, cond, ◌||◌, eqb, List, [], ◌∷◌, map, length, sym, refl, ap, ◌∙◌, subst, inl, inr, ⊎_elim, arith}
use Rattle.std.proofs.lemmas.Bool.{false_from_ne_true, cases_Bool, both_ways, eq-eqb, ne_eqb, eqb-true, or_cases, or_left, or_right, cond-true, cond-false}
use Rattle.page.specs.Same.{same_bytes}
use Rattle.page.proofs.Same.{same_from_equal, equal_from_same}
use Rattle.rules.specs.State.{Bytes, tally}
use Rattle.rules.specs.Promise.{occurs, different}
use Rattle.rules.proofs.Tally.{tally_at, tally_same, tally_none, one_true, one_false}
use Rattle.rules.proofs.Members.{In}
use Rattle.std.specs.Cmp.{both_ways as same_test}

abbrev pub stands_in : ℕ → List ℕ → Bool
stands_in q [] = false
stands_in q (x ∷ xs) = eqb q x || stands_in q xs

abbrev pub distinct : List ℕ → ℕ
distinct [] = 0
distinct (x ∷ xs) = cond (stands_in x xs) (distinct xs) (distinct xs + 1)

pub stands_in_from : (q : ℕ) (xs : List ℕ) → In q xs → stands_in q xs ≡ true
stands_in_from q [] i = absurd i
stands_in_from q (x ∷ xs) (inl e) = or_left (eqb q x) (stands_in q xs) (eq-eqb q x e)
stands_in_from q (x ∷ xs) (inr i) = or_right (eqb q x) (stands_in q xs) (stands_in_from q xs i)

pub stands_in_find : (q : ℕ) (xs : List ℕ) → stands_in q xs ≡ true → In q xs
stands_in_find q [] t = cc
stands_in_find q (x ∷ xs) t =
    ⊎_elim (λ e. inl (eqb-true q x e)) (λ i. inr (stands_in_find q xs i)) (or_cases (eqb q x) (stands_in q xs) t)

-- One more number, by whether it stands in the list already.
distinct_again : (x : ℕ) (xs : List ℕ) → stands_in x xs ≡ true → distinct (x ∷ xs) ≡ distinct xs
distinct_again x xs t = cond-true (stands_in x xs) _ _ t

distinct_new : (x : ℕ) (xs : List ℕ) → stands_in x xs ≡ false → distinct (x ∷ xs) ≡ distinct xs + 1
distinct_new x xs t = cond-false (stands_in x xs) _ _ t

pub distinct_le : (xs : List ℕ) → distinct xs ≤ length xs
distinct_le [] = omega arith
distinct_le (x ∷ xs) =
    ⊎_elim (λ t. omega (arith, distinct_again x xs t, distinct_le xs)) (λ t. omega (arith, distinct_new x xs t, distinct_le xs))
    (cases_Bool (stands_in x xs))

-- The numbers below n that stand in a list are as many as its different numbers.
pub tally_distinct : (n : ℕ) (xs : List ℕ) → ((q : ℕ) → In q xs → q < n) → tally (λ q. stands_in q xs) n ≡ distinct xs
tally_distinct n [] small = tally_none (λ q. false) n (λ k l. refl)
tally_distinct n (x ∷ xs) small =
    let rest = tally_distinct n xs (λ q i. small q (inr i)) in
    ⊎_elim
    (λ t. tally_same (λ q. stands_in q (x ∷ xs)) (λ q. stands_in q xs) n
    (λ q l. same_test (stands_in q (x ∷ xs)) (stands_in q xs)
    (λ s. ⊎_elim (λ e. ap (λ i. stands_in i xs) (eqb-true q x e) ∙ t) (λ i. i) (or_cases (eqb q x) (stands_in q xs) s))
    (λ s. or_right (eqb q x) (stands_in q xs) s))
    ∙ rest ∙ sym (distinct_again x xs t))
    (λ t. omega (
      arith,
      rest,
      distinct_new x xs t,
      tally_at (λ q. stands_in q xs) (λ q. stands_in q (x ∷ xs)) n x (small x (inl refl))
          (λ q l ne. sym (ap (λ b. b || stands_in q xs) (ne_eqb q x ne))),
      one_false (stands_in x xs) t,
      one_true (stands_in x (x ∷ xs)) (or_left (eqb x x) (stands_in x xs) (eq-eqb x x refl)),
    ))
    (cases_Bool (stands_in x xs))

-- Contents: what occurs in a list of them.
pub occurs_from : (g : ℕ → Bytes) (q : ℕ) (xs : List ℕ) → In q xs → occurs (g q) (map g xs) ≡ true
occurs_from g q [] i = absurd i
occurs_from g q (x ∷ xs) (inl e) = or_left (same_bytes (g q) (g x)) (occurs (g q) (map g xs)) (same_from_equal (g q) (g x) (ap g e))
occurs_from g q (x ∷ xs) (inr i) = or_right (same_bytes (g q) (g x)) (occurs (g q) (map g xs)) (occurs_from g q xs i)

pub occurs_find : (g : ℕ → Bytes) (y : Bytes) (xs : List ℕ) → occurs y (map g xs) ≡ true → (q : ℕ) × In q xs × (y ≡ g q)
occurs_find g y [] t = cc
occurs_find g y (x ∷ xs) t =
    ⊎_elim (λ e. (x, inl refl, equal_from_same y (g x) e))
    (λ i. let r = occurs_find g y xs i in (r.0, inr r.1, r.2)) (or_cases (same_bytes y (g x)) (occurs y (map g xs)) t)

-- One more content, by whether it occurs already.
different_again : (x : Bytes) (xs : List Bytes) → occurs x xs ≡ true → different (x ∷ xs) ≡ different xs
different_again x xs t = cond-true (occurs x xs) _ _ t

different_new : (x : Bytes) (xs : List Bytes) → occurs x xs ≡ false → different (x ∷ xs) ≡ different xs + 1
different_new x xs t = cond-false (occurs x xs) _ _ t

-- There are no more different contents than different pages ..
pub different_le : (g : ℕ → Bytes) (xs : List ℕ) → different (map g xs) ≤ distinct xs
different_le g [] = omega arith
different_le g (x ∷ xs) =
    ⊎_elim
    (λ t. omega (arith, distinct_again x xs t, different_le g xs, different_again (g x) (map g xs) (occurs_from g x xs (stands_in_find x xs t))))
    (λ t. ⊎_elim (λ o. omega (arith, distinct_new x xs t, different_le g xs, different_again (g x) (map g xs) o))
    (λ o. omega (arith, distinct_new x xs t, different_le g xs, different_new (g x) (map g xs) o))
    (cases_Bool (occurs (g x) (map g xs))))
    (cases_Bool (stands_in x xs))

-- .. and as many, if no two pages have equal content.
pub different_all : (g : ℕ → Bytes) (xs : List ℕ) → ((p q : ℕ) → In p xs → In q xs → g p ≡ g q → p ≡ q) → different (map g xs) ≡ distinct xs
different_all g [] one = refl
different_all g (x ∷ xs) one =
    let rest = different_all g xs (λ p q i j. one p q (inr i) (inr j)) in
    ⊎_elim
    (λ t. different_again (g x) (map g xs) (occurs_from g x xs (stands_in_find x xs t)) ∙ rest ∙ sym (distinct_again x xs t))
    (λ t. different_new (g x) (map g xs)
    (false_from_ne_true (occurs (g x) (map g xs)) (λ o. let r = occurs_find g (g x) xs o in
    both_ways (stands_in x xs) t (stands_in_from x xs (subst (λ i. In i xs) (sym (one x r.0 (inl refl) (inr r.1) r.2)) r.1))))
    ∙ ap (λ c. c + 1) rest ∙ sym (distinct_new x xs t))
    (cases_Bool (stands_in x xs))
