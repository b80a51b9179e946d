-- The best of numbered records: what a search by `reduce` keeps.
use Rattle.std.proofs.Common.{◌≡◌, ℕ, ◌<◌, Bool, true, false, not, cond, Option, Some, None, List, ◌∷◌, length, map, get_or, sym, ◌∙◌, arith}
use Rattle.std.proofs.lemmas.Bool.{not-false}
use Rattle.std.proofs.lemmas.List.{length-map, get_or-map}
use Rattle.std.proofs.lemmas.List.MinMax.{IsStrictWeakOrder-from_at_least, IsFirstBest-from_best_of}
use Rattle.std.specs.Iterator.{ActsAsOnTwo}
use Rattle.std.specs.Iterator.Runs.{Run, IsReduceRun}
use Rattle.std.specs.List.{IsFirstBest, best_of}
use Rattle.std.specs.Option.{MatchOption, option_map}
use Rattle.least.specs.Least.{LeastAt, LeastOrNone}
use denote.Param.Members.{Mut}

-- A numbered record is its place in a list, and what `read` reads the record from.
module _ {R X : Type 0} (read : R → X) (at_most : X → X → Bool) (total : (x y : X) → at_most x y ≡ false → at_most y x ≡ true) (transitive : (x y z : X) → at_most x y ≡ true → at_most y z ≡ true → at_most x z ≡ true) where
  -- The first of two is below the second: the second is not at most the first.
  abbrev pub below : ℕ × R → ℕ × R → Bool
  below p q = not (at_most (read q.1) (read p.1))

  -- Each record's number is its place.
  abbrev IsNumbered : List (ℕ × R) → Type 0
  IsNumbered all = (k : ℕ) (d : ℕ × R) → k < length all → (get_or all k d).0 ≡ k

  -- The place of the first best is the place of a least record.
  LeastAt-from_first_best : (all : List (ℕ × R)) (b : ℕ) (e : ℕ × R) → IsFirstBest below all (length all) b → LeastAt at_most (map (λ p. read p.1) all) b
  LeastAt-from_first_best all b e best = (rw length-map best.0, λ k d inside. grind (arith, length-map, get_or-map (λ (p : ℕ × R). read p.1) all b e d, get_or-map (λ (p : ℕ × R). read p.1) all k e d, not-false, best.1 k e))

  -- The number of the best is the place of a least record.
  LeastAt-from_best : (first : ℕ × R) (rest : List (ℕ × R)) → IsNumbered (first ∷ rest) → LeastAt at_most (map (λ p. read p.1) (first ∷ rest)) (best_of below first rest).0
  LeastAt-from_best first rest numbered =
      let ranks = IsStrictWeakOrder-from_at_least (λ (p q : ℕ × R). at_most (read p.1) (read q.1)) (λ p q. total (read p.1) (read q.1)) (λ p q r. transitive (read p.1) (read q.1) (read r.1)) in
      let found = IsFirstBest-from_best_of ranks first rest in
      rw (← found.2, numbered found.0 first found.1.0) (LeastAt-from_first_best (first ∷ rest) found.0 first found.1)

  -- What `reduce` keeps, by a closure that takes the later of two only if it is below.
  pub LeastOrNone-from_reduce : {S F : Type 0} {steps : S → Option (ℕ × R) → S → Type 0} (p : Run steps) (g : Mut F ((ℕ × R) × ((ℕ × R) × Unit {0})) (ℕ × R)) (f : F) → ActsAsOnTwo g f (λ best later. cond (below later best) later best) → IsNumbered p.items → (kept : Option (ℕ × R)) → MatchOption kept (p.len ≡ 0) (IsReduceRun p g f) → LeastOrNone at_most (map (λ q. read q.1) p.items) (option_map (λ q. q.0) kept)
  LeastOrNone-from_reduce p g f acts numbered None none = rw length-map (sym p.long ∙ none)
  LeastOrNone-from_reduce p g f acts numbered (Some best) (some, (first, rest, are, is)) =
      let all_numbered : IsNumbered (first ∷ rest) = rw are at numbered in
      rw (are, is _ acts) (LeastAt-from_best first rest all_numbered)
