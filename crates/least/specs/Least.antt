-- What a search for a least record answers.
use Rattle.std.specs.Prelude.{◌≡◌, ℕ, ◌<◌, Bool, true, List, length, Some, None, Option, slice_index_or}

-- The place p lies in the list, and the record there is at most every record of the list (whichever default `get_or` is given).
abbrev pub LeastAt : {X : Type 0} → (X → X → Bool) → List X → ℕ → Type 0
LeastAt {X} at_most records p =
    (p < length records) × ((k : ℕ) (d : X) → k < length records → at_most (slice_index_or records p d) (slice_index_or records k d) ≡ true)

-- The answer is none only where there are no records, and else the place of a least one.
abbrev pub LeastOrNone : {X : Type 0} → (X → X → Bool) → List X → Option ℕ → Type 0
LeastOrNone at_most records None = length records ≡ 0
LeastOrNone at_most records (Some p) = LeastAt at_most records p
