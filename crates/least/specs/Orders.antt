-- The orders of record kinds that are made of others.
use Rattle.std.specs.Prelude.{Bool, true, false, Some, None, Option, nat_le}
use Rattle.least.specs.declared.counted.Counted.{Counted}

-- The first item's count is at most the second's.
abbrev pub count_at_most : {X : Type 0} → Counted X → Counted X → Bool
count_at_most x y = nat_le x.count y.count

-- None is at most every option, and two that have a record go by the records' order.
abbrev pub none_first : {X : Type 0} → (X → X → Bool) → Option X → Option X → Bool
none_first at_most None other = true
none_first at_most (Some x) None = false
none_first at_most (Some x) (Some y) = at_most x y
