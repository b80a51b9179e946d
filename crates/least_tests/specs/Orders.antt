-- The orders of the two record kinds.
use Rattle.std.specs.Prelude.{ℕ, Bool, Option, ◌&&◌, ◌||◌, ◌==◌, nat_le, nat_lt}
use Rattle.least.specs.Orders.{count_at_most, none_first}
use Rattle.least.specs.declared.counted.Counted.{Counted}
use Rattle.least_tests.specs.declared.entry.Held.{Held}

-- the first block was erased at most as often as the second
abbrev pub less_erased : Counted ℕ → Counted ℕ → Bool
less_erased = count_at_most

-- of two held entries the heat decides, and then the time of the last use
abbrev pub held_colder : Held → Held → Bool
held_colder x y = nat_lt x.heat y.heat || (x.heat == y.heat && nat_le x.used y.used)

-- a free entry is at most every entry, and two held ones go by their heat and time
abbrev pub colder : Option Held → Option Held → Bool
colder = none_first held_colder
