use Rattle.std.proofs.Common.{◌≡◌, ◌-◌, ◌%◌, ◌≤◌}
use Rattle.page.specs.Same.{SameBetween}
use Rattle.page.proofs.equality.equal.Given as goal

-- The bytes before the index are the same.
abbrev pub invariant-loop-i : goal.invariant-loop-i
invariant-loop-i l = SameBetween l.a l.b 0 l.i × (l.i % 8 ≡ 0) × (l.i ≤ 256)

abbrev pub decreases-loop-i : goal.decreases-loop-i
decreases-loop-i l = 256 - l.i
