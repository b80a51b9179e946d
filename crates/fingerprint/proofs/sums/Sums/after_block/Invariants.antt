use Rattle.std.proofs.Common.{◌≡◌, ℕ, ◌+◌, ◌*◌, ◌%◌, ◌≤◌, List, ◌++◌, drop}
use Rattle.fingerprint.specs.Fletcher.{words_of, fletcher_from}
use Rattle.fingerprint.proofs.sums.Sums.after_block.Given as goal

-- The sums are bounded by how many words they have taken, and reduced they give with what is left what they gave at the start.
abbrev pub invariant-loop-place : goal.invariant-loop-place
invariant-loop-place l =
    (l.a ≤ 65534 + 65535 * l.place) × (l.b ≤ 65534 + 4294967296 * l.place)
    × ((more : List ℕ) → fletcher_from (l.a % 65535) (l.b % 65535) (words_of (drop (2 * l.place) l.block ++ more)) ≡ fletcher_from l.initial.a l.initial.b (words_of (l.block ++ more)))
