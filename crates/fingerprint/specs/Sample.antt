-- Sample: the first four bytes as one number, the first byte highest.
use Rattle.std.specs.Prelude.{ℕ, ◌+◌, ◌*◌, List, slice_index}

-- The number of a page.
abbrev pub sample_of : List ℕ → ℕ
sample_of bytes = slice_index bytes 0 * 16777216 + slice_index bytes 1 * 65536 + slice_index bytes 2 * 256 + slice_index bytes 3
