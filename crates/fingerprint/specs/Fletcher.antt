-- Fletcher: two sums modulo 65,535 over the 16-bit words of a run of bytes.
use Rattle.std.specs.Prelude.{ℕ, ◌+◌, ◌*◌, ◌%◌, List, [], ◌∷◌}

-- The 16-bit words, the low byte of each first; an odd last byte is the low byte of a word whose high byte is zero.
abbrev pub words_of : List ℕ → List ℕ
words_of [] = []
words_of (low ∷ []) = low ∷ []
words_of (low ∷ high ∷ rest) = (low + high * 256) ∷ words_of rest

-- The number from the sums a and b on: a takes each word, then b takes the new a; at the end b is the high half of the number and a the low half.
abbrev pub fletcher_from : ℕ → ℕ → List ℕ → ℕ
fletcher_from a b [] = b * 65536 + a
fletcher_from a b (word ∷ words) =
    fletcher_from ((a + word) % 65535) ((b + (a + word) % 65535) % 65535) words

-- The number of some bytes: both sums start at zero.
abbrev pub fletcher_of : List ℕ → ℕ
fletcher_of bytes = fletcher_from 0 0 (words_of bytes)
