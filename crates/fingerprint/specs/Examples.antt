-- Worked examples of both kinds, and the bound of their numbers.
use Rattle.std.specs.Prelude.{◌≡◌, ℕ, ◌^◌, ◌<◌, List, replicate, slice_set}
use Rattle.std.specs.List.{AllByRecursion}
use Rattle.fingerprint.specs.Sample.{sample_of}
use Rattle.fingerprint.specs.Fletcher.{fletcher_of}

-- The page of zeros.
abbrev pub zeros : List ℕ
zeros = replicate 256 0

-- The page that begins with 1 and is zeros after it.
abbrev pub starts_with_one : List ℕ
starts_with_one = slice_set zeros 0 1

-- The page that begins 255, 255 and is zeros after them.
abbrev pub starts_with_two_full : List ℕ
starts_with_two_full = slice_set (slice_set zeros 0 255) 1 255

-- The page whose byte 254 alone is 1: the low byte of the last word.
abbrev pub one_in_last_word : List ℕ
one_in_last_word = slice_set zeros 254 1

-- The numbers of these pages; the first two are different pages with one number.
pub record Worked : Type 0 where
  pub fletcher_of_zeros : fletcher_of zeros ≡ 0
  pub fletcher_of_two_full : fletcher_of starts_with_two_full ≡ 0
  pub fletcher_of_one : fletcher_of starts_with_one ≡ 8388609
  pub fletcher_of_last_word : fletcher_of one_in_last_word ≡ 65537
  pub sample_of_one : sample_of starts_with_one ≡ 16777216
  pub different_pages : zeros ≡ starts_with_two_full → ⊥

-- Both numbers fit 32 bits: Fletcher's for every list of numbers, and Sample's for every list of bytes.
pub record Fit : Type 0 where
  pub fletcher : (bytes : List ℕ) → fletcher_of bytes < 2 ^ 32
  pub sample : (bytes : List ℕ) → AllByRecursion (λ byte. byte < 256) bytes → sample_of bytes < 2 ^ 32
