-- When two lists of bytes are equal: by the test `same_bytes`, and by their places.
use Rattle.std.proofs.Common.{◌≡◌, ℕ, true, List, length, arith, rules}
use Rattle.std.specs.Bool.{Decides}
use Rattle.std.proofs.lemmas.List.{ext_get_or}
use Rattle.std.proofs.lemmas.Slice.Eq.{compares_Decides}
use Rattle.page.specs.Same.{same_bytes, SameBetween}

-- The test answers `true` exactly of equal lists.
pub same_decides : (xs ys : List ℕ) → Decides (same_bytes xs ys) (xs ≡ ys)
same_decides = compares_Decides same_bytes (search rules)

-- Equal lists pass the test.
pub same_from_equal : (xs ys : List ℕ) → xs ≡ ys → same_bytes xs ys ≡ true
same_from_equal xs ys = (same_decides xs ys).1

-- Lists that pass the test are equal.
pub equal_from_same : (xs ys : List ℕ) → same_bytes xs ys ≡ true → xs ≡ ys
equal_from_same xs ys = (same_decides xs ys).0

-- Lists of one length that agree up to their end pass the test.
pub same_from_agree : (xs ys : List ℕ) → length xs ≡ length ys → SameBetween xs ys 0 (length xs) → same_bytes xs ys ≡ true
same_from_agree xs ys long agree = same_from_equal xs ys (ext_get_or 0 xs ys long (λ k inside. agree k (omega arith) inside))
