-- The numbers of both kinds fit 32 bits.
use Rattle.std.proofs.Common.{ℕ, ◌+◌, ◌%◌, ◌^◌, ◌<◌, List, [], ◌∷◌, arith}
use Rattle.std.proofs.lemmas.Grind.{common_steps}
use Rattle.std.specs.List.{AllByRecursion}
use Rattle.fingerprint.specs.Sample.{sample_of}
use Rattle.fingerprint.specs.Fletcher.{fletcher_from, fletcher_of, words_of}

-- Sums below the modulus come to a number of 32 bits.
fletcher_from_fits : (a b : ℕ) (words : List ℕ) → a < 65535 → b < 65535 → fletcher_from a b words < 2 ^ 32
fletcher_from_fits a b [] low high = omega arith
fletcher_from_fits a b (word ∷ words) low high = fletcher_from_fits ((a + word) % 65535) ((b + (a + word) % 65535) % 65535) words (omega arith) (omega arith)

-- Fletcher's number fits 32 bits.
pub fletcher_fits : (bytes : List ℕ) → fletcher_of bytes < 2 ^ 32
fletcher_fits bytes = fletcher_from_fits 0 0 (words_of bytes) (omega arith) (omega arith)

-- Sample's number of bytes fits 32 bits.
pub sample_fits : (bytes : List ℕ) → AllByRecursion (λ b. b < 256) bytes → sample_of bytes < 2 ^ 32
sample_fits bytes all = grind (arith, common_steps)
