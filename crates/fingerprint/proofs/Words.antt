-- Fletcher's sums, word by word: the step of the loop over the bytes.
use Rattle.std.proofs.Common.{◌≡◌, ℕ, ◌+◌, ◌*◌, ◌%◌, ◌<◌, List, [], ◌∷◌, ◌++◌, length, get_or, drop, ap, ◌∙◌, arith}
use native.Mathlib.Nat.{mod-add-mod, add-mod}
use Rattle.std.proofs.lemmas.Grind.{common_steps}
use Rattle.std.proofs.lemmas.List.{drop_more, drop_all}
use Rattle.fingerprint.specs.Fletcher.{words_of, fletcher_from}

-- The word of the bytes at i and i + 1.
abbrev pub word_at : List ℕ → ℕ → ℕ
word_at xs i = get_or xs i 0 + get_or xs (i + 1) 0 * 256

-- The next two bytes are the next word, whatever comes after them.
pub words_more : (xs more : List ℕ) (i j : ℕ) → j ≡ i + 2 → i + 1 < length xs → words_of (drop i xs ++ more) ≡ word_at xs i ∷ words_of (drop j xs ++ more)
words_more xs more i j next inside =
    grind (arith, common_steps, drop_more)

-- An odd last byte is the last word.
pub words_last : (xs : List ℕ) (i : ℕ) → i + 1 ≡ length xs → words_of (drop i xs) ≡ get_or xs i 0 ∷ []
words_last xs i last =
    ap words_of (drop_more xs i 0 (omega arith)) ∙ ap (λ ys. words_of (get_or xs i 0 ∷ ys)) (drop_all (i + 1) xs (omega arith))

-- Nothing is left at the end.
pub words_all : (xs : List ℕ) (i : ℕ) → length xs ≡ i → words_of (drop i xs) ≡ []
words_all xs i end = ap words_of (drop_all i xs (omega arith))

-- A word may be added to sums that are not reduced yet.
pub delayed_more : (a b word : ℕ) (words : List ℕ) → fletcher_from (a % 65535) (b % 65535) (word ∷ words) ≡ fletcher_from ((a + word) % 65535) ((b + (a + word)) % 65535) words
delayed_more a b word words = cc (mod-add-mod a 65535 word, add-mod b (a + word) 65535)

-- So may the word at i, whatever comes after the bytes.
pub word_more : (xs more : List ℕ) (i j a b word : ℕ) → j ≡ i + 2 → i + 1 < length xs → word ≡ word_at xs i
    → fletcher_from ((a + word) % 65535) ((b + (a + word)) % 65535) (words_of (drop j xs ++ more)) ≡ fletcher_from (a % 65535) (b % 65535) (words_of (drop i xs ++ more))
word_more xs more i j a b word next inside here =
    grind (arith, words_more, delayed_more)
