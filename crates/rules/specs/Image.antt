-- The image: the tables as blocks of words.
use Rattle.std.specs.Prelude.{ℕ, zero, suc, ◌+◌, ◌*◌, ◌/◌, ◌%◌, List, [], ◌∷◌, ◌++◌, length, take, drop, replicate}
use Rattle.flash.specs.Part.{Block}
use Rattle.rules.specs.State.{State, block_count, per_block, flash_pages, host_pages}

-- One image block: its kind, its place in the image, and its 252 words of 16 bits.
pub record ImageBlock : Type 0 where
  pub kind : ℕ
  pub place : ℕ
  pub words : List ℕ

-- How many blocks a table of n words takes.
abbrev pub blocks_for : ℕ → ℕ
blocks_for n = (n + 251) / 252

-- The blocks of one table from place `at` on, `count` of them; leftover words are zero.
abbrev pub table_blocks : ℕ → ℕ → ℕ → List ℕ → List ImageBlock
table_blocks kind at zero words = []
table_blocks kind at (suc count) words =
    record { kind = kind; place = at; words = take 252 (words ++ replicate 252 0) } ∷ table_blocks kind (at + 1) count (drop 252 words)

-- A flash block's three words: written count, erase count low and high half.
abbrev pub count_words : List Block → List ℕ
count_words [] = []
count_words (x ∷ xs) = length x.pages ∷ (x.erases % 65536 ∷ (x.erases / 65536 ∷ count_words xs))

-- The head's words: blocks, pages per block, host pages, endurance low and high half.
abbrev pub head_words : State → List ℕ
head_words s =
    block_count s ∷ (per_block s ∷ (host_pages s ∷ (s.part.endurance % 65536 ∷ (s.part.endurance / 65536 ∷ []))))

-- The image: the head (kind 1), the mapping words (2), the shared entries (3), the counts of the flash blocks (4), each
-- starting a block.
abbrev pub image_of : State → List ImageBlock
image_of s =
    let words = blocks_for (host_pages s) in
    let entries = blocks_for (flash_pages s) in
    table_blocks 1 0 1 (head_words s) ++ (table_blocks 2 1 words s.words
    ++ (table_blocks 3 (1 + words) entries s.shared
    ++ table_blocks 4 (1 + words + entries) (blocks_for (3 * block_count s)) (count_words s.part.blocks)))

-- The bytes of an image, 512 a block.
abbrev pub image_length : ℕ → ℕ → ℕ → ℕ
image_length blocks pages host = 512 * (1 + blocks_for host + blocks_for (blocks * pages) + blocks_for (3 * blocks))
