-- What a flash part means: for each block the pages written since its last erase, and how often it was erased.
use Rattle.std.specs.Prelude.{◌≡◌, ℕ, ◌+◌, ◌*◌, ◌<◌, ◌≤◌, List, [], ◌∷◌, ◌++◌, length, slice_index_or, slice_set}

-- One block: the contents written since its last erase, in order, each the list of a page's bytes; and its erase count.
pub record Block : Type 0 where
  pub pages : List (List ℕ)
  pub erases : ℕ

-- A part: its blocks, the pages that a block has room for, and the number of erases that a block endures.
pub record Part : Type 0 where
  pub blocks : List Block
  pub per_block : ℕ
  pub endurance : ℕ

-- What stands for a block that does not exist: nothing written, never erased.
abbrev pub no_block : Block
no_block = record { pages = []; erases = 0 }

-- Block b of the part.
abbrev pub block : Part → ℕ → Block
block p b = slice_index_or p.blocks b no_block

-- How many pages of block b are written; 0 for a block that does not exist.
abbrev pub written : Part → ℕ → ℕ
written p b = length (block p b).pages

-- How often block b was erased; 0 for a block that does not exist.
abbrev pub erases : Part → ℕ → ℕ
erases p b = (block p b).erases

-- The bytes of page k of block b, none for a page that is not written.
abbrev pub page_bytes : Part → ℕ → ℕ → List ℕ
page_bytes p b k = slice_index_or (block p b).pages k []

-- The part in which block b is another.
abbrev pub with_block : Part → ℕ → Block → Part
with_block p b new = record { blocks = slice_set p.blocks b new; per_block = p.per_block; endurance = p.endurance }

-- The part after the bytes x were programmed in the next page of block b.
abbrev pub appended : Part → ℕ → List ℕ → Part
appended p b x =
    with_block p b (record { pages = (block p b).pages ++ x ∷ []; erases = (block p b).erases })

-- The part after block b was erased.
abbrev pub erased : Part → ℕ → Part
erased p b = with_block p b (record { pages = []; erases = (block p b).erases + 1 })

-- A well-formed block of a part: no more pages than it has room for, no more erases than it endures, every page 256 bytes.
pub record SoundBlock (per_block endurance : ℕ) (x : Block) : Type 0 where
  pub room : length x.pages ≤ per_block
  pub worn_at_most : x.erases ≤ endurance
  pub whole : (k : ℕ) → k < length x.pages → length (slice_index_or x.pages k []) ≡ 256

-- A well-formed part: every block is, and no block endures more than a million erases.
pub record Sound (p : Part) : Type 0 where
  pub each : (b : ℕ) → b < length p.blocks → SoundBlock p.per_block p.endurance (block p b)
  pub limit : p.endurance ≤ 1000000

-- The wear of some blocks: pages written since the last erase, and a block's worth of pages for each erase.
abbrev pub wear_of : ℕ → List Block → ℕ
wear_of per_block [] = 0
wear_of per_block (x ∷ xs) = (length x.pages + per_block * x.erases) + wear_of per_block xs

-- The wear of a part, summed over its blocks.
abbrev pub wear : Part → ℕ
wear p = wear_of p.per_block p.blocks
