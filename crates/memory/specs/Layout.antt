-- How the blocks of a part lie in a memory: one record after another, each the block's two counts and then its pages.
use Rattle.std.specs.Prelude.{ℕ, ◌+◌, ◌*◌, ◌/◌, ◌%◌, min, max, List, [], ◌∷◌, length, take, drop, slice_index}

-- The pages of a block, by the number asked for: at least 1, at most 64.
abbrev pub pages_of : ℕ → ℕ
pages_of given = min (max given 1) 64

-- The erases that a block endures, by the number asked for: at most a million.
abbrev pub endurance_of : ℕ → ℕ
endurance_of given = min given 1000000

-- The bytes of a block with P pages: 8 for its counts, and 256 for each page.
abbrev pub record_size : ℕ → ℕ
record_size P = 8 + 256 * P

-- How many blocks lie in a memory: as many whole records as it has, at most 255.
abbrev pub record_count : List ℕ → ℕ → ℕ
record_count m P = min (length m / record_size P) 255

-- Where the record of block b begins.
abbrev pub record_at : ℕ → ℕ → ℕ
record_at P b = b * record_size P

-- Where page k of block b begins.
abbrev pub page_at : ℕ → ℕ → ℕ → ℕ
page_at P b k = record_at P b + (8 + 256 * k)

-- The number in two bytes from i on, the lowest byte first.
abbrev pub number16 : List ℕ → ℕ → ℕ
number16 m i = slice_index m i + slice_index m (i + 1) * 256

-- The number in four bytes from i on, the lowest byte first.
abbrev pub number32 : List ℕ → ℕ → ℕ
number32 m i = slice_index m i + slice_index m (i + 1) * 256 + slice_index m (i + 2) * 65536 + slice_index m (i + 3) * 16777216

-- A number as two bytes, the lowest first.
abbrev pub bytes16 : ℕ → List ℕ
bytes16 n = (n % 256) ∷ (n / 256 % 256) ∷ []

-- A number as four bytes, the lowest first.
abbrev pub bytes32 : ℕ → List ℕ
bytes32 n = (n % 256) ∷ (n / 256 % 256) ∷ (n / 65536 % 256) ∷ (n / 16777216 % 256) ∷ []

-- How many pages of block b are written: bytes 0 and 1 of its record, at most P.
abbrev pub written_in : List ℕ → ℕ → ℕ → ℕ
written_in m P b = min (number16 m (record_at P b)) P

-- The erase count of block b as it is stored: bytes 4 to 7 of its record.
abbrev pub stored_erases : List ℕ → ℕ → ℕ → ℕ
stored_erases m P b = number32 m (record_at P b + 4)

-- The bytes of page k of block b.
abbrev pub page_in : List ℕ → ℕ → ℕ → ℕ → List ℕ
page_in m P b k = take 256 (drop (page_at P b k) m)
