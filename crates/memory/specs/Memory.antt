-- The part in a memory, and the memory after each call.
use Rattle.std.specs.Prelude.{ℕ, zero, suc, ◌+◌, ◌*◌, min, List, [], ◌++◌, map, length, take, drop, replicate}
use Rattle.std.specs.List.{range_with_len}
use Rattle.flash.specs.Part.{Block, Part, no_block}
use Rattle.memory.specs.declared.memory_part.MemoryPart.{MemoryPart}
use Rattle.memory.specs.Layout.{pages_of, endurance_of, record_count, record_at, page_at, bytes16, bytes32, written_in, stored_erases, page_in}

-- Block b of P pages that endures W erases.
abbrev pub block_in : List ℕ → ℕ → ℕ → ℕ → Block
block_in m P W b = record { pages = map (page_in m P b) (range_with_len 0 (written_in m P b)); erases = min (stored_erases m P b) W }

-- The part in a memory whose blocks have P pages and endure W erases.
abbrev pub part_in : List ℕ → ℕ → ℕ → Part
part_in m P W = record { blocks = map (block_in m P W) (range_with_len 0 (record_count m P)); per_block = P; endurance = W }

-- The part in a memory, by the pages to a block and the endurance that were asked for.
abbrev pub memory_of : List ℕ → ℕ → ℕ → Part
memory_of m pages endurance = part_in m (pages_of pages) (endurance_of endurance)

-- The part that a memory part shows.
abbrev pub shown_by : MemoryPart → Part
shown_by part = memory_of part.bytes.now part.limits.pages part.limits.endurance

-- The memory in which xs stands from i on, and every other byte is as it was.
abbrev pub put : List ℕ → ℕ → List ℕ → List ℕ
put m i xs = take i m ++ (xs ++ drop (i + length xs) m)

-- After page k of block b was programmed with x: x in the page's place, and k + 1 as the written count.
abbrev pub page_programmed : List ℕ → ℕ → ℕ → ℕ → List ℕ → List ℕ
page_programmed m P b k x = put (put m (page_at P b k) x) (record_at P b) (bytes16 (k + 1))

-- The memory after block b was erased: 255 in every byte of its pages, 0 as the written count, and an erase count that is one higher.
abbrev pub wiped : List ℕ → ℕ → ℕ → List ℕ
wiped m P b =
    put (put (put m (page_at P b 0) (replicate (256 * P) 255)) (record_at P b) (bytes16 0))
    (record_at P b + 4) (bytes32 (stored_erases m P b + 1))

-- The record of a block that was never written nor erased: 8 bytes of 0, and pages of 255.
abbrev pub blank_record : ℕ → List ℕ
blank_record P = replicate 8 0 ++ replicate (256 * P) 255

-- The bytes of n such records, one after another.
abbrev pub blank_records : ℕ → ℕ → List ℕ
blank_records P zero = []
blank_records P (suc n) = blank_records P n ++ blank_record P

-- The memory made fresh: every record blank, and the bytes past the last record as they were.
abbrev pub made_fresh : List ℕ → ℕ → List ℕ
made_fresh m P = blank_records P (record_count m P) ++ drop (record_at P (record_count m P)) m

-- A part of `count` blocks with no page written and no block erased.
abbrev pub clean_part : ℕ → ℕ → ℕ → Part
clean_part count P W = record { blocks = replicate count no_block; per_block = P; endurance = W }
