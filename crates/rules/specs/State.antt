-- The state of a made device, and the words of the subject over it.
use Rattle.std.specs.Prelude.{ℕ, zero, suc, ◌+◌, ◌-◌, ◌*◌, ◌/◌, ◌%◌, min, Bool, cond, not, ◌&&◌, List, map, length, Option, ◌==◌, nat_eq, nat_lt, slice_index_or}
use Rattle.std.specs.List.{slice_get, range_with_len}
use Rattle.flash.specs.Part.{Part, block, written}

-- A page's bytes, 256 of them where it is a whole page.
abbrev pub Bytes : Type 0
Bytes = List ℕ

-- An entry of the fingerprint store: a fingerprint, and the flash page whose content has it.
pub record Entry : Type 0 where
  pub print : ℕ
  pub page : ℕ

-- A made device: what its part shows; a mapping word for each host page; the shared entries, one for each flash page;
-- and the places of the fingerprint store, each free or an entry.
pub record State : Type 0 where
  pub part : Part
  pub words : List ℕ
  pub shared : List ℕ
  pub store : List (Option Entry)

-- The value of a mapping word, or of a shared entry, that stands for no flash page.
abbrev pub no_page : ℕ
no_page = 4095

-- How many of the numbers below n pass the test.
abbrev pub tally : (ℕ → Bool) → ℕ → ℕ
tally f zero = 0
tally f (suc n) = tally f n + cond (f n) 1 0

-- The number of blocks.
abbrev pub block_count : State → ℕ
block_count s = length s.part.blocks

-- The pages that a block has room for.
abbrev pub per_block : State → ℕ
per_block s = s.part.per_block

-- The number of flash pages. Flash page b × per_block + k is page k of block b.
abbrev pub flash_pages : State → ℕ
flash_pages s = block_count s * per_block s

-- The number of host pages.
abbrev pub host_pages : State → ℕ
host_pages s = length s.words

-- The content of flash page q, if it is written.
abbrev pub content : Part → ℕ → Option Bytes
content p q = slice_get (block p (q / p.per_block)).pages (q % p.per_block)

-- Is flash page q written?
abbrev pub is_written : Part → ℕ → Bool
is_written p q = nat_lt (q % p.per_block) (written p (q / p.per_block))

-- The namers of flash pages: number k below 4,096 is host page k's mapping word, and from there on shared entry k - 4,096.
-- What a namer holds; past the last of its kind, no page. A word of 4,096 and more is thus the number of the entry it names.
abbrev pub name : List ℕ → List ℕ → ℕ → ℕ
name words shared k = cond (nat_lt k 4096) (slice_index_or words k no_page) (slice_index_or shared (k - 4096) no_page)

-- What the namers of a device hold.
abbrev pub names : State → ℕ → ℕ
names s = name s.words s.shared

-- The flash page that a value w of a mapping word leads to: itself, or the one that its shared entry holds.
abbrev pub leads : (ℕ → ℕ) → ℕ → ℕ
leads f w = cond (nat_lt w 4096) w (f w)

-- The flash page that host page n's word reaches; 4,095 if it reaches none.
abbrev pub reach : State → ℕ → ℕ
reach s n = leads (names s) (names s n)

-- The references of flash page q: the words that reach it.
abbrev pub references : State → ℕ → ℕ
references s q = tally (λ n. nat_eq (reach s n) q) (host_pages s)

-- A flash page is in use when some word reaches it.
abbrev pub in_use : State → ℕ → Bool
in_use s q = nat_lt 0 (references s q)

-- A written page that is not in use is dead.
abbrev pub is_dead : State → ℕ → Bool
is_dead s q = is_written s.part q && not (in_use s q)

-- How often a page counts as referred to where store entries are compared.
abbrev pub hotness : State → ℕ → ℕ
hotness s q = min 255 (references s q)

-- A block is clean if none of its pages is written.
abbrev pub is_clean : State → ℕ → Bool
is_clean s b = written s.part b == 0

-- A block is closed if all of its pages are written.
abbrev pub is_closed : State → ℕ → Bool
is_closed s b = written s.part b == per_block s

-- A block is part-written if some of its pages are written, and not all.
abbrev pub is_part_written : State → ℕ → Bool
is_part_written s b = nat_lt 0 (written s.part b) && nat_lt (written s.part b) (per_block s)

-- How many blocks are clean.
abbrev pub clean_blocks : State → ℕ
clean_blocks s = tally (is_clean s) (block_count s)

-- Is page k of block b in use?
abbrev pub in_use_at : State → ℕ → ℕ → Bool
in_use_at s b k = in_use s (b * per_block s + k)

-- How many pages of block b are in use.
abbrev pub live_in : State → ℕ → ℕ
live_in s b = tally (in_use_at s b) (per_block s)

-- How many flash pages are in use.
abbrev pub live_pages : State → ℕ
live_pages s = tally (in_use s) (flash_pages s)

-- How many flash pages are dead.
abbrev pub dead_pages : State → ℕ
dead_pages s = tally (is_dead s) (flash_pages s)

-- How many flash pages are unwritten.
abbrev pub unwritten_pages : State → ℕ
unwritten_pages s = tally (λ q. not (is_written s.part q)) (flash_pages s)

-- What host page n holds: nothing, or the content of the flash page that it reaches.
abbrev pub held : State → ℕ → Option Bytes
held s n = content s.part (reach s n)

-- The page map: what each host page holds, in order.
abbrev pub page_map : State → List (Option Bytes)
page_map s = map (held s) (range_with_len 0 (host_pages s))
