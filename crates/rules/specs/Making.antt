-- What format and load accept, and the state they make.
use Rattle.std.specs.Prelude.{◌≡◌, ℕ, ◌+◌, ◌-◌, ◌*◌, ◌<◌, ◌≤◌, Bool, true, cond, ◌&&◌, ◌⊎◌, List, [], ◌∷◌, map, length, replicate, Some, None, Ok, Err, Option, Result, ◌==◌, ◌≢◌, nat_le}
use Rattle.flash.specs.Part.{Block, Part, Sound, written, erases}
use Rattle.rules.specs.declared.refusal.Refusal.{Refusal}
use Rattle.rules.specs.Numbers.{refusal_number}
use Rattle.rules.specs.State.{Bytes, Entry, State, no_page, flash_pages, block_count, host_pages, content, names, is_written, in_use, hotness, is_clean, is_part_written}
use Rattle.rules.specs.Devices.{Device}
use Rattle.rules.specs.Devices.Device.{made, unmade}
use Rattle.rules.specs.Store.{Entered, Offers}
use Rattle.rules.specs.Tables.{with_store}
use Rattle.rules.specs.Calls.{NoneOffered, below}

-- 2 to 255 blocks, 1 to 64 pages a block, at most 4,095 flash pages: none has the number that means "no page".
abbrev pub geometry_fits : ℕ → ℕ → Bool
geometry_fits blocks pages =
    (nat_le 2 blocks && nat_le blocks 255) && ((nat_le 1 pages && nat_le pages 64) && nat_le (blocks * pages) 4095)

-- 1 to (blocks - 1) × pages - 1 host pages: a block's worth and one page more stay free.
abbrev pub host_pages_fit : ℕ → ℕ → ℕ → Bool
host_pages_fit blocks pages host = nat_le 1 host && nat_le (host + 1) ((blocks - 1) * pages)

-- Format refuses a part and a number of host pages by their sizes with 1, then with 2; 0 where it does not. Load, whose order of
-- checks is not defined here yet, refuses the part with 1 too, and the number of host pages that an image has with 12.
abbrev pub size_refusal : ℕ → ℕ → ℕ → ℕ
size_refusal blocks pages host = cond (geometry_fits blocks pages) (cond (host_pages_fit blocks pages host) 0 2) 1

-- An answer to the question whether sizes are taken, as a number: 0 for yes, else the refusal's.
abbrev pub sizes_answer : Result (Unit {0}) Refusal → ℕ
sizes_answer (Ok u) = 0
sizes_answer (Err e) = refusal_number e

-- The sizes are accepted.
abbrev pub SizesFit : Part → ℕ → Type 0
SizesFit p host = size_refusal (length p.blocks) p.per_block host ≡ 0

-- A block after format: erased once, unless it was clean.
abbrev pub cleared : Block → Block
cleared x = record { pages = []; erases = cond (length x.pages == 0) x.erases (x.erases + 1) }

-- Format accepts a part and a number of host pages: the sizes fit, and every block that is not clean can be erased.
abbrev pub FormatAccepts : Part → ℕ → Type 0
FormatAccepts p host =
    SizesFit p host
    × ((b : ℕ) → b < length p.blocks → (written p b ≢ 0) → erases p b < p.endurance)

-- The state after an accepted format: every block that was not clean erased, every host page empty.
abbrev pub formatted : Part → ℕ → State
formatted p host =
    record {
      part = record { blocks = map cleared p.blocks; per_block = p.per_block; endurance = p.endurance };
      words = replicate host no_page;
      shared = replicate (length p.blocks * p.per_block) no_page;
      store = replicate 256 None;
    }

-- Refused with 1 or 2: the sizes do not fit.
abbrev pub SizesRefused : Part → ℕ → Refusal → Type 0
SizesRefused p host e = (SizesFit p host → ⊥) × (refusal_number e ≡ size_refusal (length p.blocks) p.per_block host)

-- Refused with 3: the sizes fit, and a block that is not clean is worn out.
abbrev pub BlockWornOut : Part → ℕ → Refusal → Type 0
BlockWornOut p host e =
    SizesFit p host × (refusal_number e ≡ 3)
    × ((b : ℕ) × (b < length p.blocks) × (written p b ≢ 0) × (p.endurance ≤ erases p b))

-- Refused with 255: there is no memory for the tables, of a making that would be accepted if there were.
abbrev pub OutOfMemory : Type 0 → Refusal → Type 0
OutOfMemory accepts e = (refusal_number e ≡ 255) × accepts

-- Format is refused.
abbrev pub FormatRefused : Part → ℕ → Refusal → Type 0
FormatRefused p host e = SizesRefused p host e ⊎ (BlockWornOut p host e ⊎ OutOfMemory (FormatAccepts p host) e)

-- Format always hands back a device: a made one in the formatted state, or an unmade one whose part is as it was.
abbrev pub Formats : Part → ℕ → Device → Type 0
Formats p host (made s) = FormatAccepts p host × (s ≡ formatted p host)
Formats p host (unmade e q) = (q ≡ p) × FormatRefused p host e

-- Words and entries agree with a part. `f` is what the namers hold, `is_written` which flash pages are written, and `host`
-- the number of host pages. A word names no free entry; an entry names a page or none; no flash page has two namers; a named
-- page is written; an entry that names a page is named by some word.
pub record Agree (f : ℕ → ℕ) (is_written : ℕ → Bool) (host : ℕ) : Type 0 where
  pub used : (n : ℕ) → n < 4096 → 4096 ≤ f n → f (f n) < no_page
  pub flat : (k : ℕ) → 4096 ≤ k → f k ≤ no_page
  pub once : (j k : ℕ) → f j < no_page → f j ≡ f k → j ≡ k
  pub there : (k : ℕ) → f k < no_page → is_written (f k) ≡ true
  pub alive : (k : ℕ) → 4096 ≤ k → f k < no_page → (n : ℕ) × (n < host) × (f n ≡ k)

-- The words and entries of a device agree with its part.
abbrev pub Agrees : State → Type 0
Agrees s = Agree (names s) (is_written s.part) (host_pages s)

-- What the flash of a device looks like between calls: some block is clean, and at most one is part-written.
pub record BlocksStand (s : State) : Type 0 where
  pub spare : (b : ℕ) × (b < block_count s) × (is_clean s b ≡ true)
  pub single : (b c : ℕ) → b < block_count s → c < block_count s → is_part_written s b ≡ true → is_part_written s c ≡ true → b ≡ c

-- Flash page q with the content x comes to a store that is being refilled: it is entered with its own hotness, unless an entry
-- with equal content stands already.
abbrev pub Refills : (Bytes → ℕ) → State → ℕ → Bytes → List (Option Entry) → List (Option Entry) → Type 0
Refills print s q x store next =
    (((p : ℕ) × Offers print (with_store s store) x p) × (next ≡ store))
    ⊎ (NoneOffered print (with_store s store) x × Entered (hotness s) store (record { print = print x; page = q }) (hotness s q) next)

-- The store is refilled from flash pages in use, in order.
abbrev pub Refilled : (Bytes → ℕ) → State → List ℕ → List (Option Entry) → List (Option Entry) → Type 0
Refilled print s [] store after = after ≡ store
Refilled print s (q ∷ qs) store after =
    (x : Bytes) × (next : List (Option Entry)) × (content s.part q ≡ Some x) × Refills print s q x store next
    × Refilled print s qs next after

-- What an image says of the tables: the mapping words and the shared entries that it carries.
pub record ImageTables : Type 0 where
  pub words : List ℕ
  pub shared : List ℕ

-- A state that load brings back: sizes that fit, words and entries that agree with the flash, and a store refilled from
-- the pages in use.
pub record Loaded (print : Bytes → ℕ) (s : State) : Type 0 where
  pub sizes : SizesFit s.part (host_pages s)
  pub entries : length s.shared ≡ flash_pages s
  pub agrees : Agrees s
  pub blocks : BlocksStand s
  pub filled : Refilled print s (below (in_use s) (flash_pages s)) (replicate 256 None) s.store

-- Load always hands back a device: a made one with the part as it was and the words and entries that the image says, or an unmade
-- one whose part is as it was. Not yet whole: which bytes say which words and entries, and which fault is found in which bytes, is
-- not said here before the bytes of an image are defined; then this is a relation between the part, those bytes, the fault and the device.
abbrev pub Loads : (Bytes → ℕ) → Part → ImageTables → Device → Type 0
Loads print p image (made s) = (s.part ≡ p) × (s.words ≡ image.words) × (s.shared ≡ image.shared) × Loaded print s
Loads print p image (unmade e q) = q ≡ p

-- A device in state s is made by an accepted format or load of a well-formed part.
abbrev pub Made : (Bytes → ℕ) → State → Type 0
Made print s =
    ((p : Part) × (host : ℕ) × Sound p × Formats p host (made s))
    ⊎ ((p : Part) × (image : ImageTables) × Sound p × Loads print p image (made s))
