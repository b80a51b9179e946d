-- The rule of each call: which answer it gives in a state, and the state after it.
use Rattle.std.specs.Prelude.{◌≡◌, ℕ, zero, suc, ◌+◌, ◌*◌, ◌<◌, ◌≤◌, Bool, true, cond, ◌⊎◌, List, [], ◌∷◌, ◌++◌, length, is_some, Some, None, Ok, Err, Option, Result, ◌≢◌}
use Rattle.std.specs.Result.{result_unwrap_or}
use Rattle.flash.specs.Part.{erases}
use Rattle.rules.specs.declared.refusal.Refusal.{Refusal}
use Rattle.rules.specs.declared.kind.Kind.{Kind}
use Rattle.rules.specs.declared.kind.Kind.TheVariants.{Stored, Shared, Unchanged}
use Rattle.rules.specs.declared.answer.Written.{Written}
use Rattle.rules.specs.declared.answer.Usage.{Usage}
use Rattle.rules.specs.Numbers.{refusal_number}
use Rattle.rules.specs.State.{Bytes, Entry, State, no_page, tally, block_count, per_block, flash_pages, host_pages, content, in_use, is_dead, hotness, is_clean, is_closed, is_part_written, clean_blocks, in_use_at, live_in, live_pages, dead_pages, unwritten_pages, held}
use Rattle.rules.specs.Tables.{repoint, EntryFor, lifted, merged, next_page, programmed, moved_to, erased_block}
use Rattle.rules.specs.Store.{Entered, Offers}
use Rattle.rules.specs.Devices.{Device, OnDevice}

-- Some block is part-written.
abbrev pub HasPartWritten : State → Type 0
HasPartWritten s = (b : ℕ) × (b < block_count s) × (is_part_written s b ≡ true)

-- Block b is opened: no block is part-written, and it is a least erased clean one. Which of several is left free.
abbrev pub Opens : State → ℕ → Type 0
Opens s b =
    (HasPartWritten s → ⊥) × (is_clean s b ≡ true)
    × ((c : ℕ) → c < block_count s → is_clean s c ≡ true → erases s.part b ≤ erases s.part c)

-- Block b takes the next page that is programmed: it is part-written, or it is opened.
abbrev pub Takes : State → ℕ → Type 0
Takes s b = (b < block_count s) × ((is_part_written s b ≡ true) ⊎ Opens s b)

-- How many pages of block b are dead.
abbrev pub dead_in : State → ℕ → ℕ
dead_in s b = tally (λ k. is_dead s (b * per_block s + k)) (per_block s)

-- Block b is closed and has a dead page.
abbrev pub Collectable : State → ℕ → Type 0
Collectable s b = (b < block_count s) × (is_closed s b ≡ true) × (0 < dead_in s b)

-- Block b can be collected: it is closed, has a dead page, and can still be erased.
abbrev pub Candidate : State → ℕ → Type 0
Candidate s b = Collectable s b × (erases s.part b < s.part.endurance)

-- A victim: a candidate with fewest pages in use. Which of several is left free.
abbrev pub Victim : State → ℕ → Type 0
Victim s v = Candidate s v × ((b : ℕ) → Candidate s b → live_in s v ≤ live_in s b)

-- The numbers below n that pass the test, ascending.
abbrev pub below : (ℕ → Bool) → ℕ → List ℕ
below f zero = []
below f (suc n) = below f n ++ cond (f n) (n ∷ []) []

-- Flash pages of block v, by their places in it, are moved one after the other, each to the block that then takes it.
abbrev pub Moves : ℕ → State → List ℕ → State → Type 0
Moves v s [] t = t ≡ s
Moves v s (k ∷ ks) t = (b : ℕ) × Takes s b × Moves v (moved_to s (v * per_block s + k) b) ks t

-- A collection of victim v: its pages in use are moved in order, then it is erased.
abbrev pub Collected : State → ℕ → State → Type 0
Collected s v t = (u : State) × Moves v s (below (in_use_at s v) (per_block s)) u × (t ≡ erased_block u v)

-- Refused with 7: no closed block has a dead page.
abbrev pub NothingDead : State → Refusal → Type 0
NothingDead s e = (refusal_number e ≡ 7) × ((b : ℕ) → Collectable s b → ⊥)

-- Refused with 3: some closed block has a dead page, and no such block can be erased any more.
abbrev pub AllWornOut : State → Refusal → Type 0
AllWornOut s e = (refusal_number e ≡ 3) × ((b : ℕ) × Collectable s b) × ((b : ℕ) → Candidate s b → ⊥)

-- Collect answers the pages moved, or refuses.
abbrev pub Collects : State → Result ℕ Refusal → State → Type 0
Collects s (Ok moved) t = (v : ℕ) × Victim s v × (moved ≡ live_in s v) × Collected s v t
Collects s (Err e) t = (t ≡ s) × (NothingDead s e ⊎ AllWornOut s e)

-- A page can be stored at once: some block is part-written, or two are clean.
abbrev pub Ready : State → Type 0
Ready s = HasPartWritten s ⊎ (2 ≤ clean_blocks s)

-- The state u in which a page is stored, and the pages moved to come there: at once, or after a collection.
abbrev pub Readied : State → ℕ → State → Type 0
Readied s moved u = (Ready s × (moved ≡ 0) × (u ≡ s)) ⊎ ((Ready s → ⊥) × Collects s (Ok moved) u)

-- The bytes x are stored as host page n: programmed, entered in the store with hotness 1 while the old reference still
-- counts, then named by n's word, and last the old reference is let go.
abbrev pub Stores : (Bytes → ℕ) → State → ℕ → Bytes → State → Type 0
Stores print s n x t =
    (b : ℕ) × (after : List (Option Entry)) × Takes s b
    × Entered (hotness s) s.store (record { print = print x; page = next_page s b }) 1 after
    × (t ≡ repoint (programmed s b x after) n (next_page s b))

-- Host page n holds just the bytes x.
abbrev pub Holds : State → ℕ → Bytes → Type 0
Holds s n x = held s n ≡ Some x

-- No entry of the store has the fingerprint of x on a page with equal bytes.
abbrev pub NoneOffered : (Bytes → ℕ) → State → Bytes → Type 0
NoneOffered print s x = (q : ℕ) → Offers print s x q → ⊥

-- The three kinds of an accepted write, the first that applies.
abbrev pub WritesAs : (Bytes → ℕ) → State → ℕ → Bytes → Kind → ℕ → State → Type 0
WritesAs print s n x Unchanged moved t = Holds s n x × (moved ≡ 0) × (t ≡ s)
WritesAs print s n x Shared moved t =
    (Holds s n x → ⊥) × (moved ≡ 0)
    × ((q : ℕ) × (e : ℕ) × Offers print s x q × EntryFor s q e × (t ≡ repoint (lifted s q e) n (4096 + e)))
WritesAs print s n x Stored moved t =
    (Holds s n x → ⊥) × NoneOffered print s x × ((u : State) × Readied s moved u × Stores print u n x t)

-- Refused with 4: there is no host page n.
abbrev pub NoHostPage : State → ℕ → Refusal → Type 0
NoHostPage s n e = (refusal_number e ≡ 4) × (host_pages s ≤ n)

-- Refused with 5: host page n is there, and what was given is not 256 bytes long.
abbrev pub WrongLength : State → ℕ → ℕ → Refusal → Type 0
WrongLength s n len e = (refusal_number e ≡ 5) × (n < host_pages s) × (len ≢ 256)

-- Refused with 6: host page n is there, the length is right, and the page is empty.
abbrev pub EmptyPage : State → ℕ → ℕ → Refusal → Type 0
EmptyPage s n len e = (refusal_number e ≡ 6) × (n < host_pages s) × (len ≡ 256) × (held s n ≡ None)

-- Refused with 3: the bytes would have to be stored, no block is ready for them, and none can be collected.
abbrev pub NoRoom : (Bytes → ℕ) → State → ℕ → Bytes → Refusal → Type 0
NoRoom print s n x e =
    (refusal_number e ≡ 3) × (n < host_pages s) × (length x ≡ 256) × (Holds s n x → ⊥) × NoneOffered print s x
    × (Ready s → ⊥) × ((b : ℕ) → Candidate s b → ⊥)

-- Write answers the kind and the pages moved, or refuses.
abbrev pub Writes : (Bytes → ℕ) → State → ℕ → Bytes → Result Written Refusal → State → Type 0
Writes print s n x (Ok w) t = (n < host_pages s) × (length x ≡ 256) × WritesAs print s n x w.kind w.moved t
Writes print s n x (Err e) t = (t ≡ s) × (NoHostPage s n e ⊎ (WrongLength s n (length x) e ⊎ NoRoom print s n x e))

-- Read gives what host page n holds, or refuses; `len` is the length of the buffer.
abbrev pub Reads : State → ℕ → ℕ → Result Bytes Refusal → State → Type 0
Reads s n len (Ok x) t = (t ≡ s) × (n < host_pages s) × (len ≡ 256) × (held s n ≡ Some x)
Reads s n len (Err e) t = (t ≡ s) × (NoHostPage s n e ⊎ (WrongLength s n len e ⊎ EmptyPage s n len e))

-- Read on any device, with the bytes of the buffer, all of them before and after: the page where it answers, and what was there
-- where it refuses.
abbrev pub ReadsInto : Device → ℕ → Bytes → Result Bytes Refusal → Device → Bytes → Type 0
ReadsInto d n before r d' after = OnDevice (λ s r t. Reads s n (length before) r t) d r d' × (after ≡ result_unwrap_or r before)

-- Trim empties host page n, and answers 1 if it had content, else 0; or it refuses.
abbrev pub Trims : State → ℕ → Result ℕ Refusal → State → Type 0
Trims s n (Ok had) t = (n < host_pages s) × (had ≡ cond (is_some (held s n)) 1 0) × (t ≡ repoint s n no_page)
Trims s n (Err e) t = (t ≡ s) × NoHostPage s n e

-- Flash pages i and j are in use and have equal content.
abbrev pub Copies : State → ℕ → ℕ → Type 0
Copies s i j =
    (i < flash_pages s) × (j < flash_pages s) × (in_use s i ≡ true) × (in_use s j ≡ true) × (content s.part i ≡ content s.part j)

-- Pages die one by one, each a copy j of the lowest page i in use with that content, until there is no copy.
abbrev pub Merges : ℕ → State → State → Type 0
Merges zero s t = (t ≡ s) × ((i j : ℕ) → Copies s i j → i ≡ j)
Merges (suc died) s t =
    (i : ℕ) × (j : ℕ) × (e : ℕ) × (i < j) × Copies s i j × ((k : ℕ) → Copies s k i → i ≤ k) × EntryFor s i e
    × Merges died (merged s i j e) t

-- Scan answers how many pages died; it never refuses.
abbrev pub Scans : State → Result ℕ Refusal → State → Type 0
Scans s (Ok died) t = Merges died s t
Scans s (Err e) t = ⊥

-- Usage answers the flash pages in use, dead and unwritten; it never refuses.
abbrev pub Asks : State → Result Usage Refusal → State → Type 0
Asks s (Ok u) t = (t ≡ s) × (u.live ≡ live_pages s) × (u.dead ≡ dead_pages s) × (u.unwritten ≡ unwritten_pages s)
Asks s (Err e) t = ⊥
