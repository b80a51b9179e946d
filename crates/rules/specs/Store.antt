-- The fingerprint store: 256 places in 16 segments of 16. Fingerprint f belongs in segment f mod 16.
use Rattle.std.specs.Prelude.{◌≡◌, ℕ, ◌/◌, ◌%◌, ◌<◌, ◌≤◌, List, Some, None, Option, slice_index_or, slice_set}
use Rattle.rules.specs.State.{Bytes, Entry, State, content}

-- What stands at place k of a store.
abbrev pub entry_at : List (Option Entry) → ℕ → Option Entry
entry_at store k = slice_index_or store k None

-- Place k lies in the segment of fingerprint f.
abbrev pub InSegment : ℕ → ℕ → Type 0
InSegment f k = (k < 256) × (k / 16 ≡ f % 16)

-- Every place of fingerprint f's segment has an entry.
abbrev pub Full : List (Option Entry) → ℕ → Type 0
Full store f = (k : ℕ) → InSegment f k → (e : Entry) × (entry_at store k ≡ Some e)

-- The store after a new entry came that is as hot as `heat`; `hot` is the hotness of a flash page at that moment. It takes
-- a free place of its segment. In a full segment it replaces a coldest entry if it is at least as hot, and is otherwise left
-- out. Which free place and which of several coldest entries is left free.
pub data Entered (hot : ℕ → ℕ) (store : List (Option Entry)) (new : Entry) (heat : ℕ) (after : List (Option Entry)) : Type 0 where
  takes : (k : ℕ) → InSegment new.print k → entry_at store k ≡ None
      → after ≡ slice_set store k (Some new) → Entered hot store new heat after
  replaces : (k : ℕ) (old : Entry) → Full store new.print → InSegment new.print k → entry_at store k ≡ Some old
      → ((j : ℕ) (e : Entry) → InSegment new.print j → entry_at store j ≡ Some e → hot old.page ≤ hot e.page)
      → hot old.page ≤ heat → after ≡ slice_set store k (Some new) → Entered hot store new heat after
  left_out : Full store new.print
      → ((j : ℕ) (e : Entry) → InSegment new.print j → entry_at store j ≡ Some e → heat < hot e.page)
      → after ≡ store → Entered hot store new heat after

-- An entry of the store has the fingerprint of the bytes x, and its page q holds equal bytes.
abbrev pub Offers : (Bytes → ℕ) → State → Bytes → ℕ → Type 0
Offers print s x q =
    (k : ℕ) × (entry_at s.store k ≡ Some (record { print = print x; page = q })) × (content s.part q ≡ Some x)
