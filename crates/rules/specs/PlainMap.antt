-- The layer as a plain page map: a list of pages, each empty or a content, and nothing else.
use Rattle.std.specs.Prelude.{◌≡◌, Bool, true, false, cond, ◌⊎◌, List, length, is_some, Some, None, Option, ◌==◌, nat_lt, slice_index_or, slice_set}
use Rattle.rules.specs.Answers.{Answer}
use Rattle.rules.specs.State.{Bytes}
use Rattle.rules.specs.Runs.{Call}
use Rattle.rules.specs.Runs.Call.{write, read, trim, collect, scan, usage, save}
use Rattle.rules.specs.Promise.{Seen, seen, is_host}
use Rattle.rules.specs.Promise.Seen.{refused, accepted, bytes, number}

-- A page that is read: its bytes, or refused with 6 if it is empty.
abbrev pub shown : Option Bytes → Seen
shown None = refused 6
shown (Some x) = bytes x

-- What the page map answers to a host's call.
abbrev pub plain_answer : List (Option Bytes) → Call → Seen
plain_answer m (write n x) =
    cond (nat_lt n (length m)) (cond (length x == 256) accepted (refused 5)) (refused 4)
plain_answer m (read n len) =
    cond (nat_lt n (length m)) (cond (len == 256) (shown (slice_index_or m n None)) (refused 5)) (refused 4)
plain_answer m (trim n) =
    cond (nat_lt n (length m)) (number (cond (is_some (slice_index_or m n None)) 1 0)) (refused 4)
plain_answer m collect = accepted
plain_answer m scan = accepted
plain_answer m usage = accepted
plain_answer m (save len) = accepted

-- The page map after a call: an accepted write sets page n, a trim empties it, and all else changes nothing.
abbrev pub plain_after : List (Option Bytes) → Call → List (Option Bytes)
plain_after m (write n x) = cond (length x == 256) (slice_set m n (Some x)) m
plain_after m (read n len) = m
plain_after m (trim n) = slice_set m n None
plain_after m collect = m
plain_after m scan = m
plain_after m usage = m
plain_after m (save len) = m

-- Is a call a write? Only a write may find the flash worn out: a read and a trim need no room on it.
abbrev pub is_write : Call → Bool
is_write (write n x) = true
is_write _ = false

-- A call with its answer is as the page map has it: a write refused with 3 and nothing changed, or answered and changed as above.
abbrev pub Plain : List (Option Bytes) → Call → Answer → List (Option Bytes) → Type 0
Plain m c a after =
    ((is_write c ≡ true) × (seen a ≡ refused 3) × (after ≡ m)) ⊎ ((is_host c ≡ true → seen a ≡ plain_answer m c) × (after ≡ plain_after m c))
