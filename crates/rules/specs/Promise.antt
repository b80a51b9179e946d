-- The promise over whole lives, in the words of the subject: pages, calls, answers, and what the flash shows.
use Rattle.std.specs.Prelude.{◌≡◌, ℕ, ◌+◌, ◌≤◌, Bool, true, false, cond, ◌||◌, List, [], ◌∷◌, length, Some, None, Ok, Err, Option, ◌==◌, ◌≢◌}
use Rattle.flash.specs.Part.{wear}
use Rattle.page.specs.Same.{same_bytes}
use Rattle.rules.specs.declared.answer.Usage.{Usage}
use Rattle.rules.specs.declared.answer.Reply.TheVariants.{Wrote, Page, Number, Used}
use Rattle.rules.specs.Numbers.{refusal_number, kind_number}
use Rattle.rules.specs.Answers.{Answer, is_refusal}
use Rattle.rules.specs.State.{Bytes, State, live_pages, page_map}
use Rattle.rules.specs.Runs.{Call, Step, Life}
use Rattle.rules.specs.Runs.Call.{write, read, trim, collect, scan, usage, save}

-- What a host sees of an answer: a refusal's number, that a write was accepted, the bytes read, or a number.
pub data Seen : Type 0 where
  refused : ℕ → Seen
  accepted : Seen
  bytes : Bytes → Seen
  number : ℕ → Seen

-- What the host sees of each answer.
abbrev pub seen : Answer → Seen
seen (Err e) = refused (refusal_number e)
seen (Ok (Wrote w)) = accepted
seen (Ok (Page x)) = bytes x
seen (Ok (Number k)) = number k
seen (Ok (Used u)) = accepted

-- Reads, writes and trims are the host's calls.
abbrev pub is_host : Call → Bool
is_host (write n x) = true
is_host (read n len) = true
is_host (trim n) = true
is_host collect = false
is_host scan = false
is_host usage = false
is_host (save len) = false

-- The host's calls of a history with their answers, in order.
abbrev pub host_calls : List (Call × Answer) → List (Call × Answer)
host_calls [] = []
host_calls (h ∷ hs) = cond (is_host h.0) (h ∷ host_calls hs) (host_calls hs)

-- Two lists of calls get the same answers, first with first, second with second, as long as the calls are the same and
-- neither was refused with 3.
abbrev pub SameAnswers : List (Call × Answer) → List (Call × Answer) → Type 0
SameAnswers [] ks = Unit {0}
SameAnswers (h ∷ hs) [] = Unit {0}
SameAnswers (h ∷ hs) (k ∷ ks) =
    h.0 ≡ k.0 → (seen h.1 ≢ refused 3) → (seen k.1 ≢ refused 3)
    → (seen h.1 ≡ seen k.1) × SameAnswers hs ks

-- Pages that one call stored: 1 for a write answered with kind 0.
abbrev pub stored_by : Call → Answer → ℕ
stored_by (write n x) (Ok (Wrote w)) = cond (kind_number w.kind == 0) 1 0
stored_by _ _ = 0

-- Pages that one call moved, as an accepted write or collect answers it.
abbrev pub moved_by : Call → Answer → ℕ
moved_by (write n x) (Ok (Wrote w)) = w.moved
moved_by collect (Ok (Number k)) = k
moved_by _ _ = 0

-- Pages stored and moved over a history.
abbrev pub stored_and_moved : List (Call × Answer) → ℕ
stored_and_moved [] = 0
stored_and_moved (h ∷ hs) = (stored_by h.0 h.1 + moved_by h.0 h.1) + stored_and_moved hs

-- Has a scan come with no write or trim accepted since? `so` says it of the calls before: a scan makes it true, an accepted
-- write or trim false, and any other call leaves it.
abbrev pub settled_by : Bool → Call → Answer → Bool
settled_by so (write n x) a = cond (is_refusal a) so false
settled_by so (read n len) a = so
settled_by so (trim n) a = cond (is_refusal a) so false
settled_by so collect a = so
settled_by so scan a = true
settled_by so usage a = so
settled_by so (save len) a = so

-- The same over a list of calls.
abbrev pub settled_from : Bool → List (Call × Answer) → Bool
settled_from so [] = so
settled_from so (h ∷ hs) = settled_from (settled_by so h.0 h.1) hs

-- A scan came, and no write or trim was accepted since.
abbrev pub settled : List (Call × Answer) → Bool
settled hs = settled_from false hs

-- The contents that a page map holds, in order.
abbrev pub contents : List (Option Bytes) → List Bytes
contents [] = []
contents (None ∷ xs) = contents xs
contents (Some x ∷ xs) = x ∷ contents xs

-- Does a content occur in a list?
abbrev pub occurs : Bytes → List Bytes → Bool
occurs x [] = false
occurs x (y ∷ ys) = same_bytes x y || occurs x ys

-- How many different contents a list has.
abbrev pub different : List Bytes → ℕ
different [] = 0
different (x ∷ xs) = cond (occurs x xs) (different xs) (different xs + 1)

-- What is promised of a life.
pub record Kept (l : Life) : Type 0 where
  -- Any other life, whatever its part and fingerprint, that starts with the same pages answers the same host calls alike,
  -- until one of the two is worn out.
  pub alike : (m : Life) → page_map l.start ≡ page_map m.start → SameAnswers (host_calls l.history) (host_calls m.history)
  -- The flash's own wear has grown by exactly the pages stored and moved.
  pub worn : wear l.end.part ≡ wear l.start.part + stored_and_moved l.history
  -- Flash pages in use are never fewer than the different contents held, and never more than the host pages with content.
  pub enough : different (contents (page_map l.end)) ≤ live_pages l.end
  pub few : live_pages l.end ≤ length (contents (page_map l.end))
  -- They are exactly the different contents if a scan came and no write or trim was accepted since.
  pub exact : settled l.history ≡ true → live_pages l.end ≡ different (contents (page_map l.end))
  -- A usage question asked at the end answers these flash pages in use.
  pub asked : (a : Answer) (t : State) → Step l.print l.end usage a t → (u : Usage) × (a ≡ Ok (Used u)) × (u.live ≡ live_pages l.end)

-- The promise: it is kept in every life.
abbrev pub Promise : Type 0
Promise = (l : Life) → Kept l
