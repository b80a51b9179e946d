-- Whole runs from the making on.
use Rattle.std.specs.Prelude.{◌≡◌, ℕ, ◌<◌, ◌≤◌, List, [], ◌∷◌, length, drop, Ok, Err, Result}
use Rattle.rules.specs.declared.refusal.Refusal.{Refusal}
use Rattle.rules.specs.declared.answer.Written.{Written}
use Rattle.rules.specs.declared.answer.Usage.{Usage}
use Rattle.rules.specs.declared.answer.Reply.TheVariants.{Wrote, Page, Number, Used}
use Rattle.rules.specs.Numbers.{refusal_number}
use Rattle.rules.specs.Answers.{Answer, answer_of}
use Rattle.rules.specs.State.{Bytes, State, block_count, per_block, host_pages}
use Rattle.rules.specs.Calls.{Writes, ReadsInto, Trims, Collects, Scans, Asks}
use Rattle.rules.specs.Image.{image_length}
use Rattle.rules.specs.Devices.{Device, OnDevice}
use Rattle.rules.specs.Devices.Device.{made}
use Rattle.rules.specs.Making.{Made}

-- A call with its arguments: a write has its bytes, a read and a save the length of their buffer.
pub data Call : Type 0 where
  write : ℕ → Bytes → Call
  read : ℕ → ℕ → Call
  trim : ℕ → Call
  collect : Call
  scan : Call
  usage : Call
  save : ℕ → Call

-- Save answers the length of the image, and refuses with 8 if the buffer is shorter.
abbrev pub Saves : State → ℕ → Result ℕ Refusal → State → Type 0
Saves s len (Ok size) t =
    (t ≡ s) × (size ≡ image_length (block_count s) (per_block s) (host_pages s)) × (size ≤ len)
Saves s len (Err e) t =
    (t ≡ s) × (refusal_number e ≡ 8) × (len < image_length (block_count s) (per_block s) (host_pages s))

-- What a save leaves of the buffer: every byte after the image, and all bytes where it refuses. Not yet whole: which bytes stand
-- at the front is not said here before the bytes of an image are defined.
abbrev pub Leaves : Result ℕ Refusal → Bytes → Bytes → Type 0
Leaves (Ok size) before after = (length after ≡ length before) × (drop size after ≡ drop size before)
Leaves (Err e) before after = after ≡ before

-- Save on any device, with the bytes of the buffer, all of them before and after.
abbrev pub SavesInto : Device → Bytes → Result ℕ Refusal → Device → Bytes → Type 0
SavesInto d before r d' after = OnDevice (λ s r t. Saves s (length before) r t) d r d' × Leaves r before after

-- A call on some buffer of this length.
abbrev pub WithBuffer : {X : Type 0} → (Bytes → Result X Refusal → Device → Bytes → Type 0) → ℕ → Result X Refusal → Device → Type 0
WithBuffer rule len r d = (before : Bytes) × (after : Bytes) × (length before ≡ len) × rule before r d after

-- One call: in state s it may answer a and leave state t. A recorded read or save has the length of its buffer, and the buffer any bytes.
abbrev pub Step : (Bytes → ℕ) → State → Call → Answer → State → Type 0
Step print s (write n x) a t = (r : Result Written Refusal) × (a ≡ answer_of Wrote r) × Writes print s n x r t
Step print s (read n len) a t = (r : Result Bytes Refusal) × (a ≡ answer_of Page r) × WithBuffer (ReadsInto (made s) n) len r (made t)
Step print s (trim n) a t = (r : Result ℕ Refusal) × (a ≡ answer_of Number r) × Trims s n r t
Step print s collect a t = (r : Result ℕ Refusal) × (a ≡ answer_of Number r) × Collects s r t
Step print s scan a t = (r : Result ℕ Refusal) × (a ≡ answer_of Number r) × Scans s r t
Step print s usage a t = (r : Result Usage Refusal) × (a ≡ answer_of Used r) × Asks s r t
Step print s (save len) a t = (r : Result ℕ Refusal) × (a ≡ answer_of Number r) × WithBuffer (SavesInto (made s)) len r (made t)

-- One call on a device, made or not: it may answer a and leave device d'.
abbrev pub DeviceStep : (Bytes → ℕ) → Device → Call → Answer → Device → Type 0
DeviceStep print d c a d' = OnDevice (λ s r t. Step print s c r t) d a d'

-- A list of calls with their answers leads from s to t.
abbrev pub Run : (Bytes → ℕ) → State → List (Call × Answer) → State → Type 0
Run print s [] t = t ≡ s
Run print s (h ∷ hs) t = (m : State) × Step print s h.0 h.1 m × Run print m hs t

-- A life: an accepted making, then calls with the answers that the rules lead through.
pub record Life : Type 0 where
  pub print : Bytes → ℕ
  pub start : State
  pub made : Made print start
  pub history : List (Call × Answer)
  pub end : State
  pub ran : Run print start history end
