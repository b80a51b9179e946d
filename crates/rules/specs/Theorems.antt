-- Theorems that show that the rules say what they should.
use Rattle.std.specs.Prelude.{◌≡◌, ◌≢◌, ℕ, ◌<◌, true, false, Err}
use Rattle.flash.specs.Part.{Part}
use Rattle.rules.specs.declared.refusal.Refusal.{Refusal}
use Rattle.rules.specs.Numbers.{refusal_number}
use Rattle.rules.specs.State.{Bytes, State, flash_pages, in_use, clean_blocks, page_map}
use Rattle.rules.specs.Tables.{EntryFor}
use Rattle.rules.specs.Calls.{HasPartWritten, Collectable, Victim, Collected, Ready}
use Rattle.rules.specs.Devices.{Device}
use Rattle.rules.specs.Devices.Device.{made, unmade}
use Rattle.rules.specs.Making.{Formats, ImageTables, Loads, Made}
use Rattle.rules.specs.Stands.{Stands}
use Rattle.rules.specs.Answers.{Answer, is_refusal}
use Rattle.rules.specs.Runs.{Call, Step, DeviceStep}
use Rattle.rules.specs.Promise.{is_host}
use Rattle.rules.specs.PlainMap.{Plain}

-- A device that was made stands, and every call leaves it standing.
pub record AlwaysStands : Type 0 where
  pub at_first : (print : Bytes → ℕ) (s : State) → Made print s → Stands print s
  pub afterwards : (print : Bytes → ℕ) (s : State) (c : Call) (a : Answer) (t : State) → Stands print s → Step print s c a t → Stands print t

-- A making, accepted or refused.
pub record MakingSays : Type 0 where
  -- Every format has an answer.
  pub answered : (p : Part) (host : ℕ) → (d : Device) × Formats p host d
  -- A refused format leaves the part as it was, and so does a refused load.
  pub untouched : (p : Part) (host : ℕ) (e : Refusal) (q : Part) → Formats p host (unmade e q) → q ≡ p
  pub load_untouched : (print : Bytes → ℕ) (p : Part) (image : ImageTables) (e : Refusal) (q : Part) → Loads print p image (unmade e q) → q ≡ p
  -- But for want of memory, the part and the number of host pages decide whether a format is refused, and with which number.
  pub accepted : (p : Part) (host : ℕ) (s : State) (e : Refusal) (q : Part) → Formats p host (made s) → Formats p host (unmade e q)
      → refusal_number e ≡ 255
  pub decided : (p : Part) (host : ℕ) (d e : Refusal) (q r : Part) → Formats p host (unmade d q) → Formats p host (unmade e r)
      → (refusal_number d ≢ 255) → (refusal_number e ≢ 255) → d ≡ e
  -- An unmade device answers every call with the refusal of its making, and stays as it is.
  pub unmade_answers : (print : Bytes → ℕ) (e : Refusal) (p : Part) (c : Call) (a : Answer) (d : Device) → DeviceStep print (unmade e p) c a d
      → (a ≡ Err e) × (d ≡ unmade e p)

-- Every call of the host is answered and changes the pages as a plain page map has it, or is refused with 3.
abbrev pub AnswersAsPageMap : Type 0
AnswersAsPageMap =
    (print : Bytes → ℕ) (s : State) (c : Call) (a : Answer) (t : State) → Stands print s → Step print s c a t
    → Plain (page_map s) c a (page_map t)

-- The rules decide every answer, whatever the free choices.
abbrev pub AnswersDecided : Type 0
AnswersDecided =
    (print : Bytes → ℕ) (s : State) (c : Call) (a b : Answer) (t u : State) → Stands print s
    → Step print s c a t → Step print s c b u → a ≡ b

-- What a call must keep: a refusal leaves everything, and a collection, a scan, a usage question and a save leave the pages.
pub record KeepsPages : Type 0 where
  pub refused : (print : Bytes → ℕ) (s : State) (c : Call) (a : Answer) (t : State) → Step print s c a t → is_refusal a ≡ true → t ≡ s
  pub others : (print : Bytes → ℕ) (s : State) (c : Call) (a : Answer) (t : State) → Stands print s → Step print s c a t
      → is_host c ≡ false → page_map t ≡ page_map s

-- A state that stands has what the rules need.
pub record HasWhatRulesNeed : Type 0 where
  -- With one clean block and none part-written, some closed block has a dead page.
  pub dead_page : (print : Bytes → ℕ) (s : State) → Stands print s → (HasPartWritten s → ⊥) → clean_blocks s ≡ 1
      → (b : ℕ) × Collectable s b
  -- A shared entry is there for every page that is to be shared.
  pub free_entry : (print : Bytes → ℕ) (s : State) (q : ℕ) → Stands print s → q < flash_pages s → in_use s q ≡ true
      → (e : ℕ) × EntryFor s q e
  -- After the collection that a write makes, the page can be stored.
  pub ready_after : (print : Bytes → ℕ) (s : State) (v : ℕ) (t : State) → Stands print s → (Ready s → ⊥) → Victim s v → Collected s v t
      → Ready t

-- The rules leave no call without an answer: in a state that stands, every call has one.
abbrev pub EveryCallAnswered : Type 0
EveryCallAnswered = (print : Bytes → ℕ) (s : State) (c : Call) → Stands print s → (a : Answer) × (t : State) × Step print s c a t
