-- What holds of a device between calls.
use Rattle.std.specs.Prelude.{◌≡◌, ℕ, ◌/◌, ◌%◌, ◌<◌, true, length, Some}
use Rattle.flash.specs.Part.{Sound}
use Rattle.rules.specs.State.{Bytes, Entry, State, flash_pages, host_pages, content, in_use}
use Rattle.rules.specs.Store.{entry_at}
use Rattle.rules.specs.Making.{SizesFit, Agrees, BlocksStand}

-- A store entry that stands: it lies in its fingerprint's segment, its page is in use, and the fingerprint is that of the
-- page's content.
pub record EntryStands (print : Bytes → ℕ) (s : State) (k : ℕ) (e : Entry) : Type 0 where
  pub segment : k / 16 ≡ e.print % 16
  pub inside : e.page < flash_pages s
  pub live : in_use s e.page ≡ true
  pub right : (x : Bytes) → content s.part e.page ≡ Some x → e.print ≡ print x

-- The store stands: 256 places, every entry stands, and no two entries have equal content.
pub record StoreStands (print : Bytes → ℕ) (s : State) : Type 0 where
  pub places : length s.store ≡ 256
  pub each : (k : ℕ) (e : Entry) → entry_at s.store k ≡ Some e → EntryStands print s k e
  pub apart : (j k : ℕ) (d e : Entry) → entry_at s.store j ≡ Some d → entry_at s.store k ≡ Some e
      → content s.part d.page ≡ content s.part e.page → j ≡ k

-- A state that stands: between any two calls of a made device.
pub record Stands (print : Bytes → ℕ) (s : State) : Type 0 where
  pub sizes : SizesFit s.part (host_pages s)
  pub entries : length s.shared ≡ flash_pages s
  pub flash : Sound s.part
  pub agrees : Agrees s
  pub blocks : BlocksStand s
  pub stores : StoreStands print s
