-- The number of each refusal and of each kind of accepted write.
use Rattle.std.specs.Prelude.{ℕ}
use Rattle.rules.specs.declared.refusal.Refusal.{Refusal}
use Rattle.rules.specs.declared.refusal.Refusal.TheVariants.{Geometry, HostPages, WornOut, NoSuchPage, Length, Empty, NothingToCollect, ShortBuffer, ImageLength, BlockCheck, BlockHead, WordRange, FlashDiffers, Contradiction, FlashState, NoMemory}
use Rattle.rules.specs.declared.kind.Kind.{Kind}
use Rattle.rules.specs.declared.kind.Kind.TheVariants.{Stored, Shared, Unchanged}

-- The number of each refusal of the layer. A flash part's own refusals have 16 to 19.
abbrev pub refusal_number : Refusal → ℕ
refusal_number Geometry = 1
refusal_number HostPages = 2
refusal_number WornOut = 3
refusal_number NoSuchPage = 4
refusal_number Length = 5
refusal_number Empty = 6
refusal_number NothingToCollect = 7
refusal_number ShortBuffer = 8
refusal_number ImageLength = 9
refusal_number BlockCheck = 10
refusal_number BlockHead = 11
refusal_number WordRange = 12
refusal_number FlashDiffers = 13
refusal_number Contradiction = 14
refusal_number FlashState = 15
refusal_number NoMemory = 255

-- The number of each kind of accepted write.
abbrev pub kind_number : Kind → ℕ
kind_number Stored = 0
kind_number Shared = 1
kind_number Unchanged = 2
