-- The refusals of the layer in words.
use Rattle.std.specs.Prelude.{ℕ, List, codes}
use Rattle.flash.specs.Answers.{numbered}
use Rattle.rules.specs.declared.refusal.Refusal.{Refusal}
use Rattle.rules.specs.declared.refusal.Refusal.TheVariants.{Geometry, HostPages, WornOut, NoSuchPage, Length, Empty, NothingToCollect, ShortBuffer, ImageLength, BlockCheck, BlockHead, WordRange, FlashDiffers, Contradiction, FlashState, NoMemory}
use Rattle.rules.specs.Numbers.{refusal_number}

-- The words of each refusal, as the bytes of a text.
abbrev pub refusal_words : Refusal → List ℕ
refusal_words Geometry = codes "geometry"
refusal_words HostPages = codes "number of host pages"
refusal_words WornOut = codes "worn out"
refusal_words NoSuchPage = codes "no such host page"
refusal_words Length = codes "not 256 bytes"
refusal_words Empty = codes "empty page"
refusal_words NothingToCollect = codes "nothing to collect"
refusal_words ShortBuffer = codes "buffer shorter than the image"
refusal_words ImageLength = codes "image length"
refusal_words BlockCheck = codes "check of an image block"
refusal_words BlockHead = codes "kind or place of an image block"
refusal_words WordRange = codes "word out of range"
refusal_words FlashDiffers = codes "differs from the flash"
refusal_words Contradiction = codes "words that contradict each other"
refusal_words FlashState = codes "state of the flash"
refusal_words NoMemory = codes "no memory"

-- A refusal as text: its number, and its words in brackets.
abbrev pub refusal_text : Refusal → List ℕ
refusal_text e = numbered (refusal_number e) (refusal_words e)
