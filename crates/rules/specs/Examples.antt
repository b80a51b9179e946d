-- Worked examples: the sizes at the bounds, and one whole life on a small part.
use Rattle.std.specs.Prelude.{◌≡◌, ℕ, ◌*◌, List, [], ◌∷◌, length, replicate, Ok, Err}
use Rattle.flash.specs.Part.{Part}
use Rattle.fingerprint.specs.Fletcher.{fletcher_of}
use Rattle.fingerprint.specs.Examples.{zeros, starts_with_one, starts_with_two_full}
use Rattle.rules.specs.declared.refusal.Refusal.TheVariants.{NothingToCollect}
use Rattle.rules.specs.declared.kind.Kind.{Kind}
use Rattle.rules.specs.declared.kind.Kind.TheVariants.{Stored, Shared, Unchanged}
use Rattle.rules.specs.declared.answer.Reply.TheVariants.{Wrote, Page, Number, Used}
use Rattle.rules.specs.State.{State}
use Rattle.rules.specs.Making.{size_refusal, formatted}
use Rattle.rules.specs.Image.{image_of, image_length}
use Rattle.rules.specs.Answers.{Answer}
use Rattle.rules.specs.Runs.{Call, Step, Life}
use Rattle.rules.specs.Runs.Call.{write, read, collect, usage}

-- The example's part: 3 blocks of 2 pages that endure 100 erases, nothing written, never erased.
abbrev pub fresh_part : Part
fresh_part = record { blocks = replicate 3 (record { pages = []; erases = 0 }); per_block = 2; endurance = 100 }

-- The state that a format of it makes, with 3 host pages.
abbrev pub example_start : State
example_start = formatted fresh_part 3

-- Sizes at the bounds, and the lengths of images.
pub record WorkedSizes : Type 0 where
  -- 64 blocks of 64 pages are 4,096 flash pages, one too many, whatever the host pages.
  pub one_page_too_many : (host : ℕ) → size_refusal 64 64 host ≡ 1
  -- 65 blocks of 63 pages are 4,095 flash pages, and leave room for 4,031 host pages, not for one more.
  pub most_host_pages : size_refusal 65 63 4031 ≡ 0
  pub one_host_page_too_many : size_refusal 65 63 4032 ≡ 2
  -- 2 blocks of 1 page have no room for a host page.
  pub no_room : size_refusal 2 1 1 ≡ 2
  -- 3 blocks of 2 pages have no room for 4.
  pub no_room_for_four : size_refusal 3 2 4 ≡ 2
  -- The image of 3 blocks of 2 pages with 3 host pages, and that of 255 blocks of 16 pages with 4,063.
  pub small_image : image_length 3 2 3 ≡ 2048
  pub large_image : image_length 255 16 4063 ≡ 19968
  -- The image's blocks, 512 bytes each, make up that length.
  pub image_blocks : length (image_of example_start) * 512 ≡ image_length 3 2 3

-- A write accepted with this kind, for which no page was moved.
abbrev pub wrote_as : Kind → Answer
wrote_as kind = Ok (Wrote (record { kind = kind; moved = 0 }))

-- The example's calls and what they answer. The page of zeros is Z, H begins 255, 255 and is zeros after, O begins with 1 and
-- is zeros after; H has Z's fingerprint.
abbrev pub example_history : List (Call × Answer)
example_history =
    -- Z is programmed, and so is H, which is another page than Z.
    (write 0 zeros, wrote_as Stored)
    ∷ (write 1 starts_with_two_full, wrote_as Stored)
    -- Z is there already, for host page 2 as for host page 0.
    ∷ (write 2 zeros, wrote_as Shared)
    ∷ (write 0 zeros, wrote_as Unchanged)
    -- O takes the place of H, whose flash page dies.
    ∷ (write 1 starts_with_one, wrote_as Stored)
    ∷ (usage, Ok (Used (record { live = 2; dead = 1; unwritten = 3 })))
    -- The block of Z and H is collected: Z is moved. Then no page is dead.
    ∷ (collect, Ok (Number 1))
    ∷ (collect, Err NothingToCollect)
    -- Host page 2 still reads Z.
    ∷ (read 2 256, Ok (Page zeros))
    ∷ []

-- The rules allow this history: some life, with Fletcher's fingerprint, starts with that device and has it.
abbrev pub ExampleLife : Type 0
ExampleLife = (l : Life) × (l.print ≡ fletcher_of) × (l.start ≡ example_start) × (l.history ≡ example_history)

-- The second answer is forced: however the first write went, H is programmed. It has Z's fingerprint but other bytes, and
-- is not taken for Z.
abbrev pub SecondWriteDecided : Type 0
SecondWriteDecided =
    (a b : Answer) (m t : State) → Step fletcher_of example_start (write 0 zeros) a m
    → Step fletcher_of m (write 1 starts_with_two_full) b t → b ≡ wrote_as Stored
