-- What programming and erasing do to a part, as whatever stands above a part uses it.
use Rattle.std.specs.Prelude.{◌≡◌, ℕ, ◌+◌, ◌<◌, List, length, ◌≢◌}
use Rattle.flash.specs.Part.{Part, Sound, written, erases, page_bytes, appended, erased, wear}

-- The laws, gathered.
pub record Laws : Type 0 where
  -- A page of 256 bytes in a block that has room, and an erase of a block that is not worn out, keep a part well-formed.
  pub program_keeps : (p : Part) (b : ℕ) (x : List ℕ)
      → b < length p.blocks → written p b < p.per_block → length x ≡ 256 → Sound p → Sound (appended p b x)
  pub erase_keeps : (p : Part) (b : ℕ) → b < length p.blocks → erases p b < p.endurance → Sound p → Sound (erased p b)
  -- A program adds 1 to the wear; an erase adds the pages of the block that were not written, so none if it was full.
  pub program_wears : (p : Part) (b : ℕ) (x : List ℕ) → b < length p.blocks → wear (appended p b x) ≡ wear p + 1
  pub erase_wears : (p : Part) (b : ℕ) → b < length p.blocks → wear (erased p b) + written p b ≡ wear p + p.per_block
  -- After a program the new page has the bytes, every page written before it its own, and so has every other block.
  pub reads_new : (p : Part) (b : ℕ) (x : List ℕ) → b < length p.blocks → page_bytes (appended p b x) b (written p b) ≡ x
  pub reads_before : (p : Part) (b k : ℕ) (x : List ℕ)
      → b < length p.blocks → k < written p b → page_bytes (appended p b x) b k ≡ page_bytes p b k
  pub reads_elsewhere : (p : Part) (b c k : ℕ) (x : List ℕ) → (c ≢ b) → page_bytes (appended p b x) c k ≡ page_bytes p c k
  -- After an erase every other block has its pages.
  pub reads_after_erase : (p : Part) (b c k : ℕ) → (c ≢ b) → page_bytes (erased p b) c k ≡ page_bytes p c k
