-- What the part in a memory shows after a write.
use Rattle.std.proofs.Common.{◌≡◌, ℕ, ◌+◌, ◌-◌, ◌*◌, ◌/◌, ◌<◌, ◌≤◌, min, List, [], ◌∷◌, ◌++◌, map, length, get_or, take, drop, replicate, sym, ap, ◌∙◌, subst, arith}
use Rattle.std.specs.List.{range_with_len}
use Rattle.std.proofs.lemmas.List.FromFn.{length-map-range_with_len, get_or-map-range_with_len, map-range_with_len_more}
use Rattle.std.proofs.lemmas.List.{length-take, length-drop, length-replicate, get_or_past}
use Rattle.flash.specs.Part.{Block, Sound, SoundBlock, no_block, block, written, erases, page_bytes, with_block, appended, erased}
use borrow.Rule.Slice.PartMut.{put_mid}
use Rattle.std.specs.Int.{w16, w32, from_le_bytes}
use Rattle.memory.specs.Layout.{number16, number32, record_size, record_count, record_at, page_at, written_in, stored_erases, page_in, bytes16, bytes32}
use Rattle.memory.specs.Memory.{block_in, part_in, put, page_programmed, wiped}
use Rattle.memory.proofs.Writes.{Same, copy_part, fill_part, read_number16, read_number32, length_put, between_put, put_before, put_after, same_trans, same_number16, same_number32, number16_put, number32_put}
use Rattle.memory.proofs.Counts.{counted_same, counted_set}
use Rattle.memory.proofs.Records.{SameRecord, record_inside, put_elsewhere, same_page, same_block, block_by}

-- How many blocks it shows.
pub shown_count : (m : List ℕ) (P W : ℕ)
    → length (part_in m P W).blocks ≡ record_count m P
shown_count m P W = length-map-range_with_len _ 0 (record_count m P)

-- The record of a block that it shows lies in the memory.
pub record_shown : (m : List ℕ) (P W b : ℕ) → b < length (part_in m P W).blocks → record_at P b + record_size P ≤ length m
record_shown m P W b h = record_inside m P b (omega (arith, shown_count m P W))

-- Block b of it.
pub shown_block : (m : List ℕ) (P W b : ℕ) → b < record_count m P
    → block (part_in m P W) b ≡ block_in m P W b
shown_block m P W b h = get_or-map-range_with_len _ 0 (record_count m P) b b no_block h (omega arith)

-- A block that is not shown counts as having no page and no erase.
pub unshown_block : (m : List ℕ) (P W b : ℕ) → length (part_in m P W).blocks ≤ b → block (part_in m P W) b ≡ no_block
unshown_block m P W b out = get_or_past _ b no_block out

module _ (m : List ℕ) (P W b : ℕ) (h : b < record_count m P) where
  -- It has as many written pages as the count in its record says.
  pub shown_written : written (part_in m P W) b ≡ written_in m P b
  shown_written =
      ap (λ (x : Block). length x.pages) (shown_block m P W b h)
      ∙ length-map-range_with_len _ 0 (written_in m P b)

  -- .. each in its place.
  pub shown_content : (k : ℕ) → k < written (part_in m P W) b
      → page_bytes (part_in m P W) b k ≡ page_in m P b k
  shown_content k l =
      ap (λ (x : Block). get_or x.pages k []) (shown_block m P W b h)
      ∙ get_or-map-range_with_len _ 0 (written_in m P b) k k [] (omega (arith, shown_written)) (omega arith)

  -- Its erase count is the one in its record, as far as it endures.
  pub shown_erases : erases (part_in m P W) b ≡ min (stored_erases m P b) W
  shown_erases = ap (λ (x : Block). x.erases) (shown_block m P W b h)

-- What is read in the record of a block that is shown.
module _ (m : List ℕ) (P W b at : ℕ) (inside : b < length (part_in m P W).blocks) (place : at ≡ record_at P b) where
  here : b < record_count m P
  here = omega (arith, shown_count m P W)

  pub read_written : min (from_le_bytes w16 (take 2 (drop at m))) P ≡ written (part_in m P W) b
  read_written = ap (λ n. min n P) (read_number16 m at) ∙ ap (λ i. min (number16 m i) P) place ∙ sym (shown_written m P W b here)

  pub read_erases : min (from_le_bytes w32 (take 4 (drop (at + 4) m))) W ≡ erases (part_in m P W) b
  read_erases = ap (λ n. min n W) (read_number32 m (at + 4)) ∙ ap (λ i. min (number32 m (i + 4)) W) place ∙ sym (shown_erases m P W b here)

  pub read_content : (k : ℕ) → k < written (part_in m P W) b → take 256 (drop (at + 8 + 256 * k) m) ≡ page_bytes (part_in m P W) b k
  read_content k there = ap (λ i. take 256 (drop i m)) (omega arith) ∙ sym (shown_content m P W b here k there)

-- Another block where the memory changed, and the others where it did not.
pub shown_put : (m m' : List ℕ) (P W b : ℕ) (new : Block)
    → length m' ≡ length m → b < record_count m P
    → block_in m' P W b ≡ new
    → ((c : ℕ) → (c ≡ b → ⊥) → SameRecord m' m P c)
    → part_in m' P W ≡ with_block (part_in m P W) b new
shown_put m m' P W b new level h here elsewhere =
    ap (λ n. record { blocks = map (block_in m' P W) (range_with_len 0 (min (n / record_size P) 255)); per_block = P; endurance = W }) level
    ∙ ap (λ (xs : List Block). record { blocks = xs; per_block = P; endurance = W })
    (counted_set no_block (block_in m' P W) (block_in m P W) (record_count m P) b new h here
    (λ c l ne. same_block m' m P c level (omega (arith, record_inside m P c l)) W (elsewhere c ne)))

-- Page k of block b is programmed with x: first the page is written, then the count.
module _ (m : List ℕ) (P b k : ℕ) (x : List ℕ) (h : b < record_count m P) (next : k < P) (full : length x ≡ 256) where
  abbrev paged : List ℕ
  paged = put m (page_at P b k) x

  -- The page lies in the memory.
  page_within : page_at P b k + length x ≤ length m
  page_within = omega (arith, record_inside m P b h)

  -- The count lies in the memory.
  count_within : record_at P b + 2 ≤ length paged
  count_within = omega (arith, record_inside m P b h, length_put m (page_at P b k) x page_within)

  pub page_programmed_length : length (page_programmed m P b k x) ≡ length m
  page_programmed_length = length_put paged (record_at P b) (bytes16 (k + 1)) count_within ∙ length_put m (page_at P b k) x page_within

  pub page_programmed_elsewhere : (c : ℕ) → (c ≡ b → ⊥) → SameRecord (page_programmed m P b k x) m P c
  page_programmed_elsewhere c ne =
      same_trans (page_programmed m P b k x) paged m _ _
      (put_elsewhere paged P b c (record_at P b) (bytes16 (k + 1)) count_within (omega arith) (omega arith) ne)
      (put_elsewhere m P b c (page_at P b k) x page_within (omega arith) (omega arith) ne)

  -- What lies between the count and the page stays.
  page_programmed_between : (from to : ℕ) → record_at P b + 2 ≤ from → to ≤ page_at P b k → Same (page_programmed m P b k x) m from to
  page_programmed_between from to low high =
      same_trans (page_programmed m P b k x) paged m from to
      (put_after paged (record_at P b) (bytes16 (k + 1)) count_within from low to)
      (put_before m (page_at P b k) x page_within to high from)

  page_programmed_page : page_in (page_programmed m P b k x) P b k ≡ x
  page_programmed_page =
      same_page (page_programmed m P b k x) paged P b (length_put paged (record_at P b) (bytes16 (k + 1)) count_within)
      (omega (arith, record_inside m P b h, page_programmed_length)) k next
      (put_after paged (record_at P b) (bytes16 (k + 1)) count_within _ (omega arith) _)
      ∙ ap (λ n. take n (drop (page_at P b k) paged)) (sym full) ∙ between_put m (page_at P b k) x page_within

  pub page_programmed_block : (W : ℕ) → P ≤ 64 → written_in m P b ≡ k
      → block_in (page_programmed m P b k x) P W b
      ≡ record { pages = (block_in m P W b).pages ++ x ∷ []; erases = (block_in m P W b).erases }
  page_programmed_block W most was =
      let m' = page_programmed m P b k x in
      let count : written_in m' P b ≡ k + 1 =
      omega (arith, number16_put paged (record_at P b) (k + 1) count_within (omega arith)) in
      block_by _ _ _ _
      (ap (λ n. map (page_in m' P b) (range_with_len 0 n)) count
      ∙ map-range_with_len_more (page_in m' P b) 0 k k (omega arith)
      ∙ ap (λ (y : List ℕ). map (page_in m' P b) (range_with_len 0 k) ++ y ∷ []) page_programmed_page
      ∙ ap (λ (ys : List (List ℕ)). ys ++ x ∷ [])
      (counted_same [] (page_in m' P b) (page_in m P b) k
      (λ j l. same_page m' m P b page_programmed_length (omega (arith, record_inside m P b h, page_programmed_length)) j (omega arith)
      (page_programmed_between _ _ (omega arith) (omega arith)))
      ∙ ap (λ n. map (page_in m P b) (range_with_len 0 n)) (sym was)))
      (ap (λ n. min n W) (same_number32 m' m (record_at P b + 4) (page_programmed_between _ _ (omega arith) (omega arith))))

-- Block b is erased: the pages, the written count and the erase count are written.
module _ (m : List ℕ) (P b : ℕ) (h : b < record_count m P) where
  -- The memory with the pages erased.
  abbrev blanked : List ℕ
  blanked = put m (page_at P b 0) (replicate (256 * P) 255)

  -- The memory with the written count at 0 too.
  abbrev unwritten : List ℕ
  unwritten = put blanked (record_at P b) (bytes16 0)

  pages_within : page_at P b 0 + length (replicate {A = ℕ} (256 * P) 255) ≤ length m
  pages_within = omega (arith, record_inside m P b h, length-replicate {A = ℕ} (256 * P) 255)

  -- It is as long with the pages erased.
  blanked_length : length blanked ≡ length m
  blanked_length = length_put m (page_at P b 0) (replicate (256 * P) 255) pages_within

  -- The written count lies in it.
  written_within : record_at P b + 2 ≤ length blanked
  written_within = omega (arith, record_inside m P b h, blanked_length)

  -- It is as long with the written count at 0.
  unwritten_length : length unwritten ≡ length m
  unwritten_length = length_put blanked (record_at P b) (bytes16 0) written_within ∙ blanked_length

  -- The erase count lies in it.
  erases_within : record_at P b + 4 + 4 ≤ length unwritten
  erases_within = omega (arith, record_inside m P b h, unwritten_length)

  -- The memory stays as long.
  pub wiped_length : length (wiped m P b) ≡ length m
  wiped_length = length_put unwritten (record_at P b + 4) (bytes32 (stored_erases m P b + 1)) erases_within ∙ unwritten_length

  -- Every other record stays.
  pub wiped_elsewhere : (c : ℕ) → (c ≡ b → ⊥) → SameRecord (wiped m P b) m P c
  wiped_elsewhere c ne =
      same_trans (wiped m P b) unwritten m _ _
      (put_elsewhere unwritten P b c (record_at P b + 4) (bytes32 (stored_erases m P b + 1)) erases_within (omega arith) (omega arith) ne)
      (same_trans unwritten blanked m _ _
      (put_elsewhere blanked P b c (record_at P b) (bytes16 0) written_within (omega arith) (omega arith) ne)
      (put_elsewhere m P b c (page_at P b 0) (replicate (256 * P) 255) pages_within (omega arith)
      (omega (arith, length-replicate {A = ℕ} (256 * P) 255)) ne))

  pub wiped_block : (W : ℕ) → W ≤ 1000000 → min (stored_erases m P b) W < W
      → block_in (wiped m P b) P W b ≡ record { pages = []; erases = (block_in m P W b).erases + 1 }
  wiped_block W most left =
      let m' = wiped m P b in
      let kept = same_number16 m' unwritten (record_at P b)
      (put_before unwritten (record_at P b + 4) (bytes32 (stored_erases m P b + 1)) erases_within _ (omega arith) _) in
      let count : written_in m' P b ≡ 0 =
      omega (arith, kept, number16_put blanked (record_at P b) 0 written_within (omega arith)) in
      block_by _ _ _ _
      (ap (λ n. map (page_in m' P b) (range_with_len 0 n)) count)
      (omega (arith, number32_put unwritten (record_at P b + 4) (stored_erases m P b + 1) erases_within (omega arith)))

-- The two writes of a program.
pub program_writes : (m : List ℕ) (P b k at : ℕ) (x new fresh : List ℕ)
    → at ≡ record_at P b → length x ≡ 256 → new ≡ x → fresh ≡ bytes16 (k + 1)
    → put_mid at (at + 2 - at) (put_mid (at + 8 + 256 * k) (at + 8 + 256 * k + 256 - (at + 8 + 256 * k)) m new) fresh
    ≡ page_programmed m P b k x
program_writes m P b k at x new fresh place full is counted =
    copy_part _ at (at + 2) fresh (bytes16 (k + 1)) (omega arith) counted
    ∙ ap (λ w. put w at (bytes16 (k + 1))) (copy_part m _ _ new x (omega arith) is)
    ∙ ap (λ n. put (put m n x) at (bytes16 (k + 1))) (omega arith)
    ∙ ap (λ n. put (put m (page_at P b k) x) n (bytes16 (k + 1))) place

module _ (m : List ℕ) (P W b : ℕ) (inside : b < length (part_in m P W).blocks) where
  there : b < record_count m P
  there = omega (arith, shown_count m P W)

  -- A program of the next page appends it.
  pub shown_appended : (k : ℕ) (x : List ℕ) → P ≤ 64 → k < P → length x ≡ 256 → k ≡ written (part_in m P W) b
      → part_in (page_programmed m P b k x) P W ≡ appended (part_in m P W) b x
  shown_appended k x most room full next =
      shown_put m (page_programmed m P b k x) P W b _
      (page_programmed_length m P b k x there room full) there
      (page_programmed_block m P b k x there room full W most (omega (arith, shown_written m P W b there))
      ∙ ap (λ (y : Block). record { pages = y.pages ++ x ∷ []; erases = y.erases }) (sym (shown_block m P W b there)))
      (page_programmed_elsewhere m P b k x there room full)

  -- An erase of a block below its endurance empties it, and counts.
  pub shown_erased : W ≤ 1000000 → erases (part_in m P W) b < W → part_in (wiped m P b) P W ≡ erased (part_in m P W) b
  shown_erased most left =
      shown_put m (wiped m P b) P W b _
      (wiped_length m P b there) there
      (wiped_block m P b there W most (omega (arith, shown_erases m P W b there))
      ∙ ap (λ (y : Block). record { pages = []; erases = y.erases + 1 }) (sym (shown_block m P W b there)))
      (wiped_elsewhere m P b there)

  -- The three writes of an erase.
  pub erase_writes : (at size n : ℕ) (new none count : List ℕ)
      → at ≡ record_at P b → size ≡ record_size P → n ≡ erases (part_in m P W) b → n < W
      → new ≡ replicate (length (take (at + size - (at + 8)) (drop (at + 8) m))) 255
      → none ≡ replicate (length (take (at + 2 - at) (drop at (put_mid (at + 8) (at + size - (at + 8)) m new)))) 0
      → count ≡ bytes32 (n + 1)
      → put_mid (at + 4) (at + 8 - (at + 4)) (put_mid at (at + 2 - at) (put_mid (at + 8) (at + size - (at + 8)) m new) none) count
      ≡ wiped m P b
  erase_writes at size n new none count place sized was left erased zeroed counted =
      let within = record_inside m P b there in
      let first : put_mid (at + 8) (at + size - (at + 8)) m new ≡ blanked m P b there =
      fill_part m (at + 8) (at + size) (256 * P) 255 new (omega arith) (omega arith) erased
      ∙ ap (λ i. put m i (replicate (256 * P) 255)) (omega arith) in
      copy_part _ (at + 4) (at + 8) count (bytes32 (n + 1)) (omega arith) counted
      ∙ ap (λ w. put w (at + 4) (bytes32 (n + 1)))
      (fill_part _ at (at + 2) 2 0 none (omega arith) (omega (arith, ap length first, blanked_length m P b there)) zeroed
      ∙ ap (λ w. put w at (bytes16 0)) first)
      ∙ ap (λ i. put (put (blanked m P b there) i (bytes16 0)) (i + 4) (bytes32 (n + 1))) place
      ∙ ap (λ j. put (unwritten m P b there) (record_at P b + 4) (bytes32 j)) (omega (arith, shown_erases m P W b there))

-- The part in a memory is well-formed, whatever the bytes are.
pub shown_sound : (m : List ℕ) (P W : ℕ) → W ≤ 1000000 → Sound (part_in m P W)
shown_sound m P W most =
    record {
      each = λ b l.
          let h : b < record_count m P = omega (arith, shown_count m P W) in
          subst (SoundBlock P W) (sym (shown_block m P W b h)) (record {
            room = omega (arith, length-map-range_with_len (page_in m P b) 0 (written_in m P b));
            worn_at_most = omega arith;
            whole = λ k j.
                let r : k < written_in m P b = omega (arith, length-map-range_with_len (page_in m P b) 0 (written_in m P b)) in
                ap length (get_or-map-range_with_len (page_in m P b) 0 (written_in m P b) k k [] r (omega arith))
                ∙ length-take 256 (drop (page_at P b k) m)
                ∙ omega (arith, length-drop (page_at P b k) m, record_inside m P b h);
          });
      limit = most;
    }
