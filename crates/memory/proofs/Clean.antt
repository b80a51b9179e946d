-- The part that a memory made fresh shows: no page written, no block erased.
use Rattle.std.proofs.Common.{◌≡◌, ℕ, zero, suc, ◌+◌, ◌-◌, ◌*◌, ◌/◌, ◌<◌, ◌≤◌, min, List, ◌++◌, map, length, get_or, replicate, ap, ◌∙◌, ⊎_elim, arith}
use Rattle.std.specs.List.{range_with_len}
use Rattle.std.proofs.lemmas.Nat.{mul-le, div-add-mod'}
use Rattle.std.proofs.lemmas.List.{length-append, length-drop, get_or_append_left, get_or-append_right, get_or-replicate}
use Rattle.std.proofs.lemmas.Bool.{cases_eq}
use Rattle.flash.specs.Part.{Block, no_block}
use Rattle.memory.specs.Layout.{record_size, record_count, record_at, page_in, written_in}
use Rattle.memory.specs.Memory.{block_in, part_in, blank_record, blank_records, made_fresh, clean_part}
use Rattle.memory.proofs.Blank.{length_blank_records}
use Rattle.memory.proofs.Counts.{counted_all}
use Rattle.memory.proofs.Records.{record_apart, block_by}

-- The counts of a blank record are 0.
blank_count : (P n b j : ℕ) → b < n → j < 8 → get_or (blank_records P n) (record_at P b + j) 0 ≡ 0
blank_count P zero b j h l = absurd (omega arith)
blank_count P (suc n) b j h l =
    let long = length_blank_records P n in
    let place : record_at P n + j - record_at P n ≡ j = omega arith in
    ⊎_elim
    (λ e. ap (λ c. get_or (blank_records P n ++ blank_record P) (record_at P c + j) 0) e
    ∙ get_or-append_right (blank_records P n) (blank_record P) (record_at P n) (record_at P n + j) 0 long (omega arith)
    ∙ ap (λ i. get_or (blank_record P) i 0) place
    ∙ get_or_append_left (replicate 8 0) (replicate (256 * P) 255) 0 j l
    ∙ get_or-replicate 8 j 0 0 l)
    (λ ne. let below : b < n = omega arith in
    get_or_append_left (blank_records P n) (blank_record P) 0 (record_at P b + j) (omega (arith, record_apart P b n below))
    ∙ blank_count P n b j below l)
    (cases_eq b n)

module _ (m : List ℕ) (P : ℕ) where
  -- The records of the memory.
  abbrev count : ℕ
  count = record_count m P

  -- They lie in the memory.
  records_inside : record_at P count ≤ length m
  records_inside =
      let n = record_size P in
      omega (arith, mul-le count n (length m / n) n (omega arith) (omega arith), div-add-mod' (length m) n)

  made_fresh_length : length (made_fresh m P) ≡ length m
  made_fresh_length =
      length-append (blank_records P count) _
      ∙ omega (arith, length_blank_records P count, length-drop (record_at P count) m, records_inside)

  made_fresh_count : (b j : ℕ) → b < count → j < 8 → get_or (made_fresh m P) (record_at P b + j) 0 ≡ 0
  made_fresh_count b j h l =
      get_or_append_left (blank_records P count) _ 0 (record_at P b + j)
      (omega (arith, length_blank_records P count, record_apart P b count h))
      ∙ blank_count P count b j h l

  made_fresh_block : (W b : ℕ) → b < count → block_in (made_fresh m P) P W b ≡ no_block
  made_fresh_block W b h =
      let m' = made_fresh m P in let at = record_at P b in
      let first : get_or m' at 0 ≡ 0 = ap (λ i. get_or m' i 0) (omega arith) ∙ made_fresh_count b 0 h (omega arith) in
      let none : written_in m' P b ≡ 0 = omega (arith, made_fresh_count b 1 h (omega arith)) in
      let byte : (j : ℕ) → j < 4 → get_or m' (at + 4 + j) 0 ≡ 0 =
      λ j l. ap (λ i. get_or m' i 0) (omega arith) ∙ made_fresh_count b (4 + j) h (omega arith) in
      block_by _ _ _ _
      (ap (λ n. map (page_in m' P b) (range_with_len 0 n)) none)
      (omega (arith, made_fresh_count b 4 h (omega arith), byte 1 (omega arith), byte 2 (omega arith), byte 3 (omega arith)))

-- It shows that part.
pub shown_clean : (m : List ℕ) (P W : ℕ) → part_in (made_fresh m P) P W ≡ clean_part (record_count m P) P W
shown_clean m P W =
    let m' = made_fresh m P in
    ap (λ n. record { blocks = map (block_in m' P W) (range_with_len 0 (min (n / record_size P) 255)); per_block = P; endurance = W })
    (made_fresh_length m P)
    ∙ ap (λ (xs : List Block). record { blocks = xs; per_block = P; endurance = W })
    (counted_all (block_in m' P W) (record_count m P) no_block (made_fresh_block m P W))
