-- Where the records lie, and what a write to one leaves of the others.
use Rattle.std.proofs.Common.{◌≡◌, ℕ, ◌+◌, ◌/◌, ◌<◌, ◌≤◌, min, List, [], map, length, ap, ◌∙◌, ⊎_elim, arith}
use Rattle.std.specs.List.{range_with_len}
use Rattle.std.proofs.lemmas.Nat.{mul-le, div-add-mod'}
use Rattle.std.proofs.lemmas.Bool.{cases_order}
use Rattle.flash.specs.Part.{Block}
use Rattle.memory.specs.Layout.{record_size, record_count, record_at, page_at, written_in, stored_erases, page_in}
use Rattle.memory.specs.Memory.{put, block_in}
use Rattle.memory.proofs.Writes.{Same, put_before, put_after, same_within, same_between, same_number16, same_number32}
use Rattle.memory.proofs.Counts.{counted_same}

-- A record that counts lies in the memory.
pub record_inside : (m : List ℕ) (P b : ℕ) → b < record_count m P → record_at P b + record_size P ≤ length m
record_inside m P b h =
    let n = record_size P in
    let l : b + 1 ≤ length m / n = omega arith in
    omega (arith, mul-le (b + 1) n (length m / n) n l (omega arith), div-add-mod' (length m) n)

-- A record ends where the next begins, or before.
pub record_apart : (P b c : ℕ) → b < c → record_at P b + record_size P ≤ record_at P c
record_apart P b c h = omega (arith, mul-le (b + 1) P c P (omega arith) (omega arith))

-- Two memories agree on the record of block b.
abbrev pub SameRecord : List ℕ → List ℕ → ℕ → ℕ → Type 0
SameRecord m m' P b = Same m m' (record_at P b) (record_at P b + record_size P)

-- A write to the record of block b leaves that of block c.
pub put_elsewhere : (m : List ℕ) (P b c i : ℕ) (xs : List ℕ)
    → i + length xs ≤ length m → record_at P b ≤ i → i + length xs ≤ record_at P b + record_size P → (c ≡ b → ⊥)
    → SameRecord (put m i xs) m P c
put_elsewhere m P b c i xs within low high ne =
    ⊎_elim (λ e. absurd (ne e))
    (⊎_elim
    (λ l. put_before m i xs within _ (omega (arith, record_apart P c b l)) _)
    (λ l. put_after m i xs within _ (omega (arith, record_apart P b c l)) _))
    (cases_order c b)

-- Blocks with the same pages and the same erase count are the same.
pub block_by : (p q : List (List ℕ)) (e f : ℕ) → p ≡ q → e ≡ f
    → ◌≡◌ {A = Block} (record { pages = p; erases = e }) (record { pages = q; erases = f })
block_by p q e f same_pages same_erases = cc

module _ (m m' : List ℕ) (P b : ℕ) (level : length m ≡ length m') (inside : record_at P b + record_size P ≤ length m) where
  -- Of a page on which two memories agree they give the same bytes.
  pub same_page : (k : ℕ) → k < P → Same m m' (page_at P b k) (page_at P b k + 256) → page_in m P b k ≡ page_in m' P b k
  same_page k h same = same_between m m' level (page_at P b k) 256 (omega arith) same

  -- Where they agree on a record, they hold the same block.
  pub same_block : (W : ℕ) → SameRecord m m' P b → block_in m P W b ≡ block_in m' P W b
  same_block W same =
      let at = record_at P b in let n = record_size P in
      let count : written_in m P b ≡ written_in m' P b =
      ap (λ x. min x P) (same_number16 m m' at (same_within m m' at (at + n) at (at + 2) (omega arith) (omega arith) same)) in
      let worn : stored_erases m P b ≡ stored_erases m' P b =
      same_number32 m m' (at + 4) (same_within m m' at (at + n) (at + 4) (at + 4 + 4) (omega arith) (omega arith) same) in
      block_by _ _ _ _
      (counted_same [] (page_in m P b) (page_in m' P b) (written_in m P b)
      (λ k h. same_page k (omega arith) (same_within m m' at (at + n) _ _ (omega arith) (omega arith) same))
      ∙ ap (λ x. map (page_in m' P b) (range_with_len 0 x)) count)
      (ap (λ x. min x W) worn)
