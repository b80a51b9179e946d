-- Each block of a pair is one of the first part or one of the second, lowered.
use Rattle.std.proofs.Common.{◌≡◌, ℕ, ◌+◌, ◌-◌, ◌<◌, ◌≤◌, Bool, true, false, min, cond, eqb, List, [], ◌++◌, map, length, get_or, take, set, refl, ⊎_elim, arith}
use Rattle.std.proofs.Math.Seq.{take-set-lt}
use Rattle.std.proofs.Math.ListN.{get_or-map}
use Rattle.std.proofs.lemmas.Bool.{cases_lt}
use Rattle.std.proofs.lemmas.List.{length-take, length-map, length-append, get_or-take, get_or_append_left, get_or-append-add, set-append_left, set-append_right, map-set, get_or_past}
use Rattle.std.proofs.lemmas.Grind.{common_steps}
use Rattle.flash.specs.Part.{Block, Part, SoundBlock, Sound, no_block, block, with_block}
use Rattle.pair.specs.Shown.{lowered, counted, lesser, pair_of, shown_count}

-- How many blocks a pair shows ..
pub pair_count : (p q : Part) → length (pair_of p q).blocks ≡ shown_count p q
unfolding pair_of
pair_count p q = simp (length-take, length-map, length-append) (omega arith)

-- .. of how many pages ..
pub pair_per_block : (p q : Part) → (pair_of p q).per_block ≡ p.per_block
unfolding pair_of
pair_per_block p q = refl

-- .. and how many erases they endure.
pub pair_endurance : (p q : Part) → (pair_of p q).endurance ≡ lesser p q
unfolding pair_of
pair_endurance p q = refl

-- A block among the first 255 of a list, each lowered.
module _ (w : ℕ) (xs : List Block) (b : ℕ) (few : b < 255) where
  lowered_at : get_or (take 255 (map (lowered w) xs)) b no_block ≡ lowered w (get_or xs b no_block)
  lowered_at =
      let none : min 0 w ≡ 0 = omega arith in
      let t = get_or-take 255 (map (lowered w) xs) b no_block few in
      let m = get_or-map (lowered w) xs b no_block in cc

  lowered_set : (new : Block) → take 255 (map (lowered w) (set xs b new)) ≡ set (take 255 (map (lowered w) xs)) b (lowered w new)
  lowered_set new =
      let m = map-set (lowered w) xs b new in
      let t = take-set-lt 255 (map (lowered w) xs) b (lowered w new) few in cc

-- Block b of the pair is block b of the first part.
module _ (p q : Part) (b : ℕ) (few : b < 255) (l : b < length p.blocks) where
  pub block_first : block (pair_of p q) b ≡ lowered (lesser p q) (block p b)
  unfolding pair_of
  block_first =
      let e = lowered_at (lesser p q) (p.blocks ++ counted p q) b few in
      let f = get_or_append_left p.blocks (counted p q) no_block b l in cc

  -- What is put in its place in the part is seen in the pair.
  pub put_first : (new : Block) → pair_of (with_block p b new) q ≡ with_block (pair_of p q) b (lowered (lesser p q) new)
  unfolding pair_of
  put_first new =
      let e = lowered_set (lesser p q) (p.blocks ++ counted p q) b few new in
      let f = set-append_left p.blocks (counted p q) b new l in cc

-- A block of the second part counts only if the parts have the same pages per block.
pub counted_inside : (p q : Part) (c : ℕ) → c < length (counted p q) → (c < length q.blocks) × (p.per_block ≡ q.per_block)
counted_inside p q c l = grind (arith, common_steps)

-- What is put in the place of a block counts if the block did.
counted_set : (alike : Bool) (xs : List Block) (c : ℕ) (new : Block) → cond alike (set xs c new) [] ≡ set (cond alike xs []) c new
counted_set true xs c new = refl
counted_set false xs c new = refl

-- Block b of the pair is block c of the second part.
module _ (p q : Part) (b c : ℕ) (few : b < 255) (l : c < length (counted p q)) (is : b ≡ length p.blocks + c) where
  pub block_second : block (pair_of p q) b ≡ lowered (lesser p q) (block q c)
  unfolding pair_of
  block_second =
      let e = lowered_at (lesser p q) (p.blocks ++ counted p q) b few in grind (arith, get_or-append-add)

  -- What is put in its place in the part is seen in the pair.
  pub put_second : (new : Block) → pair_of p (with_block q c new) ≡ with_block (pair_of p q) b (lowered (lesser p q) new)
  unfolding pair_of
  put_second new =
      let e = lowered_set (lesser p q) (p.blocks ++ counted p q) b few new in
      let f = set-append_right p.blocks (counted p q) (length p.blocks) b new refl (omega arith) in
      let own : c ≡ b - length p.blocks = omega arith in
      let k = counted_set (eqb p.per_block q.per_block) q.blocks c new in cc

-- A block that is not shown counts as having no page and no erase.
pub unseen_block : (p q : Part) (b : ℕ) → length (pair_of p q).blocks ≤ b → block (pair_of p q) b ≡ no_block
unseen_block p q b out = get_or_past _ b no_block out

-- A well-formed block stays so when it is lowered.
lowered_sound : (per e w : ℕ) (x : Block) → SoundBlock per e x → SoundBlock per w (lowered w x)
lowered_sound per e w x s = record { room = s.room; worn_at_most = omega arith; whole = s.whole }

-- A pair of well-formed parts is well-formed.
pub pair_sound : (p q : Part) → Sound p → Sound q → Sound (pair_of p q)
pair_sound p q s t = record {
  each = λ b h. let n = pair_count p q in let few : b < 255 = omega arith in ⊎_elim
      (λ l. rw (pair_per_block p q, pair_endurance p q, block_first p q b few l) (lowered_sound _ _ _ _ (s.each b l)))
      (λ l. let c : ℕ = b - length p.blocks in let counts : c < length (counted p q) = omega arith in
      let inside = counted_inside p q c counts in
      rw (block_second p q b c few counts (omega arith), pair_endurance p q, pair_per_block p q, inside.1)
      (lowered_sound _ _ _ _ (t.each c inside.0)))
      (cases_lt b (length p.blocks));
  limit = omega (arith, pair_endurance p q, s.limit);
}
