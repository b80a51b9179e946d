-- What a pair shows of its two parts.
use Rattle.std.specs.Prelude.{◌≡◌, ℕ, ◌+◌, ◌-◌, ◌<◌, ◌≤◌, min, cond, List, [], ◌++◌, map, length, take, Option, Some, None, ◌==◌, nat_lt}
use Rattle.flash.specs.Part.{Block, Part, appended, erased}
use Rattle.flash.specs.Answers.{PartAnswer, if_accepted}
use Rattle.pair.specs.declared.pair.Pair.{Pair}
use Rattle.pair.specs.declared.place.Place.{Place}
use Rattle.pair.specs.declared.place.Place.TheVariants.{First, Second}

-- A block under an endurance that may be lower than its part's: a higher erase count shows as that endurance.
abbrev pub lowered : ℕ → Block → Block
lowered endurance x = record { pages = x.pages; erases = min x.erases endurance }

-- The blocks of the second part q that count beside the first part p: none if the two differ in pages per block.
abbrev pub counted : Part → Part → List Block
counted p q = cond (p.per_block == q.per_block) q.blocks []

-- The smaller of the two endurances.
abbrev pub lesser : Part → Part → ℕ
lesser p q = min p.endurance q.endurance

-- The pair of p and q: the blocks of p, then those of q that count, the first 255 of them, under the smaller endurance.
unfoldable pub pair_of : Part → Part → Part
pair_of p q = record {
  blocks = take 255 (map (lowered (lesser p q)) (p.blocks ++ counted p q));
  per_block = p.per_block;
  endurance = lesser p q;
}

-- What a pair shows, where `first` and `second` say what its two parts show.
abbrev pub shown : {F G : Type 0} → (F → Part) → (G → Part) → Pair F G → Part
shown first second w = pair_of (first w.first) (second w.second)

-- How many blocks the pair shows.
abbrev pub shown_count : Part → Part → ℕ
shown_count p q = min (length p.blocks + length (counted p q)) 255

-- Where block b of the pair stands: under its own number in p, or after the blocks of p in q; none for a block that is not shown.
abbrev pub Located : Part → Part → ℕ → Option Place → Type 0
Located p q b (Some (First c)) = (b < 255) × (b < length p.blocks) × (c ≡ b)
Located p q b (Some (Second c)) = (b < 255) × (c < length (counted p q)) × (b ≡ length p.blocks + c)
Located p q b None = length (pair_of p q).blocks ≤ b

-- The first part after a call on block b that was answered r, if an accepted call on a block of its own leaves `new`. Only a
-- block of its own can change it.
abbrev pub first_after : Part → ℕ → PartAnswer → Part → Part
first_after p b r new = cond (nat_lt b (length p.blocks)) (if_accepted r new p) p

-- .. and the second part q, whose blocks come after those of the first part p.
abbrev pub second_after : Part → Part → ℕ → PartAnswer → Part → Part
second_after p q b r new = cond (nat_lt b (length p.blocks)) q (if_accepted r new q)

-- The two parts after a program of block b of the pair with the bytes x that was answered r.
abbrev pub first_after_program : Part → ℕ → PartAnswer → List ℕ → Part
first_after_program p b r x = first_after p b r (appended p b x)

abbrev pub second_after_program : Part → Part → ℕ → PartAnswer → List ℕ → Part
second_after_program p q b r x = second_after p q b r (appended q (b - length p.blocks) x)

-- The two parts after an erase of block b of the pair that was answered r.
abbrev pub first_after_erase : Part → ℕ → PartAnswer → Part
first_after_erase p b r = first_after p b r (erased p b)

abbrev pub second_after_erase : Part → Part → ℕ → PartAnswer → Part
second_after_erase p q b r = second_after p q b r (erased q (b - length p.blocks))
