-- What a program and an erase do to the wear of a part.
use Rattle.std.proofs.Common.{◌≡◌, ℕ, zero, suc, ◌+◌, ◌*◌, ◌<◌, List, [], ◌∷◌, ◌++◌, length, get_or, set, mul-one, mul-add, arith}
use Rattle.std.proofs.lemmas.List.{length_push}
use Rattle.flash.specs.Part.{Block, Part, no_block, block, written, appended, erased, wear_of, wear}

-- Another block in place b: its own wear takes the place of the old one's.
pub wear_of_set : (per : ℕ) (xs : List Block) (b : ℕ) (new : Block) → b < length xs
    → wear_of per (set xs b new) + (length (get_or xs b no_block).pages + per * (get_or xs b no_block).erases)
    ≡ wear_of per xs + (length new.pages + per * new.erases)
wear_of_set per [] b new h = absurd (omega arith)
wear_of_set per (x ∷ xs) zero new h = omega arith
wear_of_set per (x ∷ xs) (suc b) new h = let k : b < length xs = omega arith in omega (arith, wear_of_set per xs b new k)

-- A program adds 1.
pub wear_appended : (p : Part) (b : ℕ) (x : List ℕ) → b < length p.blocks → wear (appended p b x) ≡ wear p + 1
wear_appended p b x h =
    let new : Block = record { pages = (block p b).pages ++ x ∷ []; erases = (block p b).erases } in
    omega (arith, wear_of_set p.per_block p.blocks b new h, length_push (block p b).pages x)

-- An erase adds the pages of the block that were not written.
pub wear_erased : (p : Part) (b : ℕ) → b < length p.blocks → wear (erased p b) + written p b ≡ wear p + p.per_block
wear_erased p b h =
    let new : Block = record { pages = []; erases = (block p b).erases + 1 } in
    omega (arith, wear_of_set p.per_block p.blocks b new h, mul-add p.per_block (block p b).erases 1, mul-one p.per_block)
