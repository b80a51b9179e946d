-- A program and an erase keep a part well-formed, and touch one block.
use Rattle.std.proofs.Common.{◌≡◌, ℕ, ◌<◌, List, length, sym, ap, ◌∙◌, subst, ⊎_elim, arith}
use Rattle.std.proofs.lemmas.List.{length_push, length-set, get_or-set_same, get_or-set_other}
use Rattle.std.proofs.lemmas.Bool.{cases_eq}
use Rattle.std.proofs.lemmas.Grind.{common_steps, elements}
use Rattle.flash.specs.Part.{Block, Part, SoundBlock, Sound, no_block, block, written, with_block, appended, erased}

-- The block that was put in place b stands there.
pub block_put : (p : Part) (b : ℕ) (new : Block) → b < length p.blocks → block (with_block p b new) b ≡ new
block_put p b new h = get_or-set_same p.blocks b new no_block h

-- Every other block is as it was.
pub block_other : (p : Part) (b c : ℕ) (new : Block) → (c ≡ b → ⊥) → block (with_block p b new) c ≡ block p c
block_other p b c new ne = get_or-set_other p.blocks b c new no_block ne

-- A well-formed block in place of another keeps the part well-formed.
pub sound_put : (p : Part) (b : ℕ) (new : Block)
    → b < length p.blocks → SoundBlock p.per_block p.endurance new → Sound p → Sound (with_block p b new)
sound_put p b new h s w = record {
  each = λ c l. ⊎_elim
      (λ e. subst (SoundBlock p.per_block p.endurance) (sym (ap (block (with_block p b new)) e ∙ block_put p b new h)) s)
      (λ ne. rw (block_other p b c new ne) (w.each c (omega (arith, length-set p.blocks b new))))
      (cases_eq c b);
  limit = w.limit;
}

-- A page more in a block that has room keeps a part well-formed.
pub sound_appended : (p : Part) (b : ℕ) (x : List ℕ)
    → b < length p.blocks → written p b < p.per_block → length x ≡ 256 → Sound p → Sound (appended p b x)
sound_appended p b x h room full w =
    let old = w.each b h in let n = length_push (block p b).pages x in
    sound_put p b _ h
    (record { room = omega arith; worn_at_most = old.worn_at_most; whole = λ k l. grind (arith, common_steps, elements, old.whole k) })
    w

-- An erase of a block below its endurance keeps a part well-formed.
pub sound_erased : (p : Part) (b : ℕ)
    → b < length p.blocks → (block p b).erases < p.endurance → Sound p → Sound (erased p b)
sound_erased p b h left w =
    sound_put p b _ h (record { room = omega arith; worn_at_most = omega arith; whole = λ k l. absurd (omega arith) }) w
