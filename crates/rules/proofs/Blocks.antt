-- The kinds of the blocks after a program and after an erase.
use Rattle.std.proofs.Common.{◌≡◌, ℕ, ◌+◌, ◌<◌, true, length, sym, ap, ◌∙◌, subst, inl, inr, ⊎_elim, arith}
use Rattle.std.proofs.lemmas.List.{length_push, length-set}
use Rattle.std.proofs.lemmas.Bool.{cases_eq, eqb-true}
use Rattle.std.proofs.lemmas.Bool.Decides.{nat_tests}
use Rattle.flash.specs.Part.{Block, Part, block, written, appended, erased}
use Rattle.flash.proofs.Keeps.{block_put, block_other}
use Rattle.rules.specs.State.{Bytes, State, block_count, per_block, is_clean, is_closed, is_part_written}
use Rattle.rules.specs.Calls.{Takes}

-- At most one block is part-written.
abbrev pub Single : State → Type 0
Single s = (b c : ℕ) → b < block_count s → c < block_count s → is_part_written s b ≡ true → is_part_written s c ≡ true → b ≡ c

-- What a test on a block's pages written says.
pub part_written_in : (s : State) (b : ℕ) → is_part_written s b ≡ true → (0 < written s.part b) × (written s.part b < per_block s)
part_written_in s b t =
    (grind (arith, nat_tests), grind (arith, nat_tests))

pub part_written_from : (s : State) (b : ℕ) → 0 < written s.part b → written s.part b < per_block s → is_part_written s b ≡ true
part_written_from s b l h = grind (arith, nat_tests)

pub clean_in : (s : State) (b : ℕ) → is_clean s b ≡ true → written s.part b ≡ 0
clean_in s b t = eqb-true (written s.part b) 0 t

pub closed_in : (s : State) (b : ℕ) → is_closed s b ≡ true → written s.part b ≡ per_block s
closed_in s b t = eqb-true (written s.part b) (per_block s) t

-- A block that takes a page has room for it.
pub takes_room : (s : State) (b : ℕ) → 0 < per_block s → Takes s b → written s.part b < per_block s
takes_room s b some (l, inl part) = (part_written_in s b part).1
takes_room s b some (l, inr (none, clean, least)) = omega (arith, clean_in s b clean)

module _ (p : Part) (b : ℕ) (inside : b < length p.blocks) where
  -- One page more in block b, and as many as before in every other.
  pub written_here : (x : Bytes) → written (appended p b x) b ≡ written p b + 1
  written_here x = ap (λ (y : Block). length y.pages) (block_put p b _ inside) ∙ length_push (block p b).pages x

  pub written_other : (x : Bytes) (c : ℕ) → (c ≡ b → ⊥) → written (appended p b x) c ≡ written p c
  written_other x c ne = ap (λ (y : Block). length y.pages) (block_other p b c _ ne)

  pub erased_here : written (erased p b) b ≡ 0
  erased_here = ap (λ (y : Block). length y.pages) (block_put p b _ inside)

  pub erased_other : (c : ℕ) → (c ≡ b → ⊥) → written (erased p b) c ≡ written p c
  erased_other c ne = ap (λ (y : Block). length y.pages) (block_other p b c _ ne)

-- A state whose part has one page more, in the block that takes it, has at most one part-written block again.
pub single_appended : (s t : State) (b : ℕ) (x : Bytes) → t.part ≡ appended s.part b x → Takes s b → Single s → Single t
single_appended s t b x is takes single c d c_in d_in c_part d_part =
    ⊎_elim
    (λ e. ⊎_elim (λ e'. e ∙ sym e') (λ ne'. e ∙ with_b d (inside d d_in) ne' (before d ne' d_part)) (cases_eq d b))
    (λ ne. ⊎_elim (λ e'. sym (with_b c (inside c c_in) ne (before c ne c_part)) ∙ sym e')
    (λ ne'. single c d (inside c c_in) (inside d d_in) (before c ne c_part) (before d ne' d_part)) (cases_eq d b))
    (cases_eq c b)
  where
    inside : (i : ℕ) → i < block_count t → i < block_count s
    inside i l = subst (λ n. i < n) (ap (λ (y : Part). length y.blocks) is ∙ length-set s.part.blocks b _) l

    same : (i : ℕ) → (i ≡ b → ⊥) → written t.part i ≡ written s.part i
    same i ne = ap (λ (y : Part). written y i) is ∙ written_other s.part b takes.0 x i ne

    before : (i : ℕ) → (i ≡ b → ⊥) → is_part_written t i ≡ true → is_part_written s i ≡ true
    before i ne part =
        let r = part_written_in t i part in
        part_written_from s i (omega (arith, r.0, same i ne)) (omega (arith, r.1, same i ne, ap (λ (y : Part). y.per_block) is))

    with_b : (i : ℕ) → i < block_count s → (i ≡ b → ⊥) → is_part_written s i ≡ true → b ≡ i
    with_b i l ne part = ⊎_elim (λ own. single b i takes.0 l own part) (λ clean. absurd (clean.0 (i, l, part))) takes.1

-- A state whose part has a block erased.
pub single_erased : (s t : State) (b : ℕ) → t.part ≡ erased s.part b → b < block_count s → Single s → Single t
single_erased s t b is in_b single c d c_in d_in c_part d_part =
    single c d (inside c c_in) (inside d d_in) (before c c_part) (before d d_part)
  where
    inside : (i : ℕ) → i < block_count t → i < block_count s
    inside i l = subst (λ n. i < n) (ap (λ (y : Part). length y.blocks) is ∙ length-set s.part.blocks b _) l

    before : (i : ℕ) → is_part_written t i ≡ true → is_part_written s i ≡ true
    before i part =
        let r = part_written_in t i part in
        ⊎_elim
        (λ e. absurd (omega (arith, r.0, ap (written t.part) e, ap (λ (y : Part). written y b) is, erased_here s.part b in_b)))
        (λ ne. let same = ap (λ (y : Part). written y i) is ∙ erased_other s.part b in_b i ne in
        part_written_from s i (omega (arith, r.0, same)) (omega (arith, r.1, same, ap (λ (y : Part). y.per_block) is)))
        (cases_eq i b)
