-- After the collection that a write makes, a page can be stored.
use Rattle.std.proofs.Common.{◌≡◌, ℕ, ◌+◌, ◌*◌, ◌<◌, ◌≤◌, true, not, List, [], ◌∷◌, length, sym, ap, ◌∙◌, subst, inl, inr, ⊎_elim, arith}
use Rattle.std.proofs.lemmas.List.{length-set}
use Rattle.std.proofs.lemmas.Bool.{cases_eq, eq-eqb, and_parts}
use Rattle.flash.specs.Part.{written}
use Rattle.rules.specs.State.{Bytes, State, block_count, per_block, in_use, is_dead, is_written, is_clean, is_part_written, in_use_at, live_in}
use Rattle.rules.specs.Tables.{moved_to, erased_block}
use Rattle.rules.specs.Calls.{HasPartWritten, dead_in, Victim, below, Moves, Collected, Ready}
use Rattle.rules.specs.Stands.{Stands}
use Rattle.rules.proofs.Tally.{tally_mono, tally_not, tally_two}
use Rattle.rules.proofs.Members.{length_below}
use Rattle.rules.proofs.Blocks.{part_written_in, part_written_from, clean_in, closed_in, written_here, written_other, erased_here, erased_other}

-- A block's pages in use and its dead pages are different pages.
pub live_and_dead : (s : State) (b : ℕ) → live_in s b + dead_in s b ≤ per_block s
live_and_dead s b =
    omega (
      arith,
      tally_not (in_use_at s b) (per_block s),
      tally_mono (λ k. is_dead s (b * per_block s + k)) (λ k. not (in_use_at s b k)) (per_block s)
          (λ k l t. (and_parts (is_written s.part (b * per_block s + k)) (not (in_use s (b * per_block s + k))) t).1),
    )

-- All pages of a collection go to the one clean block c, if no block is part-written.
moves_fill : (v c : ℕ) (ks : List ℕ) (s u : State) → c < block_count s
    → (written s.part c ≡ 0 → (d : ℕ) → d < block_count s → is_clean s d ≡ true → d ≡ c)
    → ((d : ℕ) → d < block_count s → is_part_written s d ≡ true → d ≡ c)
    → written s.part c + length ks < per_block s → Moves v s ks u
    → (written u.part c ≡ written s.part c + length ks) × (block_count u ≡ block_count s) × (per_block u ≡ per_block s)
    × ((d : ℕ) → (d ≡ c → ⊥) → written u.part d ≡ written s.part d)
moves_fill v c [] s u in_c clean part room is =
    (ap (λ (y : State). written y.part c) is ∙ omega arith, ap block_count is, ap per_block is, λ d ne. ap (λ (y : State). written y.part d) is)
moves_fill v c (k ∷ ks) s u in_c clean part room (b, takes, rest) =
    let t = moved_to s (v * per_block s + k) b in
    let b_is : b ≡ c =
    ⊎_elim (λ own. part b takes.0 own)
    (λ free. ⊎_elim (λ z. clean z b takes.0 free.1)
    (λ nz. absurd (free.0 (c, in_c, part_written_from s c (omega arith) (omega arith))))
    (cases_eq (written s.part c) 0))
    takes.1 in
    let same_blocks : block_count t ≡ block_count s = length-set s.part.blocks b _ in
    let here : written t.part c ≡ written s.part c + 1 =
    subst (λ i. written t.part i ≡ written s.part i + 1) b_is (written_here s.part b takes.0 _) in
    let others : (d : ℕ) → (d ≡ c → ⊥) → written t.part d ≡ written s.part d =
    λ d ne. written_other s.part b takes.0 _ d (λ e. ne (e ∙ b_is)) in
    let r = moves_fill v c ks t u (subst (λ n. c < n) (sym same_blocks) in_c)
    (λ z. absurd (omega (arith, here)))
    (λ d l p. ⊎_elim (λ e. e)
    (λ ne. let w = part_written_in t d p in
    part d (subst (λ n. d < n) same_blocks l) (part_written_from s d (omega (arith, w.0, others d ne)) (omega (arith, w.1, others d ne))))
    (cases_eq d c))
    (omega (arith, here)) rest in
    (omega (arith, r.0, here), r.1 ∙ same_blocks, r.2, λ d ne. r.3 d ne ∙ others d ne)

pub ready_after : (print : Bytes → ℕ) (s : State) (v : ℕ) (t : State) → Stands print s → (Ready s → ⊥) → Victim s v → Collected s v t → Ready t
ready_after print s v t h unready victim (u, moves, is) =
    let spare = h.blocks.spare in
    let c = spare.0 in
    let none : HasPartWritten s → ⊥ = λ p. unready (inl p) in
    let ks = below (in_use_at s v) (per_block s) in
    let few : length ks < per_block s =
    omega (arith, length_below (in_use_at s v) (per_block s), live_and_dead s v, victim.0.0.2) in
    let c_clean = clean_in s c spare.2 in
    let v_full = closed_in s v victim.0.0.1 in
    let v_ne : v ≡ c → ⊥ = λ e. absurd (omega (arith, ap (written s.part) e, c_clean, v_full, few)) in
    let r = moves_fill v c ks s u spare.1
    (λ z d l cl. ⊎_elim (λ e. e) (λ ne. absurd (unready (inr (tally_two (is_clean s) (block_count s) c d spare.1 l ne spare.2 cl)))) (cases_eq d c))
    (λ d l p. absurd (none (d, l, p)))
    (omega (arith, c_clean, few)) moves in
    let in_v : v < block_count u = subst (λ n. v < n) (sym r.1) victim.0.0.0 in
    let in_c : c < block_count u = subst (λ n. c < n) (sym r.1) spare.1 in
    let e_blocks : block_count (erased_block u v) ≡ block_count u = length-set u.part.blocks v _ in
    let c_written : written (erased_block u v).part c ≡ length ks =
    erased_other u.part v in_v c (λ e. v_ne (sym e)) ∙ r.0 ∙ omega (arith, c_clean) in
    subst Ready (sym is)
    (⊎_elim
    (λ z. inr (tally_two (is_clean (erased_block u v)) (block_count (erased_block u v)) c v (subst (λ n. c < n) (sym e_blocks) in_c)
    (subst (λ n. v < n) (sym e_blocks) in_v) v_ne (eq-eqb _ 0 (c_written ∙ z)) (eq-eqb _ 0 (erased_here u.part v in_v))))
    (λ nz. inl (
      c,
      subst (λ n. c < n) (sym e_blocks) in_c,
      part_written_from (erased_block u v) c (omega (arith, c_written)) (omega (arith, c_written, few, r.2)),
    ))
    (cases_eq (length ks) 0))
