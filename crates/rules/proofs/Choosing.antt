-- Where the rules leave a choice, there is something to choose.
use Rattle.std.proofs.Common.{◌≡◌, ℕ, zero, suc, ◌+◌, ◌*◌, ◌/◌, ◌%◌, ◌<◌, ◌≤◌, Bool, true, false, not, ◌&&◌, eqb, ltb, ◌⊎◌, List, [], ◌∷◌, length, set, is_some, Some, None, Option, sym, refl, ap, ◌∙◌, subst, inl, inr, ⊎_elim, arith}
use Rattle.std.proofs.lemmas.List.{length-set}
use Rattle.std.proofs.lemmas.Bool.{false_from_ne_true, cases_Bool, cases_lt, cases_eq, both_ways, eq-eqb, eqb-true, ltb-true, and_parts, and_from}
use Rattle.std.proofs.lemmas.Nat.{div-mul-add, mod_below}
use Rattle.std.proofs.lemmas.Bool.Decides.{nat_tests}
use Rattle.flash.specs.Part.{written, erases}
use Rattle.rules.specs.State.{Bytes, Entry, State, block_count, per_block, is_clean, is_closed, is_part_written, in_use_at, live_in}
use Rattle.rules.specs.Tables.{moved_to}
use Rattle.rules.specs.Store.{entry_at, InSegment, Full, Entered}
use Rattle.rules.specs.Store.Entered.{takes, replaces, left_out}
use Rattle.rules.specs.Calls.{HasPartWritten, Takes, dead_in, Collectable, Candidate, Victim, below, Moves, Collected}
use Rattle.rules.specs.Stands.{Stands}
use Rattle.rules.proofs.Blocks.{part_written_in, part_written_from, clean_in, written_here, written_other}
use Rattle.rules.proofs.Members.{length_below}
use Rattle.rules.proofs.Readying.{live_and_dead}

-- Of the numbers below n that pass a test, one with the least value, unless none passes.
pub least_of : (f : ℕ → Bool) (g : ℕ → ℕ) (n : ℕ)
    → ((k : ℕ) → k < n → f k ≡ false) ⊎ ((b : ℕ) × (b < n) × (f b ≡ true) × ((c : ℕ) → c < n → f c ≡ true → g b ≤ g c))
least_of f g zero = inl (λ k l. absurd (omega arith))
least_of f g (suc n) =
    ⊎_elim
    (λ none. ⊎_elim
    (λ t. inr (n, omega arith, t, more (g n) (λ u. omega arith) (λ c l u. absurd (both_ways (f c) (none c l) u))))
    (λ t. inl (λ k l. ⊎_elim (λ e. ap f e ∙ t) (λ ne. none k (omega arith)) (cases_eq k n)))
    (cases_Bool (f n)))
    (λ b. ⊎_elim
    (λ t. ⊎_elim
    (λ lower. inr (n, omega arith, t, more (g n) (λ u. omega arith) (λ c l u. let r = b.3 c l u in omega arith)))
    (λ higher. inr (b.0, omega (arith, b.1), b.2, more (g b.0) (λ u. higher) b.3))
    (cases_lt (g n) (g b.0)))
    (λ t. inr (b.0, omega (arith, b.1), b.2, more (g b.0) (λ u. absurd (both_ways (f n) t u)) b.3))
    (cases_Bool (f n)))
    (least_of f g n)
  where
    -- A bound below n that also holds at n.
    more : (m : ℕ) → (f n ≡ true → m ≤ g n) → ((c : ℕ) → c < n → f c ≡ true → m ≤ g c) → (c : ℕ) → c < suc n → f c ≡ true → m ≤ g c
    more m here below c l u =
        ⊎_elim (λ e. omega (arith, here (ap f (sym e) ∙ u), ap g e)) (λ ne. below c (omega arith) u) (cases_eq c n)

-- Some block is part-written, or none is.
pub part_written_or : (s : State) → HasPartWritten s ⊎ (HasPartWritten s → ⊥)
part_written_or s =
    ⊎_elim (λ none. inr (λ p. both_ways (is_part_written s p.0) (none p.0 p.1) p.2)) (λ b. inl (b.0, b.1, b.2))
    (least_of (is_part_written s) (λ b. b) (block_count s))

-- A block takes the next page if one is part-written or clean.
pub takes_some : (s : State) → HasPartWritten s ⊎ ((b : ℕ) × (b < block_count s) × (is_clean s b ≡ true)) → (b : ℕ) × Takes s b
takes_some s supply =
    ⊎_elim (λ p. (p.0, (p.1, inl p.2)))
    (λ none. ⊎_elim (λ p. absurd (none p))
    (λ c. ⊎_elim (λ never. absurd (both_ways (is_clean s c.0) (never c.0 c.1) c.2))
    (λ b. (b.0, (b.1, inr (none, b.2, b.3)))) (least_of (is_clean s) (erases s.part) (block_count s)))
    supply)
    (part_written_or s)

-- Room for n more pages: a clean block and fewer than a block's worth of pages, or a block begun that has room for all.
abbrev Room : State → ℕ → Type 0
Room s n =
    (((c : ℕ) × (c < block_count s) × (is_clean s c ≡ true)) × (n < per_block s))
    ⊎ ((b : ℕ) × (b < block_count s) × (0 < written s.part b) × (written s.part b + n ≤ per_block s))

moves_some : (v : ℕ) (ks : List ℕ) (s : State) → Room s (length ks) → (u : State) × Moves v s ks u
moves_some v [] s room = (s, refl)
moves_some v (k ∷ ks) s (inr (b, in_b, begun, fits)) =
    let t = moved_to s (v * per_block s + k) b in
    let here : written t.part b ≡ written s.part b + 1 = written_here s.part b in_b _ in
    let r = moves_some v ks t (inr (
      b,
      subst (λ n. b < n) (sym (length-set s.part.blocks b _)) in_b,
      omega (arith, here),
      omega (arith, here),
    )) in
    (r.0, (b, (in_b, inl (part_written_from s b begun (omega arith))), r.1))
moves_some v (k ∷ ks) s (inl (c, few)) =
    ⊎_elim
    (λ p. let b = p.0 in
    let t = moved_to s (v * per_block s + k) b in
    let c_ne : c.0 ≡ b → ⊥ = λ e. absurd (omega (arith, (part_written_in s b p.2).0, clean_in s c.0 c.2, ap (written s.part) e)) in
    let r = moves_some v ks t (inl (
      (
        c.0,
        subst (λ n. c.0 < n) (sym (length-set s.part.blocks b _)) c.1,
        eq-eqb _ 0 (written_other s.part b p.1 _ c.0 c_ne ∙ clean_in s c.0 c.2),
      ),
      omega arith,
    )) in
    (r.0, (b, (p.1, inl p.2), r.1)))
    (λ none. let b = takes_some s (inr c) in
    let t = moved_to s (v * per_block s + k) b.0 in
    let here : written t.part b.0 ≡ written s.part b.0 + 1 = written_here s.part b.0 b.1.0 _ in
    let was : written s.part b.0 ≡ 0 =
    ⊎_elim (λ p. absurd (none (b.0, b.1.0, p))) (λ clean. clean_in s b.0 clean.1) b.1.1 in
    let r = moves_some v ks t (inr (
      b.0,
      subst (λ n. b.0 < n) (sym (length-set s.part.blocks b.0 _)) b.1.0,
      omega (arith, here),
      omega (arith, here, was, few),
    )) in
    (r.0, (b.0, b.1, r.1)))
    (part_written_or s)

-- Every victim can be collected.
pub collected_some : (print : Bytes → ℕ) (s : State) (v : ℕ) → Stands print s → Victim s v → (t : State) × Collected s v t
collected_some print s v h victim =
    let ks = below (in_use_at s v) (per_block s) in
    let r = moves_some v ks s (inl (
      h.blocks.spare,
      omega (arith, length_below (in_use_at s v) (per_block s), live_and_dead s v, victim.0.0.2),
    )) in
    (_, (r.0, r.1, refl))

-- A closed block with a dead page, and one that can still be erased.
collectable : State → ℕ → Bool
collectable s b = is_closed s b && ltb 0 (dead_in s b)

candidate : State → ℕ → Bool
candidate s b = (is_closed s b && ltb 0 (dead_in s b)) && ltb (erases s.part b) s.part.endurance

collectable_is : (s : State) (b : ℕ) → b < block_count s → (is_closed s b && ltb 0 (dead_in s b)) ≡ true → Collectable s b
collectable_is s b l t = (l, grind (arith, nat_tests), grind (arith, nat_tests))

is_collectable : (s : State) (b : ℕ) → Collectable s b → (is_closed s b && ltb 0 (dead_in s b)) ≡ true
is_collectable s b c = grind (arith, nat_tests, c.1, c.2)

pub victim_or : (s : State) → ((v : ℕ) × Victim s v) ⊎ ((b : ℕ) → Candidate s b → ⊥)
unfolding candidate
victim_or s =
    ⊎_elim
    (λ none. inr (λ b c. both_ways (candidate s b) (none b c.0.0) (is_candidate b c)))
    (λ v. let r = and_parts (is_closed s v.0 && ltb 0 (dead_in s v.0)) (ltb (erases s.part v.0) s.part.endurance) v.2 in
    inl (
      v.0,
      (
        (collectable_is s v.0 v.1 r.0, ltb-true (erases s.part v.0) s.part.endurance r.1),
        λ b c. v.3 b c.0.0 (is_candidate b c),
      ),
    ))
    (least_of (candidate s) (live_in s) (block_count s))
  where
    is_candidate : (b : ℕ) → Candidate s b → ((is_closed s b && ltb 0 (dead_in s b)) && ltb (erases s.part b) s.part.endurance) ≡ true
    is_candidate b c =
        grind (arith, nat_tests, is_collectable s b c.0, c.1)

pub collectable_or : (s : State) → ((b : ℕ) × Collectable s b) ⊎ ((b : ℕ) → Collectable s b → ⊥)
unfolding collectable
collectable_or s =
    ⊎_elim (λ none. inr (λ b c. both_ways (collectable s b) (none b c.0) (is_collectable s b c)))
    (λ b. inl (b.0, collectable_is s b.0 b.1 b.2)) (least_of (collectable s) (λ b. b) (block_count s))

-- The page of a place's entry.
abbrev page_of : Option Entry → ℕ
page_of None = 0
page_of (Some e) = e.page

-- A new entry finds a place, replaces a coldest one, or is left out.
pub entered_some : (hot : ℕ → ℕ) (store : List (Option Entry)) (new : Entry) (heat : ℕ) → (after : List (Option Entry)) × Entered hot store new heat after
entered_some hot store new heat =
    ⊎_elim
    (λ none. ⊎_elim
    (λ empty. absurd (both_ways (in_segment start) (empty start start_small) start_in))
    (λ k. let full = all_full none in
    let old = full k.0 (segment_is k.0 k.1 k.2) in
    let cold : (j : ℕ) (e : Entry) → InSegment new.print j → entry_at store j ≡ Some e → hot old.0.page ≤ hot e.page =
    λ j e seg is. subst (λ o. hot (page_of o) ≤ hot e.page) old.1
    (subst (λ o. hot (page_of (entry_at store k.0)) ≤ hot (page_of o)) is (k.3 j seg.0 (eq-eqb (j / 16) (new.print % 16) seg.1))) in
    ⊎_elim
    (λ colder. (store, left_out full (λ j e seg is. let r = cold j e seg is in omega arith) refl))
    (λ warm. (set store k.0 (Some new), replaces k.0 old.0 full (segment_is k.0 k.1 k.2) old.1 cold warm refl))
    (cases_lt heat (hot old.0.page)))
    (least_of in_segment (λ k. hot (page_of (entry_at store k))) 256))
    (λ k. let r = and_parts (in_segment k.0) (not (is_some (entry_at store k.0))) k.2 in
    (set store k.0 (Some new), takes k.0 (segment_is k.0 k.1 r.0) (free_is (entry_at store k.0) r.1) refl))
    (least_of free (λ k. k) 256)
  where
    in_segment : ℕ → Bool
    in_segment k = eqb (k / 16) (new.print % 16)

    free : ℕ → Bool
    free k = eqb (k / 16) (new.print % 16) && not (is_some (entry_at store k))

    segment_is : (k : ℕ) → k < 256 → eqb (k / 16) (new.print % 16) ≡ true → InSegment new.print k
    segment_is k l t = (l, eqb-true (k / 16) (new.print % 16) t)

    free_is : (o : Option Entry) → not (is_some o) ≡ true → o ≡ None
    free_is None t = refl
    free_is (Some e) t = cc

    start : ℕ
    start = new.print % 16 * 16 + 0

    start_small : new.print % 16 * 16 + 0 < 256
    start_small = omega (arith, mod_below new.print 16 (omega arith))

    start_in : eqb ((new.print % 16 * 16 + 0) / 16) (new.print % 16) ≡ true
    start_in = eq-eqb _ _ (div-mul-add (new.print % 16) 16 0 (omega arith))

    held_by : (o : Option Entry) → not (is_some o) ≡ false → (e : Entry) × (o ≡ Some e)
    held_by None t = cc
    held_by (Some e) t = (e, refl)

    all_full : ((k : ℕ) → k < 256 → free k ≡ false) → Full store new.print
    all_full none k seg =
        held_by (entry_at store k)
        (false_from_ne_true (not (is_some (entry_at store k)))
        (λ t. both_ways (free k) (none k seg.0)
        (and_from (eqb (k / 16) (new.print % 16)) (not (is_some (entry_at store k))) (eq-eqb (k / 16) (new.print % 16) seg.1) t)))
