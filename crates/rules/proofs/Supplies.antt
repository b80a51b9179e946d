-- A state that stands has what the rules need.
use Rattle.std.proofs.Common.{◌≡◌, ℕ, zero, suc, ◌+◌, ◌-◌, ◌*◌, ◌/◌, ◌%◌, ◌<◌, ◌≤◌, Bool, true, false, not, ◌&&◌, eqb, ltb, List, [], ◌∷◌, length, Some, None, Option, sym, refl, ap, ◌∙◌, inl, inr, ⊎_elim, add-suc, suc-mul, div-add-mod', arith}
use Rattle.std.proofs.lemmas.List.{get_or_past}
use Rattle.std.proofs.lemmas.Bool.{false_from_ne_true, cases_eq, cases_lt, cases_Bool, eq-eqb, eqb-true, lt-ltb, ltb-true, and_parts, both_ways}
use Rattle.std.proofs.lemmas.Nat.{div-mul-add, mod-mul-add, div_below, mod_below}
use Rattle.flash.specs.Part.{written}
use Rattle.rules.specs.State.{Bytes, State, no_page, tally, block_count, per_block, flash_pages, names, in_use, is_dead, is_written, is_clean, clean_blocks, dead_pages, page_map}
use Rattle.rules.specs.Tables.{EntryFor}
use Rattle.rules.specs.Calls.{HasPartWritten, Collectable}
use Rattle.rules.specs.Stands.{Stands}
use Rattle.rules.specs.Promise.{contents}
use Rattle.rules.proofs.Tally.{one_true, tally_find, tally_pos, tally_mono, tally_split, tally_le, tally_two}
use Rattle.rules.proofs.Members.{In, Apart}
use Rattle.rules.proofs.Distinct.{stands_in, distinct, stands_in_find, tally_distinct}
use Rattle.rules.proofs.Crossing.{name_entry}
use Rattle.rules.proofs.Content.{written_inside}
use Rattle.rules.proofs.Blocks.{part_written_from}
use Rattle.rules.proofs.Moving.{Mid, mid, sizes, some_pages}
use Rattle.rules.proofs.Counting.{pages_few}
use Rattle.rules.proofs.PageMaps.{map_length}

-- Some of the first numbers, then the next ones.
tally_add : (f : ℕ → Bool) (m k : ℕ) → tally f (m + k) ≡ tally f m + tally (λ j. f (m + j)) k
tally_add f m zero = let e : m + 0 ≡ m = omega arith in ap (tally f) e ∙ omega arith
tally_add f m (suc k) = ap (tally f) (add-suc m k) ∙ omega (arith, tally_add f m k)

tally_all : (f : ℕ → Bool) (n : ℕ) → ((k : ℕ) → k < n → f k ≡ true) → tally f n ≡ n
tally_all f zero all = refl
tally_all f (suc n) all = omega (arith, tally_all f n (λ k l. all k (omega arith)), one_true (f n) (all n (omega arith)))

-- Rows of p numbers in which all pass, but for the row c.
rows_full : (f : ℕ → Bool) (p n c : ℕ) → ((b : ℕ) → b < n → (b ≡ c → ⊥) → (k : ℕ) → k < p → f (b * p + k) ≡ true) → n ≤ c → n * p ≤ tally f (n * p)
rows_full f p zero c full low = omega arith
rows_full f p (suc n) c full low =
    let here = tally_all (λ j. f (n * p + j)) p (λ k l. full n (omega arith) (λ e. absurd (omega arith)) k l) in
    let rest = rows_full f p n c (λ b l ne. full b (omega arith) ne) (omega arith) in
    let more = ap (tally f) (suc-mul n p) ∙ tally_add f (n * p) p in
    omega (arith, here, rest, more, suc-mul n p)

rows_but_one : (f : ℕ → Bool) (p n c : ℕ) → ((b : ℕ) → b < n → (b ≡ c → ⊥) → (k : ℕ) → k < p → f (b * p + k) ≡ true) → n * p ≤ tally f (n * p) + p
rows_but_one f p zero c full = omega arith
rows_but_one f p (suc n) c full =
    let more = ap (tally f) (suc-mul n p) ∙ tally_add f (n * p) p in
    ⊎_elim
    (λ e. let rest = rows_full f p n c (λ b l ne. full b (omega arith) ne) (omega arith) in omega (arith, rest, more, suc-mul n p))
    (λ ne. let here = tally_all (λ j. f (n * p + j)) p (λ k l. full n (omega arith) ne k l) in
    let rest = rows_but_one f p n c (λ b l b_ne. full b (omega arith) b_ne) in omega (arith, here, rest, more, suc-mul n p))
    (cases_eq n c)

-- A page map has at most as many contents as pages.
contents_le : (m : List (Option Bytes)) → length (contents m) ≤ length m
contents_le [] = omega arith
contents_le (None ∷ m) = omega (arith, contents_le m)
contents_le (Some x ∷ m) = omega (arith, contents_le m)

module _ (print : Bytes → ℕ) (s : State) (h : Stands print s) where
  abbrev m : Mid print s
  m = mid print s h

  pub dead_page : (HasPartWritten s → ⊥) → clean_blocks s ≡ 1 → (b : ℕ) × Collectable s b
  dead_page none one_clean =
      let d = tally_find (is_dead s) (flash_pages s) dead_count in
      let q = d.0 in
      let parts = and_parts (is_written s.part q) (not (in_use s q)) d.2 in
      let b = q / per_block s in
      let in_b : b < block_count s = div_below q (per_block s) (block_count s) (some_pages print s m) d.1 in
      let some_written : 0 < written s.part b = omega (arith, ltb-true (q % per_block s) (written s.part b) parts.0) in (
        b,
        (
          in_b,
          eq-eqb (written s.part b) (per_block s) (full b in_b (λ z. absurd (omega arith))),
          tally_pos (λ k. is_dead s (b * per_block s + k)) (per_block s) (q % per_block s) (mod_below q (per_block s) (some_pages print s m))
              (ap (is_dead s) (div-add-mod' q (per_block s)) ∙ d.2),
        ),
      )
    where
      spare : (b : ℕ) × (b < block_count s) × (is_clean s b ≡ true)
      spare = h.blocks.spare

      -- A block with a page written is closed.
      full : (b : ℕ) → b < block_count s → (written s.part b ≡ 0 → ⊥) → written s.part b ≡ per_block s
      full b l some =
          ⊎_elim (λ short. absurd (none (b, l, part_written_from s b (omega arith) short)))
          (λ long. omega (arith, (h.flash.each b l).room)) (cases_lt (written s.part b) (per_block s))

      all_written : (b : ℕ) → b < block_count s → (b ≡ spare.0 → ⊥) → (k : ℕ) → k < per_block s → is_written s.part (b * per_block s + k) ≡ true
      all_written b l ne k in_k =
          let closed = full b l (λ z. absurd (omega (
            arith,
            one_clean,
            tally_two (is_clean s) (block_count s) spare.0 b spare.1 l ne spare.2 (eq-eqb (written s.part b) 0 z),
          ))) in
          ap (λ i. ltb ((b * per_block s + k) % per_block s) (written s.part i)) (div-mul-add b (per_block s) k in_k)
          ∙ lt-ltb ((b * per_block s + k) % per_block s) (written s.part b) (omega (arith, mod-mul-add b (per_block s) k in_k, closed))

      dead_count : 0 < dead_pages s
      dead_count =
          let rows = rows_but_one (is_written s.part) (per_block s) (block_count s) spare.0 all_written in
          let split = tally_split (is_written s.part) (in_use s) (flash_pages s) in
          let live = tally_mono (λ q. is_written s.part q && in_use s q) (in_use s) (flash_pages s)
          (λ q l t. (and_parts (is_written s.part q) (in_use s q) t).1) in
          omega (
            arith,
            rows,
            split,
            live,
            pages_few print s m,
            contents_le (page_map s),
            map_length s,
            (sizes print s m).host_most,
            less_one (block_count s) (per_block s) (omega (arith, (sizes print s m).two)),
          )
        where
          less_one : (n p : ℕ) → 0 < n → (n - 1) * p + p ≡ n * p
          less_one zero p l = absurd (omega arith)
          less_one (suc n) p l = let e : suc n - 1 ≡ n = omega arith in ap (λ i. i * p + p) e ∙ sym (suc-mul n p)

-- Different numbers are as many as the list is long.
distinct_apart : (xs : List ℕ) → Apart xs → distinct xs ≡ length xs
distinct_apart [] a = refl
distinct_apart (x ∷ xs) a =
    grind (arith, false_from_ne_true (stands_in x xs) (λ t. a.0 (stands_in_find x xs t)), distinct_apart xs a.1)

-- What the first n shared entries hold.
entries : State → ℕ → List ℕ
entries s zero = []
entries s (suc n) = names s (4096 + n) ∷ entries s n

entries_length : (s : State) (n : ℕ) → length (entries s n) ≡ n
unfolding entries
entries_length s zero = refl
entries_length s (suc n) = omega (arith, entries_length s n)

entries_in : (s : State) (n x : ℕ) → In x (entries s n) → (e : ℕ) × (e < n) × (names s (4096 + e) ≡ x)
unfolding entries
entries_in s zero x i = absurd i
entries_in s (suc n) x (inl is) = (n, omega arith, sym is)
entries_in s (suc n) x (inr i) = let r = entries_in s n x i in (r.0, omega (arith, r.1), r.2)

entries_apart : (print : Bytes → ℕ) (s : State) (n : ℕ) → Mid print s → ((e : ℕ) → e < n → names s (4096 + e) < no_page) → Apart (entries s n)
unfolding entries
entries_apart print s zero h used = tt
entries_apart print s (suc n) h used = (
  λ i. let r = entries_in s n (names s (4096 + n)) i in
      absurd (omega (arith, r.1, h.agrees.once (4096 + r.0) (4096 + n) (used r.0 (omega (arith, r.1))) r.2)),
  entries_apart print s n h (λ e l. used e (omega arith)),
)

-- There are as many entries as flash pages: if all are in use, every page has an entry.
pub free_entry : (print : Bytes → ℕ) (s : State) (q : ℕ) → Mid print s → q < flash_pages s → in_use s q ≡ true → (e : ℕ) × EntryFor s q e
free_entry print s q h inside live =
    ⊎_elim
    (λ own. let r = tally_find (λ e. eqb (names s (4096 + e)) q) (flash_pages s) (ltb-true 0 _ own) in
    (r.0, (r.1, inl (eqb-true (names s (4096 + r.0)) q r.2))))
    (λ none. ⊎_elim
    (λ free. let r = tally_find (λ e. eqb (names s (4096 + e)) no_page) (flash_pages s) (ltb-true 0 _ free) in
    (r.0, (r.1, inr (not_own none, eqb-true (names s (4096 + r.0)) no_page r.2))))
    (λ full. absurd (too_many none full))
    (cases_Bool (ltb 0 (tally (λ e. eqb (names s (4096 + e)) no_page) (flash_pages s)))))
    (cases_Bool (ltb 0 (tally (λ e. eqb (names s (4096 + e)) q) (flash_pages s))))
  where
    small : q < no_page
    small = omega (arith, inside, (sizes print s h).all)

    -- An entry that names a page is one of the flash pages' own.
    in_range : (d : ℕ) → names s (4096 + d) < no_page → d < flash_pages s
    in_range d used =
        ⊎_elim (λ l. l)
        (λ past. absurd (omega (
          arith,
          used,
          name_entry s.words s.shared (4096 + d) (omega arith),
          get_or_past s.shared (4096 + d - 4096) no_page (omega (arith, past, h.entries)),
        )))
        (cases_lt d (flash_pages s))

    not_own : ltb 0 (tally (λ e. eqb (names s (4096 + e)) q) (flash_pages s)) ≡ false → (d : ℕ) → names s (4096 + d) ≡ q → ⊥
    not_own none d is =
        both_ways _ none (lt-ltb 0 _ (tally_pos (λ e. eqb (names s (4096 + e)) q) (flash_pages s) d
        (in_range d (omega (arith, is, small))) (eq-eqb (names s (4096 + d)) q is)))

    too_many : ltb 0 (tally (λ e. eqb (names s (4096 + e)) q) (flash_pages s)) ≡ false
        → ltb 0 (tally (λ e. eqb (names s (4096 + e)) no_page) (flash_pages s)) ≡ false → ⊥
    too_many none full =
        let used : (e : ℕ) → e < flash_pages s → names s (4096 + e) < no_page =
        λ e l. ⊎_elim
        (λ is. absurd (both_ways _ full (lt-ltb 0 _ (tally_pos (λ i. eqb (names s (4096 + i)) no_page) (flash_pages s) e l (eq-eqb _ no_page is)))))
        (λ ne. omega (arith, ne, h.agrees.flat (4096 + e) (omega arith))) (cases_eq (names s (4096 + e)) no_page) in
        let xs = entries s (flash_pages s) in
        let apart : Apart (q ∷ xs) =
        (λ i. let r = entries_in s (flash_pages s) q i in not_own none r.0 r.2, entries_apart print s (flash_pages s) h used) in
        let below_all : (x : ℕ) → In x (q ∷ xs) → x < flash_pages s =
        λ x i. ⊎_elim (λ is. omega (arith, is, inside))
        (λ j. let r = entries_in s (flash_pages s) x j in
        written_inside s.part (some_pages print s h) x
        (ap (is_written s.part) (sym r.2) ∙ h.agrees.there (4096 + r.0) (used r.0 r.1))) i in
        omega (
          arith,
          distinct_apart (q ∷ xs) apart,
          tally_distinct (flash_pages s) (q ∷ xs) below_all,
          tally_le (λ x. stands_in x (q ∷ xs)) (flash_pages s),
          entries_length s (flash_pages s),
        )
