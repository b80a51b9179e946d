-- Flash pages in use, counted against the contents that the host pages hold.
use Rattle.std.proofs.Common.{◌≡◌, ℕ, zero, suc, ◌+◌, ◌<◌, ◌≤◌, true, cond, ltb, List, [], ◌∷◌, map, length, Some, None, unwrap_or, sym, refl, ap, ◌∙◌, subst, inl, inr, ⊎_elim, arith}
use Rattle.std.specs.List.{range_with_len}
use Rattle.std.proofs.lemmas.List.{length-map}
use Rattle.std.proofs.lemmas.Bool.{cases_lt, cases_eq, lt-ltb, le-ltb, cond-true, cond-false}
use Rattle.rules.specs.State.{Bytes, State, no_page, flash_pages, host_pages, reach, content, in_use, is_written, live_pages, held, page_map}
use Rattle.rules.specs.Calls.{Copies}
use Rattle.rules.specs.Promise.{contents, different}
use Rattle.rules.proofs.Tally.{tally_same}
use Rattle.rules.proofs.Members.{In}
use Rattle.rules.proofs.Content.{content_bytes, written_inside}
use Rattle.rules.proofs.Live.{live_from, live_find, live_written, reach_named}
use Rattle.std.specs.Cmp.{both_ways as same_test}
use Rattle.rules.proofs.Moving.{Mid, sizes, hosts, some_pages}
use Rattle.rules.proofs.Storing.{content_none}
use Rattle.rules.proofs.Distinct.{stands_in, distinct, stands_in_from, stands_in_find, distinct_le, tally_distinct, different_le, different_all}

-- The numbers from a on.
pub in_counting : (a n k : ℕ) → a ≤ k → k < a + n → In k (range_with_len a n)
in_counting a zero k l h = absurd (omega arith)
in_counting a (suc n) k l h = ⊎_elim (λ e. inl e) (λ ne. inr (in_counting (a + 1) n k (omega arith) (omega arith))) (cases_eq k a)

pub counting_in : (a n k : ℕ) → In k (range_with_len a n) → (a ≤ k) × (k < a + n)
counting_in a zero k i = absurd i
counting_in a (suc n) k (inl e) = (omega arith, omega arith)
counting_in a (suc n) k (inr i) = let r = counting_in (a + 1) n k i in (omega (arith, r.0), omega (arith, r.1))

-- The flash pages that some host pages reach, without the empty ones.
abbrev pub reached : State → List ℕ → List ℕ
reached s [] = []
reached s (n ∷ ns) = cond (ltb (reach s n) no_page) (reach s n ∷ reached s ns) (reached s ns)

-- One more host page, by whether it reaches a flash page.
reached_page : (s : State) (n : ℕ) (ns : List ℕ) → reach s n < no_page → reached s (n ∷ ns) ≡ reach s n ∷ reached s ns
reached_page s n ns l = cond-true (ltb (reach s n) no_page) _ _ (lt-ltb (reach s n) no_page l)

reached_none : (s : State) (n : ℕ) (ns : List ℕ) → no_page ≤ reach s n → reached s (n ∷ ns) ≡ reached s ns
reached_none s n ns h = cond-false (ltb (reach s n) no_page) _ _ (le-ltb (reach s n) no_page h)

pub reached_in : (s : State) (ns : List ℕ) (q : ℕ) → In q (reached s ns) → (n : ℕ) × In n ns × (reach s n ≡ q) × (q < no_page)
reached_in s [] q i = absurd i
reached_in s (n ∷ ns) q i =
    ⊎_elim
    (λ l. ⊎_elim (λ e. (n, inl refl, sym e, omega arith))
    (λ j. let r = reached_in s ns q j in (r.0, inr r.1, r.2, r.3))
    (subst (In q) (reached_page s n ns l) i))
    (λ h. let r = reached_in s ns q (subst (In q) (reached_none s n ns h) i) in (r.0, inr r.1, r.2, r.3))
    (cases_lt (reach s n) no_page)

pub in_reached : (s : State) (ns : List ℕ) (n : ℕ) → In n ns → reach s n < no_page → In (reach s n) (reached s ns)
in_reached s [] n i l = absurd i
in_reached s (m ∷ ns) n (inl e) l = subst (In (reach s n)) (sym (reached_page s m ns (omega (arith, l, ap (reach s) e)))) (inl (ap (reach s) e))
in_reached s (m ∷ ns) n (inr i) l =
    ⊎_elim (λ small. subst (In (reach s n)) (sym (reached_page s m ns small)) (inr (in_reached s ns n i l)))
    (λ h. subst (In (reach s n)) (sym (reached_none s m ns h)) (in_reached s ns n i l)) (cases_lt (reach s m) no_page)

module _ (print : Bytes → ℕ) (s : State) (h : Mid print s) where
  -- The bytes of a flash page.
  abbrev bytes : ℕ → Bytes
  bytes q = unwrap_or (content s.part q) []

  reach_written : (n : ℕ) → n < host_pages s → reach s n < no_page → is_written s.part (reach s n) ≡ true
  reach_written n l small = live_written s (hosts print s h) h.agrees (reach s n) small (live_from s n (reach s n) l refl)

  contents_reached : (ns : List ℕ) → ((n : ℕ) → In n ns → n < host_pages s) → contents (map (held s) ns) ≡ map bytes (reached s ns)
  contents_reached [] small = refl
  contents_reached (n ∷ ns) small =
      let rest = contents_reached ns (λ m i. small m (inr i)) in
      let l = small n (inl refl) in
      ⊎_elim
      (λ none. let empty : held s n ≡ None = ap (content s.part) none ∙ content_none print s h in
      ap (λ o. contents (o ∷ map (held s) ns)) empty ∙ rest ∙ ap (map bytes) (sym (reached_none s n ns (omega (arith, none)))))
      (λ k. ap (λ o. contents (o ∷ map (held s) ns)) (content_bytes s.part (reach s n) (reach_written n l k.2))
      ∙ ap (λ ys. bytes (reach s n) ∷ ys) rest ∙ ap (map bytes) (sym (reached_page s n ns k.2)))
      (reach_named s (hosts print s h) h.agrees n l)

  abbrev all : List ℕ
  all = range_with_len 0 (host_pages s)

  all_small : (n : ℕ) → In n all → n < host_pages s
  all_small n i = omega (arith, (counting_in 0 (host_pages s) n i).1)

  map_contents : contents (page_map s) ≡ map bytes (reached s all)
  map_contents = contents_reached all all_small

  pages_inside : (q : ℕ) → In q (reached s all) → q < flash_pages s
  pages_inside q i =
      let r = reached_in s all q i in
      let l = all_small r.0 r.1 in
      written_inside s.part (some_pages print s h) q
      (ap (is_written s.part) (sym r.2) ∙ reach_written r.0 l (omega (arith, r.2, r.3)))

  pub live_reached : (q : ℕ) → q < flash_pages s → in_use s q ≡ stands_in q (reached s all)
  live_reached q l =
      same_test (in_use s q) (stands_in q (reached s all))
      (λ live. let n = live_find s q live in
      stands_in_from q (reached s all) (subst (λ v. In v (reached s all)) n.2
      (in_reached s all n.0 (in_counting 0 (host_pages s) n.0 (omega arith) (omega (arith, n.1)))
      (omega (arith, n.2, l, (sizes print s h).all)))))
      (λ t. let r = reached_in s all q (stands_in_find q (reached s all) t) in live_from s r.0 q (all_small r.0 r.1) r.2)

  pub live_distinct : live_pages s ≡ distinct (reached s all)
  live_distinct = tally_same (in_use s) (λ q. stands_in q (reached s all)) (flash_pages s) live_reached ∙ tally_distinct (flash_pages s) (reached s all) pages_inside

  pub pages_enough : different (contents (page_map s)) ≤ live_pages s
  pages_enough = omega (arith, ap different map_contents, different_le bytes (reached s all), live_distinct)

  pub pages_few : live_pages s ≤ length (contents (page_map s))
  pages_few = omega (arith, live_distinct, distinct_le (reached s all), ap length map_contents, length-map (reached s all) bytes)

  -- With no two pages in use alike, they are as many as the different contents.
  pub pages_exact : ((i j : ℕ) → Copies s i j → i ≡ j) → live_pages s ≡ different (contents (page_map s))
  pages_exact none =
      live_distinct ∙ sym (different_all bytes (reached s all) (λ p q i j same. none p q (copies p q i j same))) ∙ sym (ap different map_contents)
    where
      has : (q : ℕ) → In q (reached s all) → content s.part q ≡ Some (bytes q)
      has q i =
          let r = reached_in s all q i in
          content_bytes s.part q (ap (is_written s.part) (sym r.2) ∙ reach_written r.0 (all_small r.0 r.1) (omega (arith, r.2, r.3)))

      reached_in_use : (q : ℕ) → In q (reached s all) → in_use s q ≡ true
      reached_in_use q i = let r = reached_in s all q i in live_from s r.0 q (all_small r.0 r.1) r.2

      copies : (p q : ℕ) → In p (reached s all) → In q (reached s all) → bytes p ≡ bytes q → Copies s p q
      copies p q i j same = (pages_inside p i, pages_inside q j, reached_in_use p i, reached_in_use q j, has p i ∙ ap Some same ∙ sym (has q j))
