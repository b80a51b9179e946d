-- A host page's word takes another value, and the reference that it was is let go.
use Rattle.std.proofs.Common.{◌≡◌, ℕ, ◌-◌, ◌<◌, ◌≤◌, true, eqb, ltb, ◌⊎◌, List, map, length, get_or, Some, None, Option, sym, refl, ap, ◌∙◌, subst, inl, inr, ⊎_elim, arith}
use mathlib.Core.Path.{fun_ext}
use Rattle.std.proofs.lemmas.List.{length-set, length-map, get_or_past}
use Rattle.std.proofs.Math.ListN.{get_or-map}
use Rattle.std.proofs.lemmas.Bool.{cases_eq, cases_lt, eq-eqb, ne_eqb, eqb-true, lt-ltb, ltb-true, cond-true, cond-false, cond_both, eqb-false, ltb-false, both_ways}
use Rattle.rules.specs.State.{Entry, State, no_page, host_pages, names, leads, reach, in_use, is_written}
use Rattle.rules.specs.Tables.{without, dies, with_word, with_shared, is_held, let_go, repoint}
use Rattle.rules.specs.Store.{entry_at}
use Rattle.rules.specs.Making.{Agree, Agrees}
use Rattle.rules.proofs.Tally.{tally_find, tally_pos}
use Rattle.rules.proofs.Namers.{put, put_other, AgreeBut, Fit, word_put, let_go_kept, let_go_freed, leads_cases}
use Rattle.rules.proofs.Reaches.{goes_word, goes_word_other, goes_freed, leads_same}
use Rattle.rules.proofs.Crossing.{name_set_word, name_set_entry, name_entry, name_past}
use Rattle.rules.proofs.Live.{live_from, live_find}

-- What is left of a store when a page dies.
pub without_some : (q : ℕ) (o : Option Entry) (e : Entry) → without q o ≡ Some e → (o ≡ Some e) × (e.page ≡ q → ⊥)
without_some q None e is = cc
without_some q (Some d) e is =
    ⊎_elim
    (λ h. let r = cond-true (eqb d.page q) None (Some d) (eq-eqb d.page q h) in cc)
    (λ h. let r = cond-false (eqb d.page q) None (Some d) (ne_eqb d.page q h) in
    let same : d ≡ e = cc in (ap Some same, λ p. h (ap (λ (y : Entry). y.page) same ∙ p)))
    (cases_eq d.page q)

pub entry_mapped : (g : Option Entry → Option Entry) (store : List (Option Entry)) (k : ℕ) → g None ≡ None
    → entry_at (map g store) k ≡ g (entry_at store k)
entry_mapped g store k keeps =
    ap (get_or (map g store) k) (sym keeps) ∙ get_or-map g store k None

pub entry_left : (q : ℕ) (store : List (Option Entry)) (k : ℕ) (e : Entry) → entry_at (map (without q) store) k ≡ Some e
    → (entry_at store k ≡ Some e) × (e.page ≡ q → ⊥)
entry_left q store k e is = without_some q (entry_at store k) e (sym (entry_mapped (without q) store k refl) ∙ is)

-- What letting go of the value w leaves has P, if each of the four things that w may have been leaves something that has it.
pub let_go_has : (s : State) (w : ℕ) (P : State → Type 0) → (w ≡ no_page → P s) → (w < no_page → P (dies s w))
    → (4096 ≤ w → (n : ℕ) × (n < host_pages s) × (names s n ≡ w) → P s)
    → (4096 ≤ w → ((n : ℕ) → n < host_pages s → names s n ≡ w → ⊥) → P (dies (with_shared s (w - 4096) no_page) (names s w)))
    → P (let_go s w)
let_go_has s w P nothing page kept entry =
    cond_both (eqb w no_page) _ _ P (λ t. nothing (eqb-true w no_page t))
    (λ f. cond_both (ltb w 4096) _ _ P
    (λ t. let ne = eqb-false w no_page f in let low = ltb-true w 4096 t in page (omega arith))
    (λ t. let big = ltb-false w 4096 t in
    cond_both (is_held s w) _ _ P
    (λ held. let r = tally_find (λ n. eqb (names s n) w) (host_pages s) (ltb-true _ _ held) in kept big (r.0, r.1, eqb-true (names s r.0) w r.2))
    (λ free. entry big (λ n l is. both_ways _ free
    (lt-ltb 0 _ (tally_pos (λ m. eqb (names s m) w) (host_pages s) n l (eq-eqb (names s n) w is)))))))

-- A namer that names a page is one of the lists' own.
pub entry_inside : (s : State) (k : ℕ) → 4096 ≤ k → names s k < no_page → k - 4096 < length s.shared
entry_inside s k big small =
    ⊎_elim (λ l. l)
    (λ h. absurd (omega (arith, name_entry s.words s.shared k big, get_or_past s.shared (k - 4096) no_page h)))
    (cases_lt (k - 4096) (length s.shared))

module _ (v : State) (n w : ℕ) (few : host_pages v ≤ 4096) (l : n < host_pages v) (a : Agrees v)
    (fit : Fit (names v) (is_written v.part) w) where
  -- The state with the new word, before the old reference is let go.
  abbrev z : State
  z = with_word v n w

  abbrev old : ℕ
  old = names v n

  z_hosts : host_pages z ≡ host_pages v
  z_hosts = length-set v.words n w

  z_names : names z ≡ put (names v) n w
  z_names = fun_ext (name_set_word v.words v.shared n w l few)

  z_agrees : AgreeBut (names z) (is_written v.part) (host_pages z) old
  z_agrees =
      subst (λ f. AgreeBut f (is_written v.part) (host_pages z) old) (sym z_names)
      (subst (λ h. AgreeBut (put (names v) n w) (is_written v.part) h old) (sym z_hosts)
      (word_put (names v) (is_written v.part) (host_pages v) few a n w l fit))

  -- No word past the last host page has a value.
  z_past : ((m : ℕ) → m < host_pages z → names z m ≡ old → ⊥) → 4096 ≤ old → (m : ℕ) → m < 4096 → names z m ≡ old → ⊥
  z_past none big m small is =
      ⊎_elim (λ inside. none m inside is)
      (λ past. absurd (omega (arith, name_past z.words z.shared m past small)))
      (cases_lt m (host_pages z))

  old_used : 4096 ≤ old → names v old < no_page
  old_used big = a.used n (omega arith) big

  z_old : 4096 ≤ old → names z old ≡ names v old
  z_old big = ap (λ (f : ℕ → ℕ). f old) z_names ∙ put_other (names v) n w old (λ e. absurd (omega arith))

  freed_names : 4096 ≤ old → names (with_shared z (old - 4096) no_page) ≡ put (names z) old no_page
  freed_names big =
      fun_ext (name_set_entry z.words z.shared old no_page big (entry_inside v old big (old_used big)))

  pub repoint_agrees : Agrees (repoint v n w)
  repoint_agrees =
      let_go_has z old Agrees (λ e. let_go_kept _ _ _ _ z_agrees (inl (omega arith))) (λ l. let_go_kept _ _ _ _ z_agrees (inl (omega arith)))
      (λ big held. let_go_kept _ _ _ _ z_agrees (inr held))
      (λ big none. subst (λ f. Agree f (is_written v.part) (host_pages z)) (sym (freed_names big))
      (let_go_freed (names z) (is_written v.part) (host_pages z) old (omega (arith, z_hosts)) z_agrees big (z_past none big)))

  -- Before the old reference is let go, and after it, the words reach the same pages.
  repoint_reach : (m : ℕ) → m < host_pages v → reach (repoint v n w) m ≡ reach z m
  repoint_reach m in_host =
      let_go_has z old (λ y. reach y m ≡ reach z m) (λ e. refl) (λ l. refl) (λ big held. refl)
      (λ big none. ap (λ (f : ℕ → ℕ). leads f (f m)) (freed_names big)
      ∙ goes_freed (names z) old m big (omega arith) (none m (omega (arith, z_hosts))))

  -- Word n reaches what w leads to, and every other word what it reached.
  pub reach_here : reach (repoint v n w) n ≡ leads (names v) w
  reach_here =
      repoint_reach n l ∙ ap (λ (f : ℕ → ℕ). leads f (f n)) z_names ∙ goes_word (names v) n w (omega arith)

  pub reach_other : (m : ℕ) → m < host_pages v → (m ≡ n → ⊥) → reach (repoint v n w) m ≡ reach v m
  reach_other m in_host ne =
      repoint_reach m in_host ∙ ap (λ (f : ℕ → ℕ). leads f (f m)) z_names ∙ goes_word_other (names v) n w m (omega arith) ne

  -- Nothing but the words, the entries and the store changes, and the lists keep their lengths.
  pub repoint_part : (repoint v n w).part ≡ v.part
  repoint_part = let_go_has z old (λ y. y.part ≡ v.part) (λ e. refl) (λ l. refl) (λ big held. refl) (λ big none. refl)

  pub repoint_hosts : host_pages (repoint v n w) ≡ host_pages v
  repoint_hosts =
      let_go_has z old (λ y. host_pages y ≡ host_pages v) (λ e. z_hosts) (λ l. z_hosts) (λ big held. z_hosts) (λ big none. z_hosts)

  pub repoint_shared : length (repoint v n w).shared ≡ length v.shared
  repoint_shared =
      let_go_has z old (λ y. length y.shared ≡ length v.shared) (λ e. refl) (λ l. refl) (λ big held. refl)
      (λ big none. length-set v.shared (old - 4096) no_page)

  pub repoint_places : length (repoint v n w).store ≡ length v.store
  repoint_places =
      let_go_has z old (λ y. length y.store ≡ length v.store) (λ e. refl) (λ l. length-map v.store (without old)) (λ big held. refl)
      (λ big none. length-map v.store (without (names z old)))

  -- An entry that is left was there before.
  pub repoint_was : (k : ℕ) (e : Entry) → entry_at (repoint v n w).store k ≡ Some e → entry_at v.store k ≡ Some e
  repoint_was k e =
      let_go_has z old (λ y. entry_at y.store k ≡ Some e → entry_at v.store k ≡ Some e) (λ none is. is)
      (λ l is. (entry_left old v.store k e is).0) (λ big held is. is) (λ big none is. (entry_left (names z old) v.store k e is).0)

  -- A page that was in use, or that w leads to, is in use afterwards, unless it was what the last reference n let go of.
  stays_live : (q : ℕ) → (in_use v q ≡ true) ⊎ (q ≡ leads (names v) w) → (reach v n ≡ q → in_use (repoint v n w) q ≡ true)
      → in_use (repoint v n w) q ≡ true
  stays_live q (inr is) last = live_from (repoint v n w) n q (omega (arith, repoint_hosts)) (reach_here ∙ sym is)
  stays_live q (inl live) last =
      let m = live_find v q live in
      ⊎_elim (λ e. last (ap (reach v) (sym e) ∙ m.2))
      (λ ne. live_from (repoint v n w) m.0 q (omega (arith, repoint_hosts, m.1)) (reach_other m.0 m.1 ne ∙ m.2))
      (cases_eq m.0 n)

  -- An entry that is left was there before, and its page is in use.
  pub repoint_entry : (k : ℕ) (e : Entry) → entry_at (repoint v n w).store k ≡ Some e → e.page < no_page
      → (in_use v e.page ≡ true) ⊎ (e.page ≡ leads (names v) w)
      → (entry_at v.store k ≡ Some e) × (in_use (repoint v n w) e.page ≡ true)
  repoint_entry k e is small before = (
    repoint_was k e is,
    let_go_has z old (λ y. entry_at y.store k ≡ Some e → in_use (repoint v n w) e.page ≡ true)
        (λ none has. stays_live e.page before (λ r. absurd (let c = leads_cases (names v) old in grind (arith, c, r, none))))
        (λ l has. stays_live e.page before (λ r. let c = leads_cases (names v) old in grind (arith, c, r, (entry_left old v.store k e has).1)))
        (λ big held has. stays_live e.page before
        (λ r. live_from (repoint v n w) held.0 e.page (omega (arith, held.1, repoint_hosts, z_hosts))
        (repoint_reach held.0 (omega (arith, held.1, z_hosts)) ∙ ap (leads (names z)) held.2
        ∙ leads_same (names z) (names v) old (λ h. z_old big) ∙ r)))
        (λ big none has. stays_live e.page before (λ r. let c = leads_cases (names v) old in grind (arith, c, r, z_old big, (entry_left (names z old) v.store k e has).1)))
        is,
  )
