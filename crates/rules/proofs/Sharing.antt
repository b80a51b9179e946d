-- A page is shared through an entry, and a word is pointed elsewhere.
use Rattle.std.proofs.Common.{◌≡◌, ℕ, ◌+◌, ◌-◌, ◌*◌, ◌<◌, ◌≤◌, true, cond, eqb, ltb, ◌⊎◌, map, length, set, sym, refl, ap, ◌∙◌, subst, inl, inr, ⊎_elim, arith}
use mathlib.Core.Path.{fun_ext}
use Rattle.std.proofs.lemmas.List.{length-set, length-map}
use Rattle.flash.specs.Part.{Part, Sound}
use Rattle.rules.specs.State.{Bytes, State, no_page, host_pages, name, names, leads, reach, content, in_use, is_written, held}
use Rattle.rules.specs.Tables.{EntryFor, lifted, repoint}
use Rattle.rules.specs.Making.{Agree, Agrees}
use Rattle.rules.proofs.Cases.{by_eq, by_lt}
use Rattle.rules.proofs.Namers.{put, put_same, put_cases, Fit, lift_put, leads_cases}
use Rattle.rules.proofs.Reaches.{goes_lifted}
use Rattle.rules.proofs.Crossing.{name_set_entry, name_mapped_words}
use Rattle.rules.proofs.Live.{live_find, live_same}
use Rattle.rules.proofs.LetGo.{repoint_agrees, reach_here, reach_other, repoint_part, repoint_hosts, repoint_shared, repoint_places, repoint_was, repoint_entry}
use Rattle.rules.proofs.Blocks.{Single}
use Rattle.rules.proofs.Moving.{Mid, sizes, hosts, fits_same}

-- A word that named q names entry k instead.
abbrev pub redirect : ℕ → ℕ → ℕ → ℕ
redirect q k w = cond (eqb w q) k w

pub redirect_cases : (q k w : ℕ) → ((w ≡ q) × (redirect q k w ≡ k)) ⊎ ((w ≡ q → ⊥) × (redirect q k w ≡ w))
redirect_cases q k w = by_eq w q k w

module _ (print : Bytes → ℕ) (s : State) (q e : ℕ) (h : Mid print s) (live : in_use s q ≡ true) (small : q < no_page)
    (entry : EntryFor s q e) where
  abbrev k : ℕ
  k = 4096 + e

  abbrev u : State
  u = lifted s q e

  e_is : k - 4096 ≡ e
  e_is = omega arith

  -- The namers with every word redirected.
  abbrev redirected : ℕ → ℕ
  redirected i = cond (ltb i 4096) (redirect q k (names s i)) (names s i)

  -- What the namers hold: words are redirected, and the entry names q.
  u_names : (j : ℕ) → names u j ≡ put redirected k q j
  u_names j =
      ap (λ i. name (map (redirect q k) s.words) (set s.shared i q) j) (sym e_is)
      ∙ name_set_entry (map (redirect q k) s.words) s.shared k q (omega arith) (omega (arith, entry.0, h.entries)) j
      ∙ ap (λ (f : ℕ → ℕ). put f k q j)
      (fun_ext (name_mapped_words (redirect q k) s.words s.shared
      (grind (arith, redirect_cases q k no_page, small))))

  -- Either nothing changes, or a word n that named q directly now names the entry, which was free.
  u_is : (names u ≡ names s) ⊎ ((n : ℕ) × (n < host_pages s) × (names s n ≡ q) × (names s k ≡ no_page) × (names u ≡ put (put (names s) n k) k q))
  u_is =
      ⊎_elim
      (λ own. inl (fun_ext (λ j. u_names j ∙ as_was own j)))
      (λ free. let m = live_find s q live in
      let direct : names s m.0 ≡ q =
      ⊎_elim (λ low. sym low.1 ∙ m.2)
      (λ high. absurd (free.0 (names s m.0 - 4096) (ap (names s) (back (names s m.0) high.0) ∙ sym high.1 ∙ m.2)))
      (leads_cases (names s) (names s m.0)) in
      inr (m.0, m.1, direct, free.1, fun_ext (λ j. u_names j ∙ now_shared m.0 m.1 direct j)))
      entry.1
    where
      back : (w : ℕ) → 4096 ≤ w → 4096 + (w - 4096) ≡ w
      back w big = omega arith

      way : (i : ℕ) → ((i < 4096) × (cond (ltb i 4096) (redirect q k (names s i)) (names s i) ≡ redirect q k (names s i)))
          ⊎ ((4096 ≤ i) × (cond (ltb i 4096) (redirect q k (names s i)) (names s i) ≡ names s i))
      way i = by_lt i 4096 (redirect q k (names s i)) (names s i)

      as_was : names s k ≡ q → (j : ℕ) → put redirected k q j ≡ names s j
      as_was own j =
          let a = put_cases redirected k q j in let b = way j in let c = redirect_cases q k (names s j) in
          grind (arith, a, b, c, h.agrees.once j k, own, small)

      now_shared : (n : ℕ) → n < host_pages s → names s n ≡ q → (j : ℕ)
          → put redirected k q j ≡ put (put (names s) n k) k q j
      now_shared n l direct j =
          let a = put_cases redirected k q j in let b = way j in let c = redirect_cases q k (names s j) in
          let d = put_cases (put (names s) n k) k q j in let e = put_cases (names s) n k j in
          grind (arith, a, b, c, d, e, h.agrees.once n j, direct, small, hosts print s h)

  pub lifted_hosts : host_pages u ≡ host_pages s
  lifted_hosts = length-map s.words (redirect q k)

  pub lifted_entry : names u k ≡ q
  lifted_entry = u_names k ∙ put_same redirected k q

  lifted_agrees : Agrees u
  lifted_agrees =
      subst (λ n. Agree (names u) (is_written s.part) n) (sym lifted_hosts)
      (⊎_elim
      (λ same. subst (λ f. Agree f (is_written s.part) (host_pages s)) (sym same) h.agrees)
      (λ d. subst (λ f. Agree f (is_written s.part) (host_pages s)) (sym (d.4 ∙ ap (put (put (names s) d.0 k) k) (sym d.2)))
      (lift_put (names s) (is_written s.part) (host_pages s) (hosts print s h) h.agrees d.0 k d.1
      (omega (arith, d.2, small)) (omega arith) d.3))
      u_is)

  pub lifted_reach : (n : ℕ) → n < host_pages s → reach u n ≡ reach s n
  lifted_reach n l =
      ⊎_elim
      (λ same. ap (λ (f : ℕ → ℕ). leads f (f n)) same)
      (λ d. ap (λ (f : ℕ → ℕ). leads f (f n)) (d.4 ∙ ap (put (put (names s) d.0 k) k) (sym d.2))
      ∙ goes_lifted (names s) (is_written s.part) (host_pages s) d.0 k n h.agrees (omega (arith, d.1, hosts print s h)) (omega arith)
      (omega (arith, l, hosts print s h)) (omega (arith, d.2, small)) d.3)
      u_is

  pub lifted_live : (r : ℕ) → in_use u r ≡ in_use s r
  lifted_live r = live_same s u lifted_hosts lifted_reach r

  pub lifted_mid : Mid print u
  lifted_mid = record {
    fits = fits_same s u refl refl lifted_hosts h.fits;
    entries = length-set s.shared e q ∙ h.entries;
    flash = h.flash;
    agrees = lifted_agrees;
    single = h.single;
    stores = record {
      places = h.stores.places;
      each = λ j d is. let st = h.stores.each j d is in
          record { segment = st.segment; inside = st.inside; live = lifted_live d.page ∙ st.live; right = st.right };
      apart = h.stores.apart;
    };
  }

-- A word is pointed elsewhere, and its old reference let go.
module _ (print : Bytes → ℕ) (v : State) (n w : ℕ) (h : Mid print v) (in_host : n < host_pages v)
    (fit : Fit (names v) (is_written v.part) w) where
  abbrev t : State
  t = repoint v n w

  few : host_pages v ≤ 4096
  few = hosts print v h

  pub pointed_part : t.part ≡ v.part
  pointed_part = repoint_part v n w few in_host h.agrees fit

  pub pointed_hosts : host_pages t ≡ host_pages v
  pointed_hosts = repoint_hosts v n w few in_host h.agrees fit

  pub pointed_mid : Mid print t
  pointed_mid = record {
    fits = fits_same v t (ap (λ (y : Part). length y.blocks) pointed_part) (ap (λ (y : Part). y.per_block) pointed_part) pointed_hosts h.fits;
    entries = repoint_shared v n w few in_host h.agrees fit ∙ h.entries ∙ ap (λ (y : Part). length y.blocks * y.per_block) (sym pointed_part);
    flash = subst Sound (sym pointed_part) h.flash;
    agrees = repoint_agrees v n w few in_host h.agrees fit;
    single = subst (λ (y : Part). Single (record { part = y; words = t.words; shared = t.shared; store = t.store })) (sym pointed_part) h.single;
    stores = record {
      places = repoint_places v n w few in_host h.agrees fit ∙ h.stores.places;
      each = λ k d is. let was = repoint_was v n w few in_host h.agrees fit k d is in let st = h.stores.each k d was in
          record {
            segment = st.segment;
            inside = subst (λ (y : Part). d.page < length y.blocks * y.per_block) (sym pointed_part) st.inside;
            live = (repoint_entry v n w few in_host h.agrees fit k d is (omega (arith, st.inside, (sizes print v h).all)) (inl st.live)).1;
            right = λ x has. st.right x (ap (λ (y : Part). content y d.page) (sym pointed_part) ∙ has);
          };
      apart = λ j k c d j_is k_is same.
          h.stores.apart j k c d (repoint_was v n w few in_host h.agrees fit j c j_is) (repoint_was v n w few in_host h.agrees fit k d k_is)
          (ap (λ (y : Part). content y c.page) (sym pointed_part) ∙ same ∙ ap (λ (y : Part). content y d.page) pointed_part);
    };
  }

  pub pointed_held : held t n ≡ content v.part (leads (names v) w)
  pointed_held = ap (λ (y : Part). content y (reach t n)) pointed_part ∙ ap (content v.part) (reach_here v n w few in_host h.agrees fit)

  pub pointed_other : (m : ℕ) → m < host_pages v → (m ≡ n → ⊥) → held t m ≡ held v m
  pointed_other m l ne =
      ap (λ (y : Part). content y (reach t m)) pointed_part ∙ ap (content v.part) (reach_other v n w few in_host h.agrees fit m l ne)
