-- A copy is merged into the lowest page with its content.
use Rattle.std.proofs.Common.{◌≡◌, ℕ, zero, suc, ◌+◌, ◌<◌, false, cond, eqb, ◌⊎◌, sym, refl, ap, ◌∙◌, subst, inl, inr, ⊎_elim, arith}
use mathlib.Core.Path.{fun_ext}
use Rattle.std.proofs.lemmas.List.{length-map}
use Rattle.std.proofs.lemmas.Bool.{cases_eq, eq-eqb, ne_eqb}
use Rattle.rules.specs.State.{Bytes, State, no_page, flash_pages, host_pages, names, leads, reach, in_use, is_written, live_pages, held}
use Rattle.rules.specs.Tables.{without, EntryFor, lifted, merged}
use Rattle.rules.specs.Calls.{Copies, Merges}
use Rattle.rules.specs.Making.{Agree, Agrees}
use Rattle.rules.proofs.Tally.{tally_at, one_true, one_false}
use Rattle.rules.proofs.Namers.{merged_names, merged_word, merged_entry, merged_word_cases, merged_entry_cases, merge_agrees, leads_cases}
use Rattle.rules.proofs.Reaches.{goes_merged}
use Rattle.rules.proofs.Crossing.{name_mapped}
use Rattle.rules.proofs.Live.{live_from, live_find, live_not}
use Rattle.rules.proofs.LetGo.{entry_left}
use Rattle.std.specs.Cmp.{both_ways as same_test}
use Rattle.rules.proofs.Moving.{Mid, sizes, hosts, fits_same}
use Rattle.rules.proofs.Sharing.{lifted_mid, lifted_entry, lifted_reach, lifted_hosts}

module _ (print : Bytes → ℕ) (s : State) (i j e : ℕ) (h : Mid print s) (apart : i < j) (copies : Copies s i j) (entry : EntryFor s i e) where
  abbrev u : State
  u = lifted s i e

  abbrev t : State
  t = merged s i j e

  abbrev k : ℕ
  k = 4096 + e

  i_small : i < no_page
  i_small = omega (arith, copies.0, (sizes print s h).all)

  j_small : j < no_page
  j_small = omega (arith, copies.1, (sizes print s h).all)

  u_mid : Mid print u
  u_mid = lifted_mid print s i e h copies.2 i_small entry

  u_entry : names u k ≡ i
  u_entry = lifted_entry print s i e h copies.2 i_small entry

  u_apart : names u k ≡ j → ⊥
  u_apart is = omega (arith, u_entry, is)

  t_names : names t ≡ merged_names (names u) j k
  t_names =
      fun_ext (name_mapped (merged_word (names u) j k) (merged_entry j) u.words u.shared
      (grind (arith, merged_word_cases (names u) j k no_page, leads_cases (names u) no_page, j_small))
      (grind (arith, merged_entry_cases j no_page, j_small)))

  pub merged_hosts : host_pages t ≡ host_pages s
  merged_hosts = length-map u.words (merged_word (names u) j k) ∙ lifted_hosts print s i e h copies.2 i_small entry

  t_agrees : Agrees t
  t_agrees =
      subst (λ f. Agree f (is_written s.part) (host_pages t)) (sym t_names)
      (subst (λ n. Agree (merged_names (names u) j k) (is_written s.part) n) (sym (length-map u.words (merged_word (names u) j k)))
      (merge_agrees (names u) (is_written s.part) (host_pages u) j k (hosts print u u_mid) u_mid.agrees (omega arith)
      (omega (arith, u_entry, i_small)) u_apart))

  -- A word that reached the copy reaches the page it was merged into, and every other word what it reached.
  pub merged_reach : (n : ℕ) → n < host_pages s
      → ((reach s n ≡ j) × (reach t n ≡ i)) ⊎ ((reach s n ≡ j → ⊥) × (reach t n ≡ reach s n))
  merged_reach n l =
      let is : reach t n ≡ cond (eqb (reach u n) j) (names u k) (reach u n) =
      ap (λ (f : ℕ → ℕ). leads f (f n)) t_names ∙ goes_merged (names u) j k n (omega arith) u_apart (omega (arith, l, hosts print s h)) in
      let same = lifted_reach print s i e h copies.2 i_small entry n l in
      ⊎_elim
      (λ here. inl (here, is ∙ ap (λ b. cond b (names u k) (reach u n)) (eq-eqb (reach u n) j (same ∙ here)) ∙ u_entry))
      (λ other. inr (other, is ∙ ap (λ b. cond b (names u k) (reach u n)) (ne_eqb (reach u n) j (λ r. other (sym same ∙ r))) ∙ same))
      (cases_eq (reach s n) j)

  pub merged_held : (n : ℕ) → n < host_pages s → held t n ≡ held s n
  merged_held n l =
      grind (arith, merged_reach n l, copies.4)

  copy_dead : in_use t j ≡ false
  copy_dead = live_not t j (λ n l is.
      grind (arith, merged_reach n (omega (arith, l, merged_hosts))))

  others_same : (q : ℕ) → (q ≡ j → ⊥) → in_use s q ≡ in_use t q
  others_same q ne =
      same_test (in_use s q) (in_use t q)
      (λ live. let n = live_find s q live in
      ⊎_elim (λ r. absurd (ne (sym n.2 ∙ r.0)))
      (λ r. live_from t n.0 q (omega (arith, n.1, merged_hosts)) (r.1 ∙ n.2)) (merged_reach n.0 n.1))
      (λ live. let n = live_find t q live in
      let l : n.0 < host_pages s = omega (arith, n.1, merged_hosts) in
      ⊎_elim (λ r. ap (in_use s) (sym (sym r.1 ∙ n.2)) ∙ copies.2)
      (λ r. live_from s n.0 q l (sym r.1 ∙ n.2)) (merged_reach n.0 l))

  pub merged_pages : live_pages t + 1 ≡ live_pages s
  merged_pages =
      omega (
        arith,
        tally_at (in_use s) (in_use t) (flash_pages s) j copies.1 (λ q l ne. others_same q ne),
        one_true (in_use s j) copies.3,
        one_false (in_use t j) copy_dead,
      )

  pub merged_mid : Mid print t
  merged_mid = record {
    fits = fits_same s t refl refl merged_hosts h.fits;
    entries = length-map u.shared (merged_entry j) ∙ u_mid.entries;
    flash = h.flash;
    agrees = t_agrees;
    single = h.single;
    stores = record {
      places = length-map s.store (without j) ∙ h.stores.places;
      each = λ a d is. let left = entry_left j s.store a d is in let st = h.stores.each a d left.0 in
          record { segment = st.segment; inside = st.inside; live = sym (others_same d.page left.1) ∙ st.live; right = st.right };
      apart = λ a b c d a_is b_is same.
          h.stores.apart a b c d (entry_left j s.store a c a_is).0 (entry_left j s.store b d b_is).0 same;
    };
  }

-- What a scan keeps and does: at its end no two pages in use have equal content.
pub record Scanned (print : Bytes → ℕ) (s : State) (died : ℕ) (t : State) : Type 0 where
  pub mids : Mid print t
  pub same_part : t.part ≡ s.part
  pub same_hosts : host_pages t ≡ host_pages s
  pub same_held : (n : ℕ) → n < host_pages s → held t n ≡ held s n
  pub fewer : live_pages t + died ≡ live_pages s
  pub no_copies : (i j : ℕ) → Copies t i j → i ≡ j

pub merges_scanned : (print : Bytes → ℕ) (died : ℕ) (s t : State) → Mid print s → Merges died s t → Scanned print s died t
merges_scanned print zero s t h (is, none) =
    subst (Scanned print s 0) (sym is)
    (record { mids = h; same_part = refl; same_hosts = refl; same_held = λ n l. refl; fewer = omega arith; no_copies = none })
merges_scanned print (suc died) s t h (i, j, e, apart, copies, lowest, entry, rest) =
    let m = merged_mid print s i j e h apart copies entry in
    let r = merges_scanned print died (merged s i j e) t m rest in
    let hosts_same = merged_hosts print s i j e h apart copies entry in
    record {
      mids = r.mids;
      same_part = r.same_part;
      same_hosts = r.same_hosts ∙ hosts_same;
      same_held = λ n l. r.same_held n (subst (λ c. n < c) (sym hosts_same) l) ∙ merged_held print s i j e h apart copies entry n l;
      fewer = omega (arith, r.fewer, merged_pages print s i j e h apart copies entry);
      no_copies = r.no_copies;
    }
