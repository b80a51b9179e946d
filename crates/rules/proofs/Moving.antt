-- A flash page is moved: what stands between calls, but for the spare block, stands after it.
use Rattle.std.proofs.Common.{◌≡◌, ℕ, ◌+◌, ◌*◌, ◌%◌, ◌<◌, ◌≤◌, true, ltb, [], length, Some, None, Option, unwrap_or, sym, refl, ap, ◌∙◌, subst, ⊎_elim, arith}
use mathlib.Core.Path.{fun_ext}
use Rattle.std.proofs.lemmas.List.{length-set, length-map}
use Rattle.std.proofs.lemmas.Bool.{both_ways}
use Rattle.flash.specs.Part.{Part, Sound, written, wear}
use Rattle.flash.proofs.Keeps.{sound_appended}
use Rattle.flash.proofs.Wear.{wear_appended}
use Rattle.rules.specs.State.{Bytes, Entry, State, no_page, block_count, per_block, flash_pages, host_pages, names, leads, reach, content, in_use, is_written, is_clean, held}
use Rattle.rules.specs.Tables.{next_page, renamed, renamed_entry, moved_to}
use Rattle.rules.specs.Store.{entry_at, Offers}
use Rattle.rules.specs.Calls.{Takes}
use Rattle.rules.specs.Making.{size_refusal, SizesFit, Agree, Agrees}
use Rattle.rules.specs.Stands.{StoreStands, Stands}
use Rattle.rules.proofs.Cases.{same_ways}
use Rattle.rules.proofs.Sizes.{Sizes, sizes_fit, host_few}
use Rattle.rules.proofs.Namers.{renamed_cases, rename_agrees}
use Rattle.rules.proofs.Reaches.{goes_renamed}
use Rattle.rules.proofs.Crossing.{name_mapped}
use Rattle.rules.proofs.Content.{content_new, content_old, content_stays, content_written, content_bytes, written_from, written_inside, new_unwritten, new_inside, content_whole}
use Rattle.rules.proofs.Live.{live_from, live_find, live_written, reach_named}
use Rattle.rules.proofs.LetGo.{entry_mapped}
use Rattle.rules.proofs.Blocks.{Single, takes_room, single_appended}

-- All that holds between calls but for the spare block, which a collection may use up on its way.
pub record Mid (print : Bytes → ℕ) (s : State) : Type 0 where
  pub fits : SizesFit s.part (host_pages s)
  pub entries : length s.shared ≡ flash_pages s
  pub flash : Sound s.part
  pub agrees : Agrees s
  pub single : Single s
  pub stores : StoreStands print s

pub mid : (print : Bytes → ℕ) (s : State) → Stands print s → Mid print s
mid print s h = record {
  fits = h.sizes;
  entries = h.entries;
  flash = h.flash;
  agrees = h.agrees;
  single = h.blocks.single;
  stores = h.stores;
}

pub stands : (print : Bytes → ℕ) (s : State) → Mid print s
    → (b : ℕ) × (b < block_count s) × (is_clean s b ≡ true) → Stands print s
stands print s h spare = record {
  sizes = h.fits;
  entries = h.entries;
  flash = h.flash;
  agrees = h.agrees;
  blocks = record { spare = spare; single = h.single };
  stores = h.stores;
}

module _ (print : Bytes → ℕ) (s : State) (h : Mid print s) where
  pub sizes : Sizes (block_count s) (per_block s) (host_pages s)
  sizes = sizes_fit (block_count s) (per_block s) (host_pages s) h.fits

  pub hosts : host_pages s ≤ 4096
  hosts = omega (arith, host_few (block_count s) (per_block s) (host_pages s) sizes)

  pub some_pages : 0 < per_block s
  some_pages = omega (arith, sizes.one)

  -- A written page has a number below 4,095.
  pub written_small : (q : ℕ) → is_written s.part q ≡ true → q < no_page
  written_small q w = omega (arith, written_inside s.part some_pages q w, sizes.all)

-- The same sizes fit a part with as many blocks.
pub fits_same : (s t : State) → block_count t ≡ block_count s → per_block t ≡ per_block s → host_pages t ≡ host_pages s
    → SizesFit s.part (host_pages s) → SizesFit t.part (host_pages t)
fits_same s t b p n fits = ap (λ i. size_refusal i (per_block t) (host_pages t)) b
    ∙ ap (λ i. size_refusal (block_count s) i (host_pages t)) p
    ∙ ap (size_refusal (block_count s) (per_block s)) n ∙ fits

module _ (print : Bytes → ℕ) (s : State) (q b : ℕ) (h : Mid print s) (takes : Takes s b) (w : is_written s.part q ≡ true) where
  abbrev p : Part
  p = s.part

  abbrev t : State
  t = moved_to s q b

  abbrev new : ℕ
  new = next_page s b

  room : written p b < per_block s
  room = takes_room s b (some_pages print s h) takes

  -- The bytes that are moved.
  abbrev x : Bytes
  x = unwrap_or (content p q) []

  x_is : content p q ≡ Some x
  x_is = content_bytes p q w

  pub new_small : new < no_page
  new_small = omega (arith, new_inside p (some_pages print s h) b x takes.0 room, (sizes print s h).all)

  pub new_fresh : (k : ℕ) → names s k ≡ new → ⊥
  new_fresh k is =
      both_ways (is_written p new) (new_unwritten p (some_pages print s h) b x takes.0 room)
      (ap (is_written p) (sym is) ∙ h.agrees.there k (omega (arith, is, new_small)))

  q_small : q < no_page
  q_small = written_small print s h q w

  t_names : names t ≡ (λ k. renamed q new (names s k))
  t_names = fun_ext (λ k. name_mapped (renamed q new) (renamed q new) s.words s.shared none none k ∙ same_ways (ltb k 4096) _)
    where
      none : renamed q new no_page ≡ no_page
      none = grind (arith, renamed_cases q new no_page, q_small)

  pub moved_hosts : host_pages t ≡ host_pages s
  moved_hosts = length-map s.words (renamed q new)

  pub moved_blocks : block_count t ≡ block_count s
  moved_blocks = length-set p.blocks b _

  written_still : (r : ℕ) → is_written p r ≡ true → is_written t.part r ≡ true
  written_still r l =
      let y = content_written p r l in
      written_from t.part r y.0 (content_stays p (some_pages print s h) b x takes.0 room r l ∙ y.1)

  pub moved_agrees : Agrees t
  moved_agrees =
      subst (λ f. Agree f (is_written t.part) (host_pages t)) (sym t_names)
      (subst (λ n. Agree (λ k. renamed q new (names s k)) (is_written t.part) n) (sym moved_hosts)
      (rename_agrees (names s) (is_written p) (is_written t.part) (host_pages s) q new (hosts print s h) h.agrees q_small new_small
      new_fresh (written_from t.part new x (content_new p (some_pages print s h) b x takes.0 room)) written_still))

  pub moved_reach : (n : ℕ) → reach t n ≡ renamed q new (reach s n)
  moved_reach n = ap (λ (f : ℕ → ℕ). leads f (f n)) t_names ∙ goes_renamed (names s) q new n q_small new_small

  -- A page has the content it had, under its new number.
  pub moved_content : (r : ℕ) → (r ≡ new → ⊥) → content t.part (renamed q new r) ≡ content p r
  moved_content r ne =
      grind (
        arith,
        renamed_cases q new r,
        content_new p (some_pages print s h) b x takes.0 room,
        x_is,
        content_old p (some_pages print s h) b x takes.0 room r ne,
      )

  pub reach_not_new : (n : ℕ) → n < host_pages s → reach s n ≡ new → ⊥
  reach_not_new n l is =
      ⊎_elim (λ e. omega (arith, e, is, new_small)) (λ k. new_fresh k.0 (k.1 ∙ is)) (reach_named s (hosts print s h) h.agrees n l)

  pub moved_held : (n : ℕ) → n < host_pages s → held t n ≡ held s n
  moved_held n l = ap (content t.part) (moved_reach n) ∙ moved_content (reach s n) (reach_not_new n l)

  pub moved_live : (r : ℕ) → in_use s r ≡ true → in_use t (renamed q new r) ≡ true
  moved_live r live =
      let n = live_find s r live in
      live_from t n.0 (renamed q new r) (omega (arith, n.1, moved_hosts)) (moved_reach n.0 ∙ ap (renamed q new) n.2)

  -- A page in use afterwards was in use before, under its old number.
  pub moved_live_back : (r : ℕ) → in_use t r ≡ true → (y : ℕ) × (in_use s y ≡ true) × (renamed q new y ≡ r) × (y ≡ new → ⊥)
  moved_live_back r live =
      let n = live_find t r live in
      let l : n.0 < host_pages s = omega (arith, n.1, moved_hosts) in
      (reach s n.0, live_from s n.0 (reach s n.0) l refl, sym (moved_reach n.0) ∙ n.2, reach_not_new n.0 l)

  -- A store entry is one that was there, under its page's new number.
  entry_before : (k : ℕ) (e : Entry) → entry_at t.store k ≡ Some e
      → (d : Entry) × (entry_at s.store k ≡ Some d) × (e.print ≡ d.print) × (e.page ≡ renamed q new d.page)
  entry_before k e is = by (entry_at s.store k) refl (sym (entry_mapped (renamed_entry q new) s.store k refl) ∙ is)
    where
      by : (o : Option Entry) → entry_at s.store k ≡ o → renamed_entry q new o ≡ Some e
          → (d : Entry) × (entry_at s.store k ≡ Some d) × (e.print ≡ d.print) × (e.page ≡ renamed q new d.page)
      by None o_is gives = cc
      by (Some d) o_is gives =
          let same : e ≡ record { print = d.print; page = renamed q new d.page } = cc in
          (d, o_is, ap (λ (y : Entry). y.print) same, ap (λ (y : Entry). y.page) same)

  entry_content : (k : ℕ) (e : Entry) (is : entry_at t.store k ≡ Some e)
      → content t.part e.page ≡ content p (entry_before k e is).0.page
  entry_content k e is =
      let d = entry_before k e is in
      let st = h.stores.each k d.0 d.1 in
      ap (content t.part) d.3 ∙ moved_content d.0.page
      (λ same. both_ways (is_written p new) (new_unwritten p (some_pages print s h) b x takes.0 room)
      (ap (is_written p) (sym same)
      ∙ live_written s (hosts print s h) h.agrees d.0.page (omega (arith, same, new_small)) st.live))

  moved_stores : StoreStands print t
  moved_stores = record {
    places = length-map s.store (renamed_entry q new) ∙ h.stores.places;
    each = λ k e is.
        let d = entry_before k e is in
        let st = h.stores.each k d.0 d.1 in
        record {
          segment = st.segment ∙ ap (λ i. i % 16) (sym d.2);
          inside = subst (λ v. v < flash_pages t) (sym d.3) (inside_still d.0.page st.inside);
          live = ap (in_use t) d.3 ∙ moved_live d.0.page st.live;
          right = λ y has. d.2 ∙ st.right y (sym (entry_content k e is) ∙ has);
        };
    apart = λ j k d e j_is k_is same.
        let d' = entry_before j d j_is in let e' = entry_before k e k_is in
        h.stores.apart j k d'.0 e'.0 d'.1 e'.1 (sym (entry_content j d j_is) ∙ same ∙ entry_content k e k_is);
  }
    where
      inside_still : (r : ℕ) → r < flash_pages s → renamed q new r < flash_pages t
      inside_still r l =
          subst (λ n. renamed q new r < n * per_block s) (sym moved_blocks)
          (grind (arith, renamed_cases q new r, new_inside p (some_pages print s h) b x takes.0 room))

  pub moved_mid : Mid print t
  moved_mid = record {
    fits = fits_same s t moved_blocks refl moved_hosts h.fits;
    entries = length-map s.shared (renamed q new) ∙ h.entries ∙ ap (λ n. n * per_block s) (sym moved_blocks);
    flash = sound_appended p b x takes.0 room (content_whole p q x h.flash x_is) h.flash;
    agrees = moved_agrees;
    single = single_appended s t b x refl takes h.single;
    stores = moved_stores;
  }

  pub moved_wear : wear t.part ≡ wear p + 1
  moved_wear = wear_appended p b x takes.0

  -- What the store offers it offered before.
  pub moved_offers : (y : Bytes) (r : ℕ) → Offers print t y r → (i : ℕ) × Offers print s y i
  moved_offers y r (k, is, has) =
      let d = entry_before k (record { print = print y; page = r }) is in (
        d.0.page,
        (
          k,
          d.1 ∙ ap (λ i. Some (record { print = i; page = d.0.page })) (sym d.2),
          sym (entry_content k (record { print = print y; page = r }) is) ∙ has,
        ),
      )
