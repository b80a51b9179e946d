-- A page is stored.
use Rattle.std.proofs.Common.{◌≡◌, ℕ, ◌+◌, ◌*◌, ◌/◌, ◌%◌, ◌<◌, ◌≤◌, true, false, ◌⊎◌, List, length, Some, None, Option, sym, ap, ◌∙◌, subst, inl, inr, ⊎_elim, arith}
use Rattle.std.specs.List.{slice_get}
use Rattle.std.proofs.lemmas.List.{length-set, get_or_past}
use Rattle.std.proofs.lemmas.Bool.{both_ways, eq-eqb}
use Rattle.std.proofs.lemmas.Nat.{le-div}
use Rattle.flash.specs.Part.{Block, Part, Sound, no_block, written, appended, wear}
use Rattle.flash.proofs.Keeps.{sound_appended}
use Rattle.flash.proofs.Wear.{wear_appended}
use Rattle.rules.specs.State.{Bytes, Entry, State, no_page, block_count, per_block, flash_pages, host_pages, names, leads, reach, content, in_use, is_written, is_clean, hotness, held}
use Rattle.rules.specs.Tables.{next_page, repoint}
use Rattle.rules.specs.Store.{entry_at, Entered}
use Rattle.rules.specs.Calls.{Takes, Ready, NoneOffered}
use Rattle.rules.specs.Making.{Agrees}
use Rattle.rules.specs.Stands.{StoreStands, Stands}
use Rattle.std.proofs.lemmas.Option.{same_Some}
use Rattle.rules.proofs.Tally.{another}
use Rattle.rules.proofs.Namers.{Fit, leads_cases, written_agrees}
use Rattle.rules.proofs.Content.{content_new, content_old, content_stays, content_written, written_from, new_unwritten, new_inside}
use Rattle.rules.proofs.Live.{live_written, reach_named}
use Rattle.rules.proofs.LetGo.{repoint_agrees, reach_here, reach_other, repoint_part, repoint_hosts, repoint_shared, repoint_places, repoint_was, repoint_entry}
use Rattle.rules.proofs.Blocks.{takes_room, part_written_in, clean_in, single_appended, written_other}
use Rattle.rules.proofs.Moving.{Mid, mid, stands, sizes, hosts, some_pages, fits_same}
use Rattle.rules.proofs.Entering.{entered_cases, entered_length, entered_entry, entered_apart}

-- No page is found under the number that stands for none.
pub content_none : (print : Bytes → ℕ) (s : State) → Mid print s → content s.part no_page ≡ None
content_none print s h =
    ap (λ (y : Block). slice_get y.pages (no_page % per_block s))
    (get_or_past s.part.blocks (no_page / per_block s) no_block
    (le-div (block_count s) no_page (per_block s) (some_pages print s h) (sizes print s h).all))

module _ (print : Bytes → ℕ) (s : State) (n : ℕ) (x : Bytes) (b : ℕ) (after : List (Option Entry)) (h : Stands print s) (in_host : n < host_pages s)
    (whole : length x ≡ 256) (ready : Ready s) (none : NoneOffered print s x) (takes : Takes s b)
    (entered : Entered (hotness s) s.store (record { print = print x; page = next_page s b }) 1 after) where
  abbrev m : Mid print s
  m = mid print s h

  abbrev new : ℕ
  new = next_page s b

  -- The state with the page programmed and entered, before any word names it.
  abbrev v : State
  v = record { part = appended s.part b x; words = s.words; shared = s.shared; store = after }

  abbrev t : State
  t = repoint v n new

  room : written s.part b < per_block s
  room = takes_room s b (some_pages print s m) takes

  unwritten : is_written s.part new ≡ false
  unwritten = new_unwritten s.part (some_pages print s m) b x takes.0 room

  inside : new < flash_pages s
  inside = new_inside s.part (some_pages print s m) b x takes.0 room

  small : new < no_page
  small = omega (arith, inside, (sizes print s m).all)

  stays : (q : ℕ) → is_written s.part q ≡ true → content v.part q ≡ content s.part q
  stays q w = content_stays s.part (some_pages print s m) b x takes.0 room q w

  fresh : content v.part new ≡ Some x
  fresh = content_new s.part (some_pages print s m) b x takes.0 room

  v_agrees : Agrees v
  v_agrees =
      written_agrees (names s) (is_written s.part) (is_written v.part) (host_pages s) h.agrees
      (λ k l w. let y = content_written s.part (names s k) w in written_from v.part (names s k) y.0 (stays (names s k) w ∙ y.1))

  fit : Fit (names v) (is_written v.part) new
  fit = inr (inl (
    small,
    written_from v.part new x fresh,
    λ k is. both_ways (is_written s.part new) unwritten (ap (is_written s.part) (sym is) ∙ h.agrees.there k (omega (arith, is, small))),
  ))

  few : host_pages v ≤ 4096
  few = hosts print s m

  leads_new : leads (names v) new ≡ new
  leads_new = grind (arith, leads_cases (names v) new, small)

  t_part : t.part ≡ appended s.part b x
  t_part = repoint_part v n new few in_host v_agrees fit

  pub stored_hosts : host_pages t ≡ host_pages s
  stored_hosts = repoint_hosts v n new few in_host v_agrees fit

  t_blocks : block_count t ≡ block_count s
  t_blocks = ap (λ (y : Part). length y.blocks) t_part ∙ length-set s.part.blocks b _

  t_per : per_block t ≡ per_block s
  t_per = ap (λ (y : Part). y.per_block) t_part

  -- A page in use is written.
  live_is_written : (q : ℕ) → q < flash_pages s → in_use s q ≡ true → is_written s.part q ≡ true
  live_is_written q l live = live_written s few h.agrees q (omega (arith, l, (sizes print s m).all)) live

  pub stored_held : held t n ≡ Some x
  stored_held =
      ap (λ (y : Part). content y (reach t n)) t_part
      ∙ ap (content v.part) (reach_here v n new few in_host v_agrees fit ∙ leads_new) ∙ fresh

  pub stored_other : (k : ℕ) → k < host_pages s → (k ≡ n → ⊥) → held t k ≡ held s k
  stored_other k l ne =
      ap (λ (y : Part). content y (reach t k)) t_part
      ∙ ap (content v.part) (reach_other v n new few in_host v_agrees fit k l ne)
      ∙ content_old s.part (some_pages print s m) b x takes.0 room (reach s k)
      (λ e. ⊎_elim (λ no. omega (arith, no, e, small))
      (λ w. both_ways (is_written s.part new) unwritten
      (ap (is_written s.part) (sym (w.1 ∙ e)) ∙ h.agrees.there w.0 (omega (arith, w.1, e, small))))
      (reach_named s few h.agrees k l))

  -- Every entry before the word is set stands, but that the new one's page is not in use yet.
  v_entry : (k : ℕ) (e : Entry) → entry_at after k ≡ Some e
      → ((e ≡ record { print = print x; page = new }) × (k / 16 ≡ print x % 16)) ⊎ (entry_at s.store k ≡ Some e)
  v_entry k e is =
      ⊎_elim (λ same. inr (ap (λ (y : List (Option Entry)). entry_at y k) (sym same) ∙ is))
      (λ p. ⊎_elim (λ here. inl (here.1, ap (λ i. i / 16) here.0 ∙ p.1.1)) (λ other. inr other.1)
      (entered_entry s.store after (record { print = print x; page = new }) p.0
      (omega (arith, p.1.0, h.stores.places)) p.2 k e is))
      (entered_cases (hotness s) s.store (record { print = print x; page = new }) 1 after entered)

  entry_fact : (k : ℕ) (e : Entry) → entry_at after k ≡ Some e
      → (e.page < flash_pages s) × ((in_use v e.page ≡ true) ⊎ (e.page ≡ leads (names v) new)) × (k / 16 ≡ e.print % 16)
      × ((y : Bytes) → content v.part e.page ≡ Some y → e.print ≡ print y)
  entry_fact k e is =
      ⊎_elim
      (λ new_one. let page_is = ap (λ (y : Entry). y.page) new_one.0 in let print_is = ap (λ (y : Entry). y.print) new_one.0 in (
        subst (λ q. q < flash_pages s) (sym page_is) inside,
        inr (page_is ∙ sym leads_new),
        new_one.1 ∙ ap (λ i. i % 16) (sym print_is),
        λ y has. print_is ∙ ap print (same_Some x y (sym fresh ∙ ap (content v.part) (sym page_is) ∙ has)),
      ))
      (λ old_one. let st = h.stores.each k e old_one in (
        st.inside,
        inl st.live,
        st.segment,
        λ y has. st.right y (sym (stays e.page (live_is_written e.page st.inside st.live)) ∙ has),
      ))
      (v_entry k e is)

  -- A left entry was there before the word was set, and its page is in use.
  t_entry : (k : ℕ) (e : Entry) → entry_at t.store k ≡ Some e → (entry_at after k ≡ Some e) × (in_use t e.page ≡ true)
  t_entry k e is =
      let f = entry_fact k e (repoint_was v n new few in_host v_agrees fit k e is) in
      repoint_entry v n new few in_host v_agrees fit k e is (omega (arith, f.0, (sizes print s m).all)) f.1

  same_content : (q : ℕ) → content t.part q ≡ content v.part q
  same_content q = ap (λ (y : Part). content y q) t_part

  -- A store entry's page has the content it had.
  old_content : (i : ℕ) (c : Entry) → entry_at s.store i ≡ Some c → content v.part c.page ≡ content s.part c.page
  old_content i c is = let st = h.stores.each i c is in stays c.page (live_is_written c.page st.inside st.live)

  v_apart : (j k : ℕ) (d e : Entry) → entry_at after j ≡ Some d → entry_at after k ≡ Some e
      → content v.part d.page ≡ content v.part e.page → j ≡ k
  v_apart =
      entered_apart (content v.part) print (hotness s) s.store after x new 1 entered h.stores.places fresh
      (λ k e is y has. (h.stores.each k e is).right y (sym (old_content k e is) ∙ has))
      (λ k p is has. none p (k, is, sym (old_content k (record { print = print x; page = p }) is) ∙ has))
      (λ j k d e j_is k_is same. h.stores.apart j k d e j_is k_is (sym (old_content j d j_is) ∙ same ∙ old_content k e k_is))

  t_stores : StoreStands print t
  t_stores = record {
    places = repoint_places v n new few in_host v_agrees fit ∙ entered_length (hotness s) s.store _ 1 after entered ∙ h.stores.places;
    each = λ k e is. let r = t_entry k e is in let f = entry_fact k e r.0 in
        record {
          segment = f.2;
          inside = subst (λ c. e.page < c) (sym (ap (λ c. c * per_block t) t_blocks ∙ ap (λ c. block_count s * c) t_per)) f.0;
          live = r.1;
          right = λ y has. f.3 y (sym (same_content e.page) ∙ has);
        };
    apart = λ j k d e j_is k_is same.
        v_apart j k d e (t_entry j d j_is).0 (t_entry k e k_is).0 (sym (same_content d.page) ∙ same ∙ same_content e.page);
  }

  -- A clean block is left.
  t_spare : (c : ℕ) × (c < block_count t) × (is_clean t c ≡ true)
  t_spare =
      let c = spare in (
        c.0,
        subst (λ i. c.0 < i) (sym t_blocks) c.1,
        eq-eqb _ 0 (ap (λ (y : Part). written y c.0) t_part ∙ written_other s.part b takes.0 x c.0 c.3 ∙ clean_in s c.0 c.2),
      )
    where
      spare : (c : ℕ) × (c < block_count s) × (is_clean s c ≡ true) × (c ≡ b → ⊥)
      spare =
          ⊎_elim
          (λ part. let c = h.blocks.spare in
          (c.0, c.1, c.2, λ e. omega (arith, (part_written_in s b part).0, clean_in s c.0 c.2, ap (written s.part) e)))
          (λ clean. ⊎_elim (λ some. absurd (clean.0 some)) (λ two. another (is_clean s) (block_count s) b takes.0 two) ready)
          takes.1

  pub stored_stands : Stands print t
  stored_stands =
      stands print t
      (record {
        fits = fits_same s t t_blocks t_per stored_hosts h.sizes;
        entries = repoint_shared v n new few in_host v_agrees fit ∙ h.entries
            ∙ sym (ap (λ c. c * per_block t) t_blocks ∙ ap (λ c. block_count s * c) t_per);
        flash = subst Sound (sym t_part) (sound_appended s.part b x takes.0 room whole h.flash);
        agrees = repoint_agrees v n new few in_host v_agrees fit;
        single = single_appended s t b x t_part takes h.blocks.single;
        stores = t_stores;
      })
      t_spare

  pub stored_wear : wear t.part ≡ wear s.part + 1
  stored_wear = ap wear t_part ∙ wear_appended s.part b x takes.0
