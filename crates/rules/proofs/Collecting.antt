-- A collection keeps what stands, what the host pages hold, and how many flash pages are in use.
use Rattle.std.proofs.Common.{◌≡◌, ℕ, ◌+◌, ◌*◌, ◌/◌, ◌%◌, ◌<◌, ◌≤◌, Bool, true, false, cond, eqb, ◌⊎◌, List, [], ◌∷◌, length, sym, refl, ap, ◌∙◌, subst, inl, inr, ⊎_elim, mul_comm, div-add-mod', arith}
use Rattle.std.proofs.lemmas.List.{length-set}
use Rattle.std.proofs.lemmas.Bool.{cases_eq, cases_lt, false_from_ne_true, both_ways, eq-eqb, ne_eqb}
use Rattle.std.proofs.lemmas.Nat.{div-mul-add, mod_below, mul-add-lt, le-div}
use Rattle.flash.specs.Part.{Block, written, erases, wear}
use Rattle.flash.proofs.Keeps.{sound_erased, block_other}
use Rattle.flash.proofs.Wear.{wear_erased}
use Rattle.rules.specs.State.{Bytes, State, no_page, tally, block_count, per_block, flash_pages, host_pages, names, reach, content, in_use, is_written, in_use_at, live_in, live_pages, held}
use Rattle.rules.specs.Tables.{next_page, moved_to, erased_block}
use Rattle.rules.specs.Store.{Offers}
use Rattle.rules.specs.Calls.{Takes, Candidate, Victim, below, Moves, Collected}
use Rattle.rules.specs.Stands.{StoreStands, Stands}
use Rattle.std.specs.Cmp.{both_ways as same_test}
use Rattle.rules.proofs.Tally.{tally_at, one_true, one_false}
use Rattle.rules.proofs.Namers.{renamed_cases, written_agrees}
use Rattle.rules.proofs.Crossing.{name_past}
use Rattle.rules.proofs.Content.{content_erased, content_written, written_from, new_unwritten}
use Rattle.rules.proofs.Live.{live_from, live_not, live_written, reach_named, named_live}
use Rattle.rules.proofs.Blocks.{takes_room, closed_in, written_other, erased_here, single_erased}
use Rattle.rules.proofs.Members.{In, Apart, in_below, below_in, below_apart, length_below}
use Rattle.rules.proofs.Moving.{Mid, stands, sizes, hosts, some_pages, fits_same, moved_mid, moved_hosts, moved_blocks, moved_wear, moved_held, moved_live, moved_live_back, moved_offers, new_small}

-- A move takes one page out of use and puts another into use.
module _ (print : Bytes → ℕ) (s : State) (q b : ℕ) (h : Mid print s) (takes : Takes s b) (live : in_use s q ≡ true) (small : q < no_page) where
  abbrev w : is_written s.part q ≡ true
  w = live_written s (hosts print s h) h.agrees q small live

  abbrev t : State
  t = moved_to s q b

  abbrev new : ℕ
  new = next_page s b

  unwritten : is_written s.part new ≡ false
  unwritten = new_unwritten s.part (some_pages print s h) b [] takes.0 (takes_room s b (some_pages print s h) takes)

  new_ne : new ≡ q → ⊥
  new_ne e = both_ways (is_written s.part new) unwritten (ap (is_written s.part) e ∙ w)

  new_dead : in_use s new ≡ false
  new_dead = live_not s new (λ n l is. both_ways (is_written s.part new) unwritten
      (live_written s (hosts print s h) h.agrees new (new_small print s q b h takes w) (live_from s n new l is)))

  old_dead : in_use t q ≡ false
  old_dead =
      false_from_ne_true (in_use t q)
      (λ is. let y = moved_live_back print s q b h takes w q is in
      ⊎_elim (λ c. new_ne (sym c.1 ∙ y.2)) (λ c. c.0 (sym c.1 ∙ y.2)) (renamed_cases q new y.0))

  other_same : (r : ℕ) → (r ≡ q → ⊥) → (r ≡ new → ⊥) → in_use s r ≡ in_use t r
  other_same r ne ne' =
      same_test (in_use s r) (in_use t r)
      (λ is. ap (in_use t) (sym (⊎_elim (λ c. absurd (ne c.0)) (λ c. c.1) (renamed_cases q new r))) ∙ moved_live print s q b h takes w r is)
      (λ is. let y = moved_live_back print s q b h takes w r is in
      ⊎_elim (λ c. absurd (ne' (sym y.2 ∙ c.1))) (λ c. ap (in_use s) (sym (sym c.1 ∙ y.2)) ∙ y.1) (renamed_cases q new y.0))

  new_live : in_use t new ≡ true
  new_live = ap (in_use t) (sym (⊎_elim (λ c. c.1) (λ c. absurd (c.0 refl)) (renamed_cases q new q))) ∙ moved_live print s q b h takes w q live

  pub moved_pages : q < flash_pages s → new < flash_pages s → live_pages t ≡ live_pages s
  moved_pages in_q in_new =
      let mid_test : ℕ → Bool = λ r. cond (eqb r new) true (in_use s r) in
      let at_new : mid_test new ≡ true = ap (λ c. cond c true (in_use s new)) (eq-eqb new new refl) in
      let at_other : (r : ℕ) → (r ≡ new → ⊥) → mid_test r ≡ in_use s r = λ r ne. ap (λ c. cond c true (in_use s r)) (ne_eqb r new ne) in
      let one_more = tally_at (in_use s) mid_test (flash_pages s) new in_new (λ j l ne. sym (at_other j ne)) in
      let one_less = tally_at mid_test (in_use t) (flash_pages s) q in_q
      (λ j l ne. ⊎_elim (λ e. ap mid_test e ∙ at_new ∙ sym new_live ∙ ap (in_use t) (sym e))
      (λ ne'. at_other j ne' ∙ other_same j ne ne') (cases_eq j new)) in
      ap (tally (in_use t)) (ap (λ n. n * per_block s) (moved_blocks print s q b h takes w))
      ∙ omega (
        arith,
        one_more,
        one_less,
        one_false (in_use s new) new_dead,
        one_true (mid_test new) at_new,
        one_true (mid_test q) (at_other q (λ e. new_ne (sym e)) ∙ live),
        one_false (in_use t q) old_dead,
      )

-- What the moves of a collection keep and do.
pub record Kept (print : Bytes → ℕ) (v : ℕ) (s : State) (ks : List ℕ) (u : State) : Type 0 where
  pub mids : Mid print u
  pub same_hosts : host_pages u ≡ host_pages s
  pub same_blocks : block_count u ≡ block_count s
  pub same_per : per_block u ≡ per_block s
  pub same_endurance : u.part.endurance ≡ s.part.endurance
  pub closed : written u.part v ≡ written s.part v
  pub same_erases : erases u.part v ≡ erases s.part v
  pub empty : (k : ℕ) → k < per_block s → in_use u (v * per_block s + k) ≡ true → ⊥
  pub same_held : (n : ℕ) → n < host_pages s → held u n ≡ held s n
  pub worn : wear u.part ≡ wear s.part + length ks
  pub same_pages : live_pages u ≡ live_pages s
  pub offered : (x : Bytes) (q : ℕ) → Offers print u x q → (r : ℕ) × Offers print s x r

-- Pages of a closed block v that are yet to be moved: all of its pages in use, each once.
pub record Due (v : ℕ) (s : State) (ks : List ℕ) : Type 0 where
  pub inside : v < block_count s
  pub full : written s.part v ≡ per_block s
  pub once : Apart ks
  pub lives : (k : ℕ) → In k ks → (k < per_block s) × (in_use s (v * per_block s + k) ≡ true)
  pub covers : (k : ℕ) → k < per_block s → in_use s (v * per_block s + k) ≡ true → In k ks

pub moves_keep : (print : Bytes → ℕ) (v : ℕ) (s : State) (ks : List ℕ) (u : State) → Mid print s → Due v s ks → Moves v s ks u
    → Kept print v s ks u
moves_keep print v s [] u h due is =
    subst (Kept print v s []) (sym is)
    (record {
      mids = h;
      same_hosts = refl;
      same_blocks = refl;
      same_per = refl;
      same_endurance = refl;
      closed = refl;
      same_erases = refl;
      empty = λ k l live. due.covers k l live;
      same_held = λ n l. refl;
      worn = omega arith;
      same_pages = refl;
      offered = λ x q o. (q, o);
    })
moves_keep print v s (k ∷ ks) u h due (b, takes, rest) =
    let P = per_block s in
    let q = v * P + k in
    let t = moved_to s q b in
    let here = due.lives k (inl refl) in
    let in_q : q < flash_pages s = place_inside v k due.inside here.0 in
    let small : q < no_page = omega (arith, in_q, (sizes print s h).all) in
    let w = live_written s (hosts print s h) h.agrees q small here.1 in
    let apart_b : v ≡ b → ⊥ = λ e. absurd (omega (arith, takes_room s b (some_pages print s h) takes, due.full, ap (written s.part) e)) in
    let r = moves_keep print v t ks u (moved_mid print s q b h takes w)
    (record {
      inside = subst (λ n. v < n) (sym (moved_blocks print s q b h takes w)) due.inside;
      full = written_other s.part b takes.0 _ v apart_b ∙ due.full;
      once = due.once.1;
      lives = λ j i. let old = due.lives j (inr i) in (
        old.0,
        ap (in_use t) (sym (⊎_elim
            (λ c. absurd (due.once.0 (subst (λ m. In m ks) (same_place j k old.0 here.0 c.0) i)))
            (λ c. c.1) (renamed_cases q (next_page s b) (v * P + j)))) ∙ moved_live print s q b h takes w (v * P + j) old.1,
      );
      covers = λ j l live.
          let y = moved_live_back print s q b h takes w (v * P + j) live in
          ⊎_elim
          (λ c. absurd (apart_b (sym (div-mul-add v P j l) ∙ ap (λ m. m / P) (sym y.2 ∙ c.1)
          ∙ div-mul-add b P (written s.part b) (takes_room s b (some_pages print s h) takes))))
          (λ c. let same : y.0 ≡ v * P + j = sym c.1 ∙ y.2 in
          ⊎_elim (λ e. absurd (c.0 (same ∙ ap (λ m. v * P + m) e))) (λ i. i)
          (due.covers j l (ap (in_use s) (sym same) ∙ y.1)))
          (renamed_cases q (next_page s b) y.0);
    })
    rest in
    record {
      mids = r.mids;
      same_hosts = r.same_hosts ∙ moved_hosts print s q b h takes w;
      same_blocks = r.same_blocks ∙ moved_blocks print s q b h takes w;
      same_per = r.same_per;
      same_endurance = r.same_endurance;
      closed = r.closed ∙ written_other s.part b takes.0 _ v apart_b;
      same_erases = r.same_erases ∙ ap (λ (y : Block). y.erases) (block_other s.part b v _ apart_b);
      empty = r.empty;
      same_held = λ n l. r.same_held n (subst (λ m. n < m) (sym (moved_hosts print s q b h takes w)) l) ∙ moved_held print s q b h takes w n l;
      worn = omega (arith, r.worn, moved_wear print s q b h takes w);
      same_pages = r.same_pages ∙ moved_pages print s q b h takes here.1 small in_q
          (place_inside b (written s.part b) takes.0 (takes_room s b (some_pages print s h) takes));
      offered = λ x i o. let o' = r.offered x i o in moved_offers print s q b h takes w x o'.0 o'.1;
    }
  where
    place_inside : (c j : ℕ) → c < block_count s → j < per_block s → c * per_block s + j < flash_pages s
    place_inside c j l m = omega (arith, mul-add-lt c (per_block s) j (block_count s) l m, mul_comm (per_block s) (block_count s))

    same_place : (i j : ℕ) → i < per_block s → j < per_block s → v * per_block s + i ≡ v * per_block s + j → i ≡ j
    same_place i j l m e = omega (arith, e)

-- A block without a page in use is erased.
module _ (print : Bytes → ℕ) (u : State) (v : ℕ) (h : Mid print u) (inside : v < block_count u)
    (empty : (k : ℕ) → k < per_block u → in_use u (v * per_block u + k) ≡ true → ⊥)
    (left : erases u.part v < u.part.endurance) where
  abbrev e : State
  e = erased_block u v

  e_blocks : block_count e ≡ block_count u
  e_blocks = length-set u.part.blocks v _

  -- A page in use lies in another block, and so does the number that stands for none.
  elsewhere : (q : ℕ) → (q ≡ no_page) ⊎ (in_use u q ≡ true) → q / per_block u ≡ v → ⊥
  elsewhere q (inl none) is =
      let far : block_count u ≤ no_page / per_block u = le-div (block_count u) no_page (per_block u) (some_pages print u h) (sizes print u h).all in
      omega (arith, far, ap (λ i. i / per_block u) none, is)
  elsewhere q (inr live) is =
      empty (q % per_block u) (mod_below q (per_block u) (some_pages print u h))
      (ap (in_use u) (ap (λ i. i * per_block u + q % per_block u) (sym is) ∙ div-add-mod' q (per_block u)) ∙ live)

  same_content : (q : ℕ) → (q ≡ no_page) ⊎ (in_use u q ≡ true) → content e.part q ≡ content u.part q
  same_content q live = content_erased u.part (some_pages print u h) v q (elsewhere q live)

  named_in_use : (k : ℕ) → names u k < no_page → in_use u (names u k) ≡ true
  named_in_use k small =
      ⊎_elim
      (λ in_host. named_live u (hosts print u h) h.agrees k small (inl in_host))
      (λ past. ⊎_elim
      (λ low. absurd (omega (arith, name_past u.words u.shared k past low, small)))
      (λ big. named_live u (hosts print u h) h.agrees k small (inr big))
      (cases_lt k 4096))
      (cases_lt k (host_pages u))

  pub erased_held : (n : ℕ) → n < host_pages u → held e n ≡ held u n
  erased_held n l =
      same_content (reach u n)
      (⊎_elim (λ none. inl none) (λ k. inr (live_from u n (reach u n) l refl)) (reach_named u (hosts print u h) h.agrees n l))

  erased_stores : StoreStands print e
  erased_stores = record {
    places = h.stores.places;
    each = λ k d is. let st = h.stores.each k d is in
        record {
          segment = st.segment;
          inside = subst (λ n. d.page < n * per_block u) (sym e_blocks) st.inside;
          live = st.live;
          right = λ x has. st.right x (sym (same_content d.page (inr st.live)) ∙ has);
        };
    apart = λ j k c d j_is k_is same.
        h.stores.apart j k c d j_is k_is
        (sym (same_content c.page (inr (h.stores.each j c j_is).live)) ∙ same
        ∙ same_content d.page (inr (h.stores.each k d k_is).live));
  }

  pub erased_stands : Stands print e
  erased_stands =
      stands print e
      (record {
        fits = fits_same u e e_blocks refl refl h.fits;
        entries = h.entries ∙ ap (λ n. n * per_block u) (sym e_blocks);
        flash = sound_erased u.part v inside left h.flash;
        agrees = written_agrees (names u) (is_written u.part) (is_written e.part) (host_pages u) h.agrees
            (λ k small was. let x = content_written u.part (names u k) was in
            written_from e.part (names u k) x.0 (same_content (names u k) (inr (named_in_use k small)) ∙ x.1));
        single = single_erased u e v refl inside h.single;
        stores = erased_stores;
      })
      (v, subst (λ n. v < n) (sym e_blocks) inside, eq-eqb _ 0 (erased_here u.part v inside))

  pub erased_offers : (x : Bytes) (q : ℕ) → Offers print e x q → Offers print u x q
  erased_offers x q (k, is, has) = (k, is, sym (same_content q (inr (h.stores.each k _ is).live)) ∙ has)

  pub erased_wear : written u.part v ≡ per_block u → wear e.part ≡ wear u.part
  erased_wear full = omega (arith, wear_erased u.part v inside, full)

  pub erased_pages : live_pages e ≡ live_pages u
  erased_pages = ap (tally (in_use u)) (ap (λ n. n * per_block u) e_blocks)

-- What a call keeps that moves no host page: what stands, what the host pages hold, and the number of flash pages in use.
pub record Steady (print : Bytes → ℕ) (s t : State) : Type 0 where
  pub standing : Stands print t
  pub same_hosts : host_pages t ≡ host_pages s
  pub same_held : (n : ℕ) → n < host_pages s → held t n ≡ held s n
  pub same_pages : live_pages t ≡ live_pages s
  pub offered : (x : Bytes) (q : ℕ) → Offers print t x q → (r : ℕ) × Offers print s x r

pub due_victim : (s : State) (v : ℕ) → Candidate s v → Due v s (below (in_use_at s v) (per_block s))
due_victim s v c = record {
  inside = c.0.0;
  full = closed_in s v c.0.1;
  once = below_apart (in_use_at s v) (per_block s);
  lives = λ k i. in_below (in_use_at s v) (per_block s) k i;
  covers = λ k l live. below_in (in_use_at s v) (per_block s) k l live;
}

pub collected_keeps : (print : Bytes → ℕ) (s : State) (v : ℕ) (t : State) → Mid print s → Victim s v → Collected s v t
    → Steady print s t × (wear t.part ≡ wear s.part + live_in s v)
collected_keeps print s v t h victim (u, moves, is) =
    let k = moves_keep print v s (below (in_use_at s v) (per_block s)) u h (due_victim s v victim.0) moves in
    let inside : v < block_count u = subst (λ n. v < n) (sym k.same_blocks) victim.0.0.0 in
    let empty : (j : ℕ) → j < per_block u → in_use u (v * per_block u + j) ≡ true → ⊥ =
    λ j l live. k.empty j (subst (λ n. j < n) k.same_per l) (ap (λ n. in_use u (v * n + j)) (sym k.same_per) ∙ live) in
    let left : erases u.part v < u.part.endurance = omega (arith, k.same_erases, k.same_endurance, victim.0.1) in
    let full : written u.part v ≡ per_block u = k.closed ∙ closed_in s v victim.0.0.1 ∙ sym k.same_per in
    subst (λ y. Steady print s y × (wear y.part ≡ wear s.part + live_in s v)) (sym is) (
      record {
        standing = erased_stands print u v k.mids inside empty left;
        same_hosts = k.same_hosts;
        same_held = λ n l. erased_held print u v k.mids inside empty left n (subst (λ m. n < m) (sym k.same_hosts) l) ∙ k.same_held n l;
        same_pages = erased_pages print u v k.mids inside empty left ∙ k.same_pages;
        offered = λ x q o. k.offered x q (erased_offers print u v k.mids inside empty left x q o);
      },
      erased_wear print u v k.mids inside empty left full ∙ k.worn
          ∙ ap (λ n. wear s.part + n) (length_below (in_use_at s v) (per_block s)),
    )
