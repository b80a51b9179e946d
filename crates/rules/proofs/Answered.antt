-- Every call is answered in a state that stands.
use Rattle.std.proofs.Common.{◌≡◌, ℕ, zero, suc, ◌<◌, ◌≤◌, Bool, true, false, ◌&&◌, eqb, ltb, ◌⊎◌, length, Some, None, Ok, Err, Option, Result, sym, refl, ap, ◌∙◌, inl, inr, ⊎_elim, arith}
use Rattle.std.proofs.lemmas.List.{get_or_past}
use Rattle.std.proofs.lemmas.Bool.{cases_Bool, cases_lt, cases_eq, cases_order, both_ways, eq-eqb, eqb-true, lt-ltb, ltb-true, and_parts, and_from}
use Rattle.page.specs.Same.{same_bytes}
use Rattle.page.proofs.Same.{same_from_equal, equal_from_same}
use Rattle.rules.specs.declared.refusal.Refusal.{Refusal}
use Rattle.rules.specs.declared.refusal.Refusal.TheVariants.{WornOut, NoSuchPage, Length, Empty, NothingToCollect, ShortBuffer}
use Rattle.rules.specs.declared.kind.Kind.TheVariants.{Stored, Shared, Unchanged}
use Rattle.rules.specs.declared.answer.Written.{Written}
use Rattle.rules.specs.declared.answer.Reply.{Reply}
use Rattle.rules.specs.declared.answer.Reply.TheVariants.{Wrote, Page, Number, Used}
use Rattle.rules.specs.State.{Bytes, Entry, State, tally, block_count, per_block, flash_pages, host_pages, content, in_use, is_clean, hotness, clean_blocks, live_in, live_pages, held}
use Rattle.rules.specs.Tables.{next_page, merged}
use Rattle.rules.specs.Store.{entry_at, Offers}
use Rattle.rules.specs.Calls.{Ready, Stores, Holds, NoneOffered, Writes, Reads, Trims, Collects, Copies, Merges, Scans, Asks}
use Rattle.rules.specs.Image.{image_length}
use Rattle.rules.specs.Stands.{Stands}
use Rattle.rules.specs.Answers.{Answer, answer_of}
use Rattle.rules.specs.Runs.{Saves}
use Rattle.rules.specs.Runs.Call.{write, read, trim, collect, scan, usage, save}
use Rattle.rules.specs.Theorems.{EveryCallAnswered}
use Rattle.rules.proofs.Buffers.{some_read, some_save}
use Rattle.rules.proofs.Tally.{tally_find, tally_pos}
use Rattle.rules.proofs.Moving.{Mid, mid}
use Rattle.rules.proofs.Scanning.{merged_mid, merged_pages}
use Rattle.rules.proofs.Readying.{ready_after}
use Rattle.rules.proofs.Supplies.{free_entry}
use Rattle.rules.proofs.Choosing.{least_of, part_written_or, takes_some, collected_some, victim_or, collectable_or, entered_some}

-- Whether two contents are the same.
abbrev same_content : Option Bytes → Option Bytes → Bool
same_content None None = true
same_content None (Some y) = false
same_content (Some x) None = false
same_content (Some x) (Some y) = same_bytes x y

content_same : (o p : Option Bytes) → same_content o p ≡ true → o ≡ p
content_same None None t = refl
content_same None (Some y) t = cc
content_same (Some x) None t = cc
content_same (Some x) (Some y) t = ap Some (equal_from_same x y t)

content_self : (o : Option Bytes) → same_content o o ≡ true
content_self None = refl
content_self (Some x) = same_from_equal x x refl

same_content_if_equal : (o p : Option Bytes) → o ≡ p → same_content o p ≡ true
same_content_if_equal o p e = ap (same_content o) (sym e) ∙ content_self o

-- Whether the store offers a page for x.
offers_or : (print : Bytes → ℕ) (s : State) (x : Bytes) → Stands print s → ((q : ℕ) × Offers print s x q) ⊎ NoneOffered print s x
offers_or print s x h =
    ⊎_elim
    (λ none. inr (λ q o. both_ways (offer (entry_at s.store o.0)) (none o.0 (place o))
    (ap offer o.1 ∙ and_from (eqb (print x) (print x)) (same_content (content s.part q) (Some x)) (eq-eqb (print x) (print x) refl)
    (same_content_if_equal (content s.part q) (Some x) o.2))))
    (λ k. let r = found (entry_at s.store k.0) k.2 in inl (r.0, (k.0, r.1, r.2)))
    (least_of (λ k. offer (entry_at s.store k)) (λ k. k) 256)
  where
    offer : Option Entry → Bool
    offer None = false
    offer (Some e) = eqb e.print (print x) && same_content (content s.part e.page) (Some x)

    found : (o : Option Entry) → offer o ≡ true
        → (q : ℕ) × (o ≡ Some (record { print = print x; page = q })) × (content s.part q ≡ Some x)
    found None t = cc
    found (Some e) t =
        let r = and_parts (eqb e.print (print x)) (same_content (content s.part e.page) (Some x)) t in (
          e.page,
          ap (λ i. Some (record { print = i; page = e.page })) (eqb-true e.print (print x) r.0),
          content_same (content s.part e.page) (Some x) r.1,
        )

    place : {q : ℕ} → (o : Offers print s x q) → o.0 < 256
    place {q} o =
        ⊎_elim (λ l. l)
        (λ past. cc (get_or_past s.store o.0 None (omega (arith, past, h.stores.places)), o.1))
        (cases_lt o.0 256)

-- In a ready state a page can be stored.
stores_some : (print : Bytes → ℕ) (u : State) (n : ℕ) (x : Bytes) → Ready u → (t : State) × Stores print u n x t
stores_some print u n x ready =
    let b = takes_some u (⊎_elim (λ p. inl p) (λ two. inr (tally_find (is_clean u) (block_count u) (omega arith))) ready) in
    let en = entered_some (hotness u) u.store (record { print = print x; page = next_page u b.0 }) 1 in
    (_, (b.0, en.0, b.1, en.1, refl))

ready_or : (s : State) → Ready s ⊎ (Ready s → ⊥)
ready_or s =
    ⊎_elim (λ p. inl (inl p))
    (λ none. ⊎_elim (λ few. inr (λ r. ⊎_elim none (λ two. omega arith) r)) (λ two. inl (inr two)) (cases_lt (clean_blocks s) 2))
    (part_written_or s)

-- A page that is not there yet is stored, or refused with 3.
write_new : (print : Bytes → ℕ) (s : State) (n : ℕ) (x : Bytes) → Stands print s → n < host_pages s → length x ≡ 256
    → (Holds s n x → ⊥) → NoneOffered print s x → (r : Result Written Refusal) × (t : State) × Writes print s n x r t
write_new print s n x h inside whole other none =
    ⊎_elim
    (λ ready. let st = stores_some print s n x ready in
    (Ok (record { kind = Stored; moved = 0 }), st.0, (inside, whole, (other, none, (s, inl (ready, refl, refl), st.1)))))
    (λ unready. ⊎_elim
    (λ v. let u = collected_some print s v.0 h v.1 in
    let st = stores_some print u.0 n x (ready_after print s v.0 u.0 h unready v.1 u.1) in (
      Ok (record { kind = Stored; moved = live_in s v.0 }),
      st.0,
      (inside, whole, (other, none, (u.0, inr (unready, (v.0, v.1, refl, u.1)), st.1))),
    ))
    (λ worn. (Err WornOut, s, (refl, inr (inr (refl, inside, whole, other, none, unready, worn)))))
    (victim_or s))
    (ready_or s)

write_some : (print : Bytes → ℕ) (s : State) (n : ℕ) (x : Bytes) → Stands print s → (r : Result Written Refusal) × (t : State) × Writes print s n x r t
write_some print s n x h =
    ⊎_elim
    (λ inside. ⊎_elim
    (λ whole. ⊎_elim
    (λ same. (Ok (record { kind = Unchanged; moved = 0 }), s, (inside, whole, (content_same (held s n) (Some x) same, refl, refl))))
    (λ differs. let other : Holds s n x → ⊥ = λ e. both_ways _ differs (same_content_if_equal (held s n) (Some x) e) in
    ⊎_elim
    (λ o. let st = h.stores.each o.1.0 _ o.1.1 in
    let e = free_entry print s o.0 (mid print s h) st.inside st.live in
    (Ok (record { kind = Shared; moved = 0 }), _, (inside, whole, (other, refl, (o.0, e.0, o.1, e.1, refl)))))
    (λ none. write_new print s n x h inside whole other none)
    (offers_or print s x h))
    (cases_Bool (same_content (held s n) (Some x))))
    (λ short. (Err Length, s, (refl, inr (inl (refl, inside, short)))))
    (cases_eq (length x) 256))
    (λ out. (Err NoSuchPage, s, (refl, inl (refl, out))))
    (cases_lt n (host_pages s))

read_some : (s : State) (n len : ℕ) → (r : Result Bytes Refusal) × (t : State) × Reads s n len r t
read_some s n len =
    ⊎_elim
    (λ inside. ⊎_elim (λ whole. by inside whole (held s n) refl)
    (λ short. (Err Length, s, (refl, inr (inl (refl, inside, short))))) (cases_eq len 256))
    (λ out. (Err NoSuchPage, s, (refl, inl (refl, out))))
    (cases_lt n (host_pages s))
  where
    by : n < host_pages s → len ≡ 256 → (o : Option Bytes) → held s n ≡ o → (r : Result Bytes Refusal) × (t : State) × Reads s n len r t
    by inside whole None is = (Err Empty, s, (refl, inr (inr (refl, inside, whole, is))))
    by inside whole (Some x) is = (Ok x, s, (refl, inside, whole, is))

trim_some : (s : State) (n : ℕ) → (r : Result ℕ Refusal) × (t : State) × Trims s n r t
trim_some s n =
    ⊎_elim (λ inside. (Ok _, _, (inside, refl, refl))) (λ out. (Err NoSuchPage, s, (refl, (refl, out)))) (cases_lt n (host_pages s))

collect_some : (print : Bytes → ℕ) (s : State) → Stands print s → (r : Result ℕ Refusal) × (t : State) × Collects s r t
collect_some print s h =
    ⊎_elim
    (λ v. let t = collected_some print s v.0 h v.1 in (Ok (live_in s v.0), t.0, (v.0, v.1, refl, t.1)))
    (λ worn. ⊎_elim (λ b. (Err WornOut, s, (refl, inr (refl, b, worn)))) (λ none. (Err NothingToCollect, s, (refl, inl (refl, none))))
    (collectable_or s))
    (victim_or s)

-- Two pages in use with equal content, the first the lowest with it, or none.
copies_or : (s : State) → ((i : ℕ) × (j : ℕ) × (i < j) × Copies s i j × ((k : ℕ) → Copies s k i → i ≤ k)) ⊎ ((i j : ℕ) → Copies s i j → i ≡ j)
copies_or s =
    ⊎_elim
    (λ none. inr (λ i j c. ⊎_elim (λ e. e)
    (⊎_elim (λ l. absurd (both_ways (first i) (none i c.0) (is_first i j l c)))
    (λ l. absurd (both_ways (first j) (none j c.1) (is_first j i l (c.1, c.0, c.3, c.2, sym c.4)))))
    (cases_order i j)))
    (λ i. let j = tally_find (copy i.0) (flash_pages s) (ltb-true 0 (tally (copy i.0) (flash_pages s)) i.2) in
    let c = copy_is i.0 j.0 i.1 j.1 j.2 in
    inl (i.0, j.0, c.0, c.1, λ k d. ⊎_elim (λ lower. i.3 k d.0 (is_first k i.0 lower d)) (λ high. high) (cases_lt k i.0)))
    (least_of first (λ i. i) (flash_pages s))
  where
    copy : ℕ → ℕ → Bool
    copy i j = ltb i j && ((in_use s i && in_use s j) && same_content (content s.part i) (content s.part j))

    first : ℕ → Bool
    first i = ltb 0 (tally (λ j. ltb i j && ((in_use s i && in_use s j) && same_content (content s.part i) (content s.part j))) (flash_pages s))

    copy_is : (i j : ℕ) → i < flash_pages s → j < flash_pages s
        → (ltb i j && ((in_use s i && in_use s j) && same_content (content s.part i) (content s.part j))) ≡ true → (i < j) × Copies s i j
    copy_is i j in_i in_j t =
        let a = and_parts (ltb i j) ((in_use s i && in_use s j) && same_content (content s.part i) (content s.part j)) t in
        let b = and_parts (in_use s i && in_use s j) (same_content (content s.part i) (content s.part j)) a.1 in
        let c = and_parts (in_use s i) (in_use s j) b.0 in
        (ltb-true i j a.0, (in_i, in_j, c.0, c.1, content_same (content s.part i) (content s.part j) b.1))

    is_first : (i j : ℕ) → i < j → Copies s i j
        → ltb 0 (tally (λ j. ltb i j && ((in_use s i && in_use s j) && same_content (content s.part i) (content s.part j))) (flash_pages s)) ≡ true
    is_first i j l c =
        lt-ltb 0 _ (tally_pos (copy i) (flash_pages s) j c.1
        (and_from (ltb i j) _ (lt-ltb i j l)
        (and_from (in_use s i && in_use s j) _ (and_from (in_use s i) (in_use s j) c.2 c.3)
        (same_content_if_equal (content s.part i) (content s.part j) c.4))))

-- Merging ends, since every merge leaves one page less in use.
merges_some : (print : Bytes → ℕ) (fuel : ℕ) (s : State) → Mid print s → live_pages s ≤ fuel → (died : ℕ) × (t : State) × Merges died s t
merges_some print zero s h few =
    ⊎_elim (λ c. absurd (let p = tally_pos (in_use s) (flash_pages s) c.0 c.3.0 c.3.2 in omega arith))
    (λ none. (0, s, (refl, none))) (copies_or s)
merges_some print (suc fuel) s h few =
    ⊎_elim
    (λ c. let e = free_entry print s c.0 h c.3.0 c.3.2 in
    let m = merged_mid print s c.0 c.1 e.0 h c.2 c.3 e.1 in
    let r = merges_some print fuel (merged s c.0 c.1 e.0) m (omega (arith, merged_pages print s c.0 c.1 e.0 h c.2 c.3 e.1)) in
    (suc r.0, r.1, (c.0, c.1, e.0, c.2, c.3, c.4, e.1, r.2)))
    (λ none. (0, s, (refl, none))) (copies_or s)

save_some : (s : State) (len : ℕ) → (r : Result ℕ Refusal) × (t : State) × Saves s len r t
save_some s len =
    ⊎_elim (λ short. (Err ShortBuffer, s, (refl, refl, short))) (λ fits. (Ok _, s, (refl, refl, fits)))
    (cases_lt len (image_length (block_count s) (per_block s) (host_pages s)))

-- A result of a rule is an answer.
answered : {X : Type 0} (reply : X → Reply) (rule : Result X Refusal → State → Type 0) → (r : Result X Refusal) × (t : State) × rule r t
    → (a : Answer) × (t : State) × ((r : Result X Refusal) × (a ≡ answer_of reply r) × rule r t)
answered reply rule (r, t, p) = (answer_of reply r, t, (r, refl, p))

pub every_call_answered : EveryCallAnswered
every_call_answered print s (write n x) h = answered Wrote (Writes print s n x) (write_some print s n x h)
every_call_answered print s (read n len) h =
    let (r, t, rule) = read_some s n len in (answer_of Page r, t, (r, refl, some_read s n len r t rule))
every_call_answered print s (trim n) h = answered Number (Trims s n) (trim_some s n)
every_call_answered print s collect h = answered Number (Collects s) (collect_some print s h)
every_call_answered print s scan h =
    let r = merges_some print (live_pages s) s (mid print s h) (omega arith) in answered Number (Scans s) (Ok r.0, r.1, r.2)
every_call_answered print s usage h = answered Used (Asks s) (Ok _, s, (refl, refl, refl, refl))
every_call_answered print s (save len) h =
    let (r, t, rule) = save_some s len in (answer_of Number r, t, (r, refl, some_save s len r t rule))
