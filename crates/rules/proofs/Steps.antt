-- Every rule keeps what stands, answers as a plain page map, and wears the flash by what it answers.
use Rattle.std.proofs.Common.{◌≡◌, ℕ, ◌+◌, ◌<◌, ◌≤◌, Bool, true, cond, eqb, ltb, ◌⊎◌, length, set, is_some, Some, None, Ok, Err, Result, sym, refl, ap, ◌∙◌, subst, inl, inr, arith}
use Rattle.std.proofs.lemmas.Bool.{lt-ltb, le-ltb, cond-true, cond-false}
use Rattle.std.proofs.lemmas.Bool.Decides.{nat_tests}
use Rattle.flash.specs.Part.{Part, written, appended, wear}
use Rattle.rules.specs.declared.refusal.Refusal.{Refusal}
use Rattle.rules.specs.declared.kind.Kind.{Kind}
use Rattle.rules.specs.declared.kind.Kind.TheVariants.{Stored, Shared, Unchanged}
use Rattle.rules.specs.declared.answer.Written.{Written}
use Rattle.rules.specs.declared.answer.Usage.{Usage}
use Rattle.rules.specs.declared.answer.Reply.TheVariants.{Wrote, Page, Number, Used}
use Rattle.rules.specs.State.{Bytes, State, no_page, host_pages, names, leads, content, in_use, is_written, live_pages, held, page_map}
use Rattle.rules.specs.Tables.{next_page, lifted, repoint}
use Rattle.rules.specs.Calls.{Ready, Readied, Stores, WritesAs, Writes, Reads, Trims, Collects, Scans, Asks, NoneOffered, NoHostPage, WrongLength, EmptyPage, NoRoom}
use Rattle.rules.specs.Stands.{Stands}
use Rattle.rules.specs.Answers.{Answer, answer_of}
use Rattle.rules.specs.Runs.{Call, Saves, Step}
use Rattle.rules.specs.Runs.Call.{write, read, trim, collect, scan, usage, save}
use Rattle.rules.specs.Promise.{seen, stored_by, moved_by, settled_by, contents, different}
use Rattle.rules.specs.Promise.Seen.{refused}
use Rattle.rules.specs.PlainMap.{shown, plain_answer, Plain}
use Rattle.rules.proofs.Namers.{Fit, leads_cases}
use Rattle.rules.proofs.Moving.{Mid, mid, stands, sizes}
use Rattle.rules.proofs.Collecting.{collected_keeps}
use Rattle.rules.proofs.Storing.{content_none, stored_stands, stored_hosts, stored_held, stored_other, stored_wear}
use Rattle.rules.proofs.Sharing.{lifted_mid, lifted_entry, lifted_reach, lifted_hosts, pointed_mid, pointed_part, pointed_hosts, pointed_held, pointed_other}
use Rattle.rules.proofs.Scanning.{merges_scanned}
use Rattle.rules.proofs.Counting.{pages_exact}
use Rattle.rules.proofs.Buffers.{read_rule, save_rule}
use Rattle.rules.proofs.Readying.{ready_after}
use Rattle.rules.proofs.PageMaps.{map_length, map_at, map_same, map-set, map_past}

-- Flash pages in use are as many as the different contents.
abbrev pub Exact : State → Type 0
Exact s = live_pages s ≡ different (contents (page_map s))

-- What every call keeps and does.
pub record Outcome (print : Bytes → ℕ) (s : State) (c : Call) (a : Answer) (t : State) : Type 0 where
  pub standing : Stands print t
  pub plain : Plain (page_map s) c a (page_map t)
  pub worn : wear t.part ≡ wear s.part + (stored_by c a + moved_by c a)
  pub exact : (so : Bool) → (so ≡ true → Exact s) → settled_by so c a ≡ true → Exact t

-- The tests of the plain page map on a host page that is there and one that is not.
module _ (s : State) (n : ℕ) where
  pub there : {X : Type 0} (x y : X) → n < host_pages s → cond (ltb n (length (page_map s))) x y ≡ x
  there x y l = cond-true (ltb n (length (page_map s))) x y (lt-ltb n (length (page_map s)) (omega (arith, l, map_length s)))

  pub missing : {X : Type 0} (x y : X) → host_pages s ≤ n → cond (ltb n (length (page_map s))) x y ≡ y
  missing x y h = cond-false (ltb n (length (page_map s))) x y (le-ltb n (length (page_map s)) (omega (arith, h, map_length s)))

-- A call that changes nothing.
idle : (print : Bytes → ℕ) (s : State) (c : Call) (a : Answer) (t : State) → Stands print s → t ≡ s
    → Plain (page_map s) c a (page_map s) → stored_by c a + moved_by c a ≡ 0 → ((so : Bool) → settled_by so c a ≡ true → so ≡ true)
    → Outcome print s c a t
idle print s c a t h is plain none still =
    rw is (record { standing = h; plain = plain; worn = omega (arith, none); exact = λ so was now. was (still so now) })

write_refused : (print : Bytes → ℕ) (s : State) (n : ℕ) (x : Bytes) (e : Refusal) (t : State) → Stands print s
    → Writes print s n x (Err e) t → Outcome print s (write n x) (Err e) t
write_refused print s n x e t h (is, why) =
    idle print s (write n x) (Err e) t h is (plain why) refl (λ so now. now)
  where
    plain : NoHostPage s n e ⊎ (WrongLength s n (length x) e ⊎ NoRoom print s n x e) → Plain (page_map s) (write n x) (Err e) (page_map s)
    plain (inl (four, out)) =
        inr (λ host. grind (arith, nat_tests, four, out, map_length s), grind (arith, nat_tests, map_past s n (Some x) out))
    plain (inr (inl (five, inside, short))) =
        inr (λ host. grind (arith, nat_tests, five, inside, short, map_length s), grind (arith, nat_tests, short))
    plain (inr (inr why3)) = inl (refl, ap refused why3.0, refl)

-- An accepted write sets its page.
wrote : (s t : State) (n : ℕ) (x : Bytes) (w : Written) → n < host_pages s → length x ≡ 256 → page_map t ≡ set (page_map s) n (Some x)
    → Plain (page_map s) (write n x) (Ok (Wrote w)) (page_map t)
wrote s t n x w inside whole is =
    inr (λ host. grind (arith, nat_tests, inside, whole, map_length s), grind (arith, nat_tests, whole, is))

write_unchanged : (print : Bytes → ℕ) (s : State) (n : ℕ) (x : Bytes) (moved : ℕ) (t : State) → Stands print s → n < host_pages s → length x ≡ 256
    → WritesAs print s n x Unchanged moved t → Outcome print s (write n x) (Ok (Wrote (record { kind = Unchanged; moved = moved }))) t
write_unchanged print s n x moved t h inside whole (holds, none, is) =
    rw is (record {
      standing = h;
      plain = wrote s s n x (record { kind = Unchanged; moved = moved }) inside whole (map-set s s n (Some x) inside refl holds (λ m l ne. refl));
      worn = omega (arith, none);
      exact = λ so was now. cc;
    })

-- The clean block is still there in a state with the same part.
same_spare : (print : Bytes → ℕ) (s t : State) → Stands print s → t.part ≡ s.part → Mid print t → Stands print t
same_spare print s t h is m =
    stands print t m
    (subst (λ (y : Part). (b : ℕ) × (b < length y.blocks) × (eqb (written y b) 0 ≡ true)) (sym is) h.blocks.spare)

write_shared : (print : Bytes → ℕ) (s : State) (n : ℕ) (x : Bytes) (moved : ℕ) (t : State) → Stands print s → n < host_pages s → length x ≡ 256
    → WritesAs print s n x Shared moved t → Outcome print s (write n x) (Ok (Wrote (record { kind = Shared; moved = moved }))) t
write_shared print s n x moved t h inside whole (other, none, (q, e, offers, entry, is)) =
    rw is (record {
      standing = same_spare print s (repoint v n k) h part_same (pointed_mid print v n k v_mid in_v fit);
      plain = wrote s (repoint v n k) n x (record { kind = Shared; moved = moved }) inside whole
          (map-set s (repoint v n k) n (Some x) inside (pointed_hosts print v n k v_mid in_v fit ∙ v_hosts)
          (pointed_held print v n k v_mid in_v fit ∙ ap (content s.part) leads_q ∙ offers.2)
          (λ m l ne. pointed_other print v n k v_mid in_v fit m (subst (λ c. m < c) (sym v_hosts) l) ne
          ∙ ap (content s.part) (lifted_reach print s q e m₀ live small entry m l)));
      worn = ap wear part_same ∙ omega (arith, none);
      exact = λ so was now. cc;
    })
  where
    m₀ : Mid print s
    m₀ = mid print s h

    live : in_use s q ≡ true
    live = (h.stores.each offers.0 _ offers.1).live

    small : q < no_page
    small = omega (arith, (h.stores.each offers.0 _ offers.1).inside, (sizes print s m₀).all)

    v : State
    v = lifted s q e

    k : ℕ
    k = 4096 + e

    v_mid : Mid print v
    v_mid = lifted_mid print s q e m₀ live small entry

    v_hosts : host_pages v ≡ host_pages s
    v_hosts = lifted_hosts print s q e m₀ live small entry

    in_v : n < host_pages v
    in_v = subst (λ c. n < c) (sym v_hosts) inside

    v_entry : names v k ≡ q
    v_entry = lifted_entry print s q e m₀ live small entry

    fit : Fit (names v) (is_written v.part) k
    fit = inr (inr (omega arith, omega (arith, v_entry, small)))

    leads_q : leads (names v) k ≡ q
    leads_q = grind (arith, leads_cases (names v) k, v_entry)

    part_same : (repoint v n k).part ≡ s.part
    part_same = pointed_part print v n k v_mid in_v fit

-- Storing in a state u that is ready and holds what s holds.
store_ready : (print : Bytes → ℕ) (s : State) (n : ℕ) (x : Bytes) (moved : ℕ) (u t : State) → n < host_pages s → length x ≡ 256
    → Stands print u → Ready u → host_pages u ≡ host_pages s → ((m : ℕ) → m < host_pages s → held u m ≡ held s m)
    → NoneOffered print u x → wear u.part ≡ wear s.part + moved → Stores print u n x t
    → Outcome print s (write n x) (Ok (Wrote (record { kind = Stored; moved = moved }))) t
store_ready print s n x moved u t inside whole h ready hosts same none worn (b, after, takes, entered, is) =
    let in_u : n < host_pages u = subst (λ c. n < c) (sym hosts) inside in
    let end = repoint (record { part = appended u.part b x; words = u.words; shared = u.shared; store = after }) n (next_page u b) in
    rw is (record {
      standing = stored_stands print u n x b after h in_u whole ready none takes entered;
      plain = wrote s end n x (record { kind = Stored; moved = moved }) inside whole
          (map-set s end n (Some x) inside (stored_hosts print u n x b after h in_u whole ready none takes entered ∙ hosts)
          (stored_held print u n x b after h in_u whole ready none takes entered)
          (λ m l ne. stored_other print u n x b after h in_u whole ready none takes entered m (subst (λ c. m < c) (sym hosts) l) ne ∙ same m l));
      worn = omega (arith, stored_wear print u n x b after h in_u whole ready none takes entered, worn);
      exact = λ so was now. cc;
    })

write_stored : (print : Bytes → ℕ) (s : State) (n : ℕ) (x : Bytes) (moved : ℕ) (t : State) → Stands print s → n < host_pages s → length x ≡ 256
    → WritesAs print s n x Stored moved t → Outcome print s (write n x) (Ok (Wrote (record { kind = Stored; moved = moved }))) t
write_stored print s n x moved t h inside whole (other, none, (u, readied, stores)) = by readied
  where
    by : Readied s moved u → Outcome print s (write n x) (Ok (Wrote (record { kind = Stored; moved = moved }))) t
    by (inl (ready, zero_moved, is)) =
        store_ready print s n x moved s t inside whole h ready refl (λ m l. refl) none (omega (arith, zero_moved))
        (subst (λ y. Stores print y n x t) is stores)
    by (inr (unready, (v, victim, count, collected))) =
        let k = collected_keeps print s v u (mid print s h) victim collected in
        store_ready print s n x moved u t inside whole k.0.standing (ready_after print s v u h unready victim collected)
        k.0.same_hosts k.0.same_held (λ q o. let r = k.0.offered x q o in none r.0 r.1)
        (k.1 ∙ ap (λ c. wear s.part + c) (sym count)) stores

write_accepted : (print : Bytes → ℕ) (s : State) (n : ℕ) (x : Bytes) (kind : Kind) (moved : ℕ) (t : State) → Stands print s → n < host_pages s
    → length x ≡ 256 → WritesAs print s n x kind moved t → Outcome print s (write n x) (Ok (Wrote (record { kind = kind; moved = moved }))) t
write_accepted print s n x Stored moved t h inside whole r = write_stored print s n x moved t h inside whole r
write_accepted print s n x Shared moved t h inside whole r = write_shared print s n x moved t h inside whole r
write_accepted print s n x Unchanged moved t h inside whole r = write_unchanged print s n x moved t h inside whole r

write_outcome : (print : Bytes → ℕ) (s : State) (n : ℕ) (x : Bytes) (r : Result Written Refusal) (t : State) → Stands print s
    → Writes print s n x r t → Outcome print s (write n x) (answer_of Wrote r) t
write_outcome print s n x (Ok w) t h (inside, whole, rule) = write_accepted print s n x w.kind w.moved t h inside whole rule
write_outcome print s n x (Err e) t h why = write_refused print s n x e t h why

read_outcome : (print : Bytes → ℕ) (s : State) (n len : ℕ) (r : Result Bytes Refusal) (t : State) → Stands print s
    → Reads s n len r t → Outcome print s (read n len) (answer_of Page r) t
read_outcome print s n len (Ok x) t h (is, inside, whole, has) =
    idle print s (read n len) (Ok (Page x)) t h is
    (inr (λ host. grind (arith, nat_tests, inside, whole, map_length s, ap shown (map_at s n inside ∙ has)), refl))
    refl (λ so now. now)
read_outcome print s n len (Err e) t h (is, why) = idle print s (read n len) (Err e) t h is (inr (λ host. said why, refl)) refl (λ so now. now)
  where
    said : NoHostPage s n e ⊎ (WrongLength s n len e ⊎ EmptyPage s n len e) → seen (Err e) ≡ plain_answer (page_map s) (read n len)
    said (inl (four, out)) = grind (arith, nat_tests, four, out, map_length s)
    said (inr (inl (five, inside, short))) = grind (arith, nat_tests, five, inside, short, map_length s)
    said (inr (inr (six, inside, whole, empty))) =
        grind (arith, nat_tests, six, inside, whole, map_length s, ap shown (map_at s n inside ∙ empty))

trim_outcome : (print : Bytes → ℕ) (s : State) (n : ℕ) (r : Result ℕ Refusal) (t : State) → Stands print s
    → Trims s n r t → Outcome print s (trim n) (answer_of Number r) t
trim_outcome print s n (Err e) t h (is, (four, out)) =
    idle print s (trim n) (Err e) t h is
    (inr (λ host. grind (arith, nat_tests, four, out, map_length s), sym (map_past s n None out))) refl (λ so now. now)
trim_outcome print s n (Ok had) t h (inside, count, is) =
    rw is (record {
      standing = same_spare print s (repoint s n no_page) h part_same (pointed_mid print s n no_page m₀ inside fit);
      plain = inr (
        λ host. grind (arith, nat_tests, inside, map_length s, count ∙ ap (λ o. cond (is_some o) 1 0) (sym (map_at s n inside))),
        map-set s (repoint s n no_page) n None inside (pointed_hosts print s n no_page m₀ inside fit)
            (pointed_held print s n no_page m₀ inside fit ∙ ap (content s.part) none_led ∙ content_none print s m₀)
            (λ m l ne. pointed_other print s n no_page m₀ inside fit m l ne),
      );
      worn = ap wear part_same ∙ omega arith;
      exact = λ so was now. cc;
    })
  where
    m₀ : Mid print s
    m₀ = mid print s h

    fit : Fit (names s) (is_written s.part) no_page
    fit = inl refl

    part_same : (repoint s n no_page).part ≡ s.part
    part_same = pointed_part print s n no_page m₀ inside fit

    none_led : leads (names s) no_page ≡ no_page
    none_led = grind (arith, leads_cases (names s) no_page)

collect_outcome : (print : Bytes → ℕ) (s : State) (r : Result ℕ Refusal) (t : State) → Stands print s
    → Collects s r t → Outcome print s collect (answer_of Number r) t
collect_outcome print s (Err e) t h (is, why) =
    idle print s collect (Err e) t h is (inr (λ host. cc, refl)) refl (λ so now. now)
collect_outcome print s (Ok moved) t h (v, victim, count, collected) =
    let k = collected_keeps print s v t (mid print s h) victim collected in
    let same = map_same s t k.0.same_hosts k.0.same_held in
    record {
      standing = k.0.standing;
      plain = inr (λ host. cc, same);
      worn = omega (arith, k.1, count);
      exact = λ so was now. k.0.same_pages ∙ was now ∙ ap (λ m. different (contents m)) (sym same);
    }

scan_outcome : (print : Bytes → ℕ) (s : State) (r : Result ℕ Refusal) (t : State) → Stands print s
    → Scans s r t → Outcome print s scan (answer_of Number r) t
scan_outcome print s (Err e) t h never = absurd never
scan_outcome print s (Ok died) t h merges =
    let k = merges_scanned print died s t (mid print s h) merges in
    record {
      standing = same_spare print s t h k.same_part k.mids;
      plain = inr (λ host. cc, map_same s t k.same_hosts k.same_held);
      worn = ap wear k.same_part ∙ omega arith;
      exact = λ so was now. pages_exact print t k.mids k.no_copies;
    }

usage_outcome : (print : Bytes → ℕ) (s : State) (r : Result Usage Refusal) (t : State) → Stands print s
    → Asks s r t → Outcome print s usage (answer_of Used r) t
usage_outcome print s (Err e) t h never = absurd never
usage_outcome print s (Ok u) t h (is, live, dead, unwritten) =
    idle print s usage (Ok (Used u)) t h is (inr (λ host. cc, refl)) refl (λ so now. now)

save_outcome : (print : Bytes → ℕ) (s : State) (len : ℕ) (r : Result ℕ Refusal) (t : State) → Stands print s
    → Saves s len r t → Outcome print s (save len) (answer_of Number r) t
save_outcome print s len (Ok size) t h (is, size_is, fits) =
    idle print s (save len) (Ok (Number size)) t h is (inr (λ host. cc, refl)) refl (λ so now. now)
save_outcome print s len (Err e) t h (is, eight, short) =
    idle print s (save len) (Err e) t h is (inr (λ host. cc, refl)) refl (λ so now. now)

pub step_outcome : (print : Bytes → ℕ) (s : State) (c : Call) (a : Answer) (t : State) → Stands print s → Step print s c a t
    → Outcome print s c a t
step_outcome print s (write n x) a t h (r, is, rule) = rw is (write_outcome print s n x r t h rule)
step_outcome print s (read n len) a t h (r, is, rule) = rw is (read_outcome print s n len r t h (read_rule s n len r t rule))
step_outcome print s (trim n) a t h (r, is, rule) = rw is (trim_outcome print s n r t h rule)
step_outcome print s collect a t h (r, is, rule) = rw is (collect_outcome print s r t h rule)
step_outcome print s scan a t h (r, is, rule) = rw is (scan_outcome print s r t h rule)
step_outcome print s usage a t h (r, is, rule) = rw is (usage_outcome print s r t h rule)
step_outcome print s (save len) a t h (r, is, rule) = rw is (save_outcome print s len r t h (save_rule s len r t rule))
