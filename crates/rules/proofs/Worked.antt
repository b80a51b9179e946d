-- The worked examples: the table of sizes, the example's life, and its second write.
use Rattle.std.proofs.Common.{◌≡◌, ℕ, zero, suc, ◌+◌, ◌-◌, ◌%◌, ◌<◌, ◌≤◌, true, false, ◌⊎◌, List, [], ◌∷◌, length, get_or, set, replicate, Some, None, Ok, Err, Option, sym, refl, ap, ◌∙◌, subst, inl, inr, ⊎_elim, arith, lit<, lit≤}
use Rattle.std.proofs.lemmas.Bool.{both_ways}
use Rattle.std.proofs.lemmas.Option.{none-some, same_Some}
use Rattle.flash.specs.Part.{Block, Part, SoundBlock, no_block, erases}
use Rattle.fingerprint.specs.Fletcher.{fletcher_of}
use Rattle.fingerprint.specs.Examples.{zeros, starts_with_one, starts_with_two_full}
use Rattle.rules.specs.declared.refusal.Refusal.TheVariants.{NothingToCollect}
use Rattle.rules.specs.declared.kind.Kind.{Kind}
use Rattle.rules.specs.declared.kind.Kind.TheVariants.{Stored, Shared, Unchanged}
use Rattle.rules.specs.declared.answer.Reply.TheVariants.{Wrote, Page, Number, Used}
use Rattle.rules.specs.State.{Bytes, Entry, State, host_pages, hotness, content, names, held, is_clean, is_closed, is_part_written, live_in}
use Rattle.rules.specs.Tables.{next_page, programmed, repoint, moved_to}
use Rattle.rules.specs.Store.{entry_at, Entered}
use Rattle.rules.specs.Store.Entered.{takes}
use Rattle.rules.specs.Calls.{HasPartWritten, Takes, dead_in, Victim, Ready, Stores, Holds, NoneOffered, WritesAs}
use Rattle.rules.specs.Making.{Made}
use Rattle.rules.specs.Answers.{Answer}
use Rattle.rules.specs.Runs.{Step, Run}
use Rattle.rules.specs.Runs.Call.{write, read, collect, usage}
use Rattle.rules.specs.Examples.{fresh_part, example_start, WorkedSizes, wrote_as, example_history, ExampleLife, SecondWriteDecided}
use Rattle.rules.proofs.Buffers.{some_read}
use Rattle.rules.proofs.Crossing.{name_entry}
use Rattle.rules.proofs.Entering.{entered_cases, entered_entry}
use Rattle.rules.proofs.Made.{get_d_all, empty_store}

pub worked_sizes : WorkedSizes
worked_sizes = record {
  one_page_too_many = λ host. refl;
  most_host_pages = refl;
  one_host_page_too_many = refl;
  no_room = refl;
  no_room_for_four = refl;
  small_image = refl;
  large_image = refl;
  image_blocks = refl;
}

-- What holds of 0, 1 and 2 holds of every number below 3.
below_three : (P : ℕ → Type 0) → P 0 → P 1 → P 2 → (b : ℕ) → b < 3 → P b
below_three P p q r zero l = p
below_three P p q r (suc zero) l = q
below_three P p q r (suc (suc zero)) l = r
below_three P p q r (suc (suc (suc b))) l = absurd (omega arith)

-- In a state that is ready, a page that is neither held nor offered is stored at once.
at_once : (print : Bytes → ℕ) (s : State) (n : ℕ) (x : Bytes) → n < host_pages s → length x ≡ 256 → Ready s
    → (Holds s n x → ⊥) → NoneOffered print s x → (a : Answer) (t : State) → Step print s (write n x) a t
    → (a ≡ wrote_as Stored) × Stores print s n x t
at_once print s n x inside whole ready other none a t (Ok w, is, (l, e, how)) = as_stored w.kind w.moved is how
  where
    as_stored : (k : Kind) (moved : ℕ) → a ≡ Ok (Wrote (record { kind = k; moved = moved })) → WritesAs print s n x k moved t
        → (a ≡ wrote_as Stored) × Stores print s n x t
    as_stored Stored moved says (out, offered, (u, inl (now, still, same), stores)) =
        (says ∙ ap (λ i. Ok (Wrote (record { kind = Stored; moved = i }))) still, subst (λ (v : State). Stores print v n x t) same stores)
    as_stored Stored moved says (out, offered, (u, inr (unready, collects), stores)) = absurd (unready ready)
    as_stored Shared moved says (out, still, (q, f, offers, free, is')) = absurd (none q offers)
    as_stored Unchanged moved says (holds, still, same) = absurd (other holds)
at_once print s n x inside whole ready other none a t (Err e, is, (same, inl (four, out))) = absurd (omega arith)
at_once print s n x inside whole ready other none a t (Err e, is, (same, inr (inl (five, l, short)))) = absurd (short whole)
at_once print s n x inside whole ready other none a t (Err e, is, (same, inr (inr why))) = absurd (why.5 ready)

-- The step of a page that is stored at once.
stored : (print : Bytes → ℕ) (s : State) (n : ℕ) (x : Bytes) (t : State) → n < host_pages s → length x ≡ 256 → Ready s
    → (Holds s n x → ⊥) → NoneOffered print s x → Stores print s n x t → Step print s (write n x) (wrote_as Stored) t
stored print s n x t inside whole ready other none stores =
    (Ok (record { kind = Stored; moved = 0 }), refl, (inside, whole, (other, none, (s, inl (ready, refl, refl), stores))))

-- The states of the example, for any three pages Z, H and O. First the part: what is written in its first two blocks, and how
-- often the first was erased; the third stays clean ..
abbrev flash_of : List Bytes → List Bytes → ℕ → Part
flash_of first second erases =
    record {
      blocks = record { pages = first; erases = erases } ∷ record { pages = second; erases = 0 } ∷ no_block ∷ [];
      per_block = 2;
      endurance = 100;
    }

-- .. then what the places of the store hold ..
abbrev no_entries : List (Option Entry)
no_entries = replicate 256 None

abbrev entry_of : (Bytes → ℕ) → Bytes → ℕ → Option Entry
entry_of print x q = Some (record { print = print x; page = q })

-- .. and the states after the first write, the second and the third ..
abbrev after_z : (Bytes → ℕ) → Bytes → State
after_z print Z = record {
  part = flash_of (Z ∷ []) [] 0;
  words = 0 ∷ 4095 ∷ 4095 ∷ [];
  shared = replicate 6 4095;
  store = set no_entries 0 (entry_of print Z 0);
}

abbrev store_zh : (Bytes → ℕ) → Bytes → Bytes → List (Option Entry)
store_zh print Z H = set (set no_entries 0 (entry_of print Z 0)) 1 (entry_of print H 1)

abbrev after_h : (Bytes → ℕ) → Bytes → Bytes → State
after_h print Z H = record {
  part = flash_of (Z ∷ H ∷ []) [] 0;
  words = 0 ∷ 1 ∷ 4095 ∷ [];
  shared = replicate 6 4095;
  store = store_zh print Z H;
}

abbrev after_sharing : (Bytes → ℕ) → Bytes → Bytes → State
after_sharing print Z H = record {
  part = flash_of (Z ∷ H ∷ []) [] 0;
  words = 4096 ∷ 1 ∷ 4096 ∷ [];
  shared = 0 ∷ replicate 5 4095;
  store = store_zh print Z H;
}

-- .. after O was stored, and after the collection.
abbrev after_o : (Bytes → ℕ) → Bytes → Bytes → Bytes → State
after_o print Z H O = record {
  part = flash_of (Z ∷ H ∷ []) (O ∷ []) 0;
  words = 4096 ∷ 2 ∷ 4096 ∷ [];
  shared = 0 ∷ replicate 5 4095;
  store = set (set no_entries 0 (entry_of print Z 0)) 16 (entry_of print O 2);
}

abbrev after_collect : (Bytes → ℕ) → Bytes → Bytes → State
after_collect print Z O = record {
  part = flash_of [] (O ∷ Z ∷ []) 1;
  words = 4096 ∷ 2 ∷ 4096 ∷ [];
  shared = 3 ∷ replicate 5 4095;
  store = set (set no_entries 0 (entry_of print Z 3)) 16 (entry_of print O 2);
}

-- An entry of a store with one more: the new one, or one that was there.
entry_among : (store : List (Option Entry)) (p : ℕ) (new : Entry) → p < length store → (k : ℕ) (e : Entry)
    → entry_at (set store p (Some new)) k ≡ Some e → (e ≡ new) ⊎ (entry_at store k ≡ Some e)
entry_among store p new inside k e is =
    ⊎_elim (λ r. inl r.1) (λ r. inr r.1) (entered_entry store (set store p (Some new)) new p inside refl k e is)

-- The one entry of a store that was empty.
entry_alone : (p : ℕ) (new : Entry) → p < 256 → (k : ℕ) (e : Entry) → entry_at (set no_entries p (Some new)) k ≡ Some e → e ≡ new
entry_alone p new inside k e is =
    ⊎_elim (λ same. same) (λ was. absurd (empty_store 256 k e was)) (entry_among no_entries p new inside k e is)

-- A page y is not offered where every entry is that of one flash page, which has other bytes x ..
others_content : (print : Bytes → ℕ) (s : State) (x y : Bytes) (q : ℕ)
    → ((k : ℕ) (e : Entry) → entry_at s.store k ≡ Some e → e.page ≡ q) → content s.part q ≡ Some x → (x ≡ y → ⊥)
    → NoneOffered print s y
others_content print s x y q only has ne r (k, is, r_has) =
    ne (same_Some x y (sym has ∙ ap (content s.part) (sym (only k _ is)) ∙ r_has))

-- .. nor where every entry has one fingerprint f, which is not y's.
others_print : (print : Bytes → ℕ) (s : State) (y : Bytes) (f : ℕ)
    → ((k : ℕ) (e : Entry) → entry_at s.store k ≡ Some e → e.print ≡ f) → (print y ≡ f → ⊥) → NoneOffered print s y
others_print print s y f only ne r (k, is, r_has) = ne (only k _ is)

-- One content is not another.
other_there : (x y : Bytes) → (x ≡ y → ⊥) → Some x ≡ Some y → ⊥
other_there x y ne e = ne (same_Some x y e)

-- The start: the part is well-formed and accepted, there are clean blocks enough to store a page, and the store is empty.
start_made : (print : Bytes → ℕ) → Made print example_start
start_made print =
    inl (
      fresh_part,
      3,
      record {
        each = λ b l. subst (SoundBlock 2 100) (sym (get_d_all 3 b no_block))
            (record { room = lit≤ tt; worn_at_most = lit≤ tt; whole = λ k none. absurd (omega arith) });
        limit = lit≤ tt;
      },
      ((refl, λ b l ne. absurd (ne (ap (λ (x : Block). length x.pages) (get_d_all 3 b no_block)))), refl),
    )

start_ready : Ready example_start
start_ready = inr (lit≤ tt)

start_none_offered : (print : Bytes → ℕ) (x : Bytes) → NoneOffered print example_start x
start_none_offered print x q (k, is, has) = empty_store 256 k _ is

-- Where none of three blocks is part-written, one that is clean and was never erased may take the next page.
takes_fresh : (s : State) (b : ℕ) → length s.part.blocks ≡ 3 → is_part_written s 0 ≡ false → is_part_written s 1 ≡ false
    → is_part_written s 2 ≡ false → b < 3 → is_clean s b ≡ true → erases s.part b ≡ 0 → Takes s b
takes_fresh s b three p q r inside clean never =
    (omega arith, inr (λ h. none h.0 (omega (arith, h.1)) h.2, clean, λ c l t. omega arith))
  where
    none : (c : ℕ) → c < 3 → is_part_written s c ≡ true → ⊥
    none = below_three (λ c. is_part_written s c ≡ true → ⊥) (both_ways _ p) (both_ways _ q) (both_ways _ r)

module _ (print : Bytes → ℕ) (Z H O : Bytes) (z_long : length Z ≡ 256) (h_long : length H ≡ 256) (o_long : length O ≡ 256)
    (z_print : print Z ≡ 0) (h_print : print H ≡ 0) (o_print : print O ≡ 8388609)
    (z_h : Z ≡ H → ⊥) (h_o : H ≡ O → ⊥) where
  -- Z goes to block 0, and its entry to the first place of segment 0 ..
  z_stored : Step print example_start (write 0 Z) (wrote_as Stored) (after_z print Z)
  z_stored =
      stored print example_start 0 Z (after_z print Z) (lit< tt) z_long start_ready (none-some Z) (start_none_offered print Z) (
        0,
        set no_entries 0 (entry_of print Z 0),
        takes_fresh example_start 0 refl refl refl refl (lit< tt) refl refl,
        takes 0 (lit< tt, ap (λ i. i % 16) (sym z_print)) refl refl,
        refl,
      )

  -- .. H beside it, to the second place ..
  h_stored : Step print (after_z print Z) (write 1 H) (wrote_as Stored) (after_h print Z H)
  h_stored =
      stored print (after_z print Z) 1 H (after_h print Z H) (lit< tt) h_long (inl (0, lit< tt, refl)) (none-some H)
      (others_content print (after_z print Z) Z H 0 (λ k e is. ap (λ (d : Entry). d.page) (entry_alone 0 _ (lit< tt) k e is)) refl z_h)
      (0, store_zh print Z H, (lit< tt, inl refl), takes 1 (lit< tt, ap (λ i. i % 16) (sym h_print)) refl refl, refl)

  -- .. Z is shared through entry 0, for no entry names a page ..
  no_entry : (d : ℕ) → names (after_h print Z H) (4096 + d) ≡ 0 → ⊥
  no_entry d is =
      let none : ◌≡◌ {A = ℕ} 4095 0 =
      sym (name_entry (after_h print Z H).words (replicate 6 4095) (4096 + d) (omega arith) ∙ get_d_all 6 (4096 + d - 4096) 4095) ∙ is in
      omega arith

  z_shared : Step print (after_h print Z H) (write 2 Z) (wrote_as Shared) (after_sharing print Z H)
  z_shared = (
    Ok (record { kind = Shared; moved = 0 }),
    refl,
    (
      lit< tt,
      z_long,
      (none-some Z, refl, (0, 0, (0, refl, refl), (lit< tt, inr (no_entry, refl)), refl)),
    ),
  )

  z_unchanged : Step print (after_sharing print Z H) (write 0 Z) (wrote_as Unchanged) (after_sharing print Z H)
  z_unchanged = (Ok (record { kind = Unchanged; moved = 0 }), refl, (lit< tt, z_long, (refl, refl, refl)))

  -- .. and O goes to block 1, clean like block 2, and its entry to the first place of segment 1; H's page dies.
  prints_zero : (k : ℕ) (e : Entry) → entry_at (store_zh print Z H) k ≡ Some e → e.print ≡ 0
  prints_zero k e is =
      ⊎_elim (λ new. ap (λ (d : Entry). d.print) new ∙ h_print)
      (λ was. ap (λ (d : Entry). d.print) (entry_alone 0 _ (lit< tt) k e was) ∙ z_print)
      (entry_among (set no_entries 0 (entry_of print Z 0)) 1 _ (lit< tt) k e is)

  o_stored : Step print (after_sharing print Z H) (write 1 O) (wrote_as Stored) (after_o print Z H O)
  o_stored =
      stored print (after_sharing print Z H) 1 O (after_o print Z H O) (lit< tt) o_long (inr (lit≤ tt)) (other_there H O h_o)
      (others_print print (after_sharing print Z H) O 0 prints_zero (λ e. omega arith)) (
        1,
        set (store_zh print Z H) 16 (entry_of print O 2),
        takes_fresh (after_sharing print Z H) 1 refl refl refl refl (lit< tt) refl refl,
        takes 16 (lit< tt, ap (λ i. i % 16) (sym o_print)) refl refl,
        refl,
      )

  two_live : Step print (after_o print Z H O) usage (Ok (Used (record { live = 2; dead = 1; unwritten = 3 }))) (after_o print Z H O)
  two_live = (Ok (record { live = 2; dead = 1; unwritten = 3 }), refl, (refl, refl, refl, refl))

  -- Block 0 is the one closed block; its page in use, Z, is moved to the part-written block 1.
  first_victim : Victim (after_o print Z H O) 0
  first_victim = (
    ((lit< tt, refl, lit< tt), lit< tt),
    λ b c. below_three (λ i. is_closed (after_o print Z H O) i ≡ true → 1 ≤ live_in (after_o print Z H O) i)
        (λ t. lit≤ tt) (λ t. lit≤ tt) (λ t. cc) b c.0.0 c.0.1,
  )

  z_moved : Step print (after_o print Z H O) collect (Ok (Number 1)) (after_collect print Z O)
  z_moved =
      (Ok 1, refl, (0, first_victim, refl, (moved_to (after_o print Z H O) 0 1, (1, (lit< tt, inl refl), refl), refl)))

  -- Then block 1 is the one closed block, and has no dead page.
  none_dead : Step print (after_collect print Z O) collect (Err NothingToCollect) (after_collect print Z O)
  none_dead = (
    Err NothingToCollect,
    refl,
    (
      refl,
      inl (
        refl,
        λ b c. below_three
            (λ i. is_closed (after_collect print Z O) i ≡ true → 0 < dead_in (after_collect print Z O) i → ⊥)
            (λ t d. cc) (λ t d. omega arith) (λ t d. cc) b c.0 c.1 c.2,
      ),
    ),
  )

  z_read : Step print (after_collect print Z O) (read 2 256) (Ok (Page Z)) (after_collect print Z O)
  z_read = (Ok Z, refl, some_read (after_collect print Z O) 2 256 (Ok Z) (after_collect print Z O) (refl, lit< tt, refl, refl))

  later : Run print (after_o print Z H O)
      ((usage, Ok (Used (record { live = 2; dead = 1; unwritten = 3 })))
      ∷ (collect, Ok (Number 1)) ∷ (collect, Err NothingToCollect) ∷ (read 2 256, Ok (Page Z)) ∷ [])
      (after_collect print Z O)
  later = (_, two_live, (_, z_moved, (_, none_dead, (_, z_read, refl))))

  life : Run print example_start
      ((write 0 Z, wrote_as Stored)
      ∷ (write 1 H, wrote_as Stored)
      ∷ (write 2 Z, wrote_as Shared)
      ∷ (write 0 Z, wrote_as Unchanged)
      ∷ (write 1 O, wrote_as Stored)
      ∷ (usage, Ok (Used (record { live = 2; dead = 1; unwritten = 3 })))
      ∷ (collect, Ok (Number 1)) ∷ (collect, Err NothingToCollect) ∷ (read 2 256, Ok (Page Z)) ∷ [])
      (after_collect print Z O)
  life = (_, z_stored, (_, h_stored, (_, z_shared, (_, z_unchanged, (_, o_stored, later)))))

-- The first bytes of the example's pages differ.
zeros_full : zeros ≡ starts_with_two_full → ⊥
zeros_full e = let first : ◌≡◌ {A = ℕ} 0 255 = ap (λ (x : Bytes). get_or x 0 0) e in omega arith

full_one : starts_with_two_full ≡ starts_with_one → ⊥
full_one e = let first : ◌≡◌ {A = ℕ} 255 1 = ap (λ (x : Bytes). get_or x 0 0) e in omega arith

pub example_life : ExampleLife
example_life = (
  record {
    print = fletcher_of;
    start = example_start;
    made = start_made fletcher_of;
    history = example_history;
    end = after_collect fletcher_of zeros starts_with_one;
    ran = life fletcher_of zeros starts_with_two_full starts_with_one refl refl refl refl refl refl zeros_full full_one;
  },
  refl,
  refl,
  refl,
)

-- Any state after the first write: Z in block b, and some store.
abbrev z_in : Bytes → ℕ → List (Option Entry) → State
z_in Z b store =
    repoint (programmed example_start b Z store)
    0 (next_page example_start b)

module _ (print : Bytes → ℕ) (Z H : Bytes) (z_long : length Z ≡ 256) (h_long : length H ≡ 256) (z_h : Z ≡ H → ⊥) where
  -- H is stored where a block is part-written, host page 1 is empty, and the store has at most an entry of Z's page q ..
  h_decided : (m : State) (q : ℕ) → 1 < host_pages m → HasPartWritten m → held m 1 ≡ None → content m.part q ≡ Some Z
      → ((k : ℕ) (e : Entry) → entry_at m.store k ≡ Some e → e.page ≡ q)
      → (b : Answer) (t : State) → Step print m (write 1 H) b t → b ≡ wrote_as Stored
  h_decided m q inside part empty has only b t step =
      (at_once print m 1 H inside h_long (inl part) (λ holds. none-some H (sym empty ∙ holds))
      (others_content print m Z H q only has z_h) b t step).0

  -- .. and so it is in whichever block Z went.
  h_decided_in : (b : ℕ) → b < 3 → (store : List (Option Entry))
      → ((k : ℕ) (e : Entry) → entry_at store k ≡ Some e → e.page ≡ next_page example_start b)
      → (a : Answer) (t : State) → Step print (z_in Z b store) (write 1 H) a t → a ≡ wrote_as Stored
  h_decided_in =
      below_three
      (λ b. (store : List (Option Entry)) → ((k : ℕ) (e : Entry) → entry_at store k ≡ Some e → e.page ≡ next_page example_start b)
      → (a : Answer) (t : State) → Step print (z_in Z b store) (write 1 H) a t → a ≡ wrote_as Stored)
      (λ store. h_decided (z_in Z 0 store) 0 (lit< tt) (0, lit< tt, refl) refl refl)
      (λ store. h_decided (z_in Z 1 store) 2 (lit< tt) (1, lit< tt, refl) refl refl)
      (λ store. h_decided (z_in Z 2 store) 4 (lit< tt) (2, lit< tt, refl) refl refl)

  -- The store after the first write has at most an entry of Z's page.
  one_page : (q : ℕ) (store : List (Option Entry)) → Entered (hotness example_start) no_entries (record { print = print Z; page = q }) 1 store
      → (k : ℕ) (e : Entry) → entry_at store k ≡ Some e → e.page ≡ q
  one_page q store entered k e has =
      ⊎_elim
      (λ same. absurd (empty_store 256 k e (ap (λ (y : List (Option Entry)). entry_at y k) (sym same) ∙ has)))
      (λ p. ap (λ (d : Entry). d.page)
      (entry_alone p.0 (record { print = print Z; page = q }) p.1.0 k e
      (ap (λ (y : List (Option Entry)). entry_at y k) (sym p.2) ∙ has)))
      (entered_cases (hotness example_start) no_entries (record { print = print Z; page = q }) 1 store entered)

  second_write : (a b : Answer) (m t : State) → Step print example_start (write 0 Z) a m → Step print m (write 1 H) b t
      → b ≡ wrote_as Stored
  second_write a b m t first second =
      let (i, store, took, entered, is) =
      (at_once print example_start 0 Z (lit< tt) z_long start_ready (none-some Z) (start_none_offered print Z) a m first).1 in
      h_decided_in i took.0 store (one_page (next_page example_start i) store entered) b t
      (subst (λ (v : State). Step print v (write 1 H) b t) is second)

pub second_write_decided : SecondWriteDecided
second_write_decided = second_write fletcher_of zeros starts_with_two_full refl refl zeros_full
