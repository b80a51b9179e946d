-- The small changes that the rules are made of, each a function of the state and of the choices that the rules leave free.
use Rattle.std.specs.Prelude.{◌≡◌, ℕ, ◌+◌, ◌-◌, ◌*◌, ◌<◌, Bool, cond, ◌⊎◌, List, [], map, Some, None, Option, ◌==◌, ◌≢◌, nat_eq, nat_lt, slice_set}
use Rattle.std.specs.Option.{unwrap_or}
use Rattle.flash.specs.Part.{written, appended, erased}
use Rattle.rules.specs.State.{Bytes, Entry, State, no_page, tally, flash_pages, per_block, host_pages, content, names, leads}

-- The place without its entry, if that is the entry of flash page q.
abbrev pub without : ℕ → Option Entry → Option Entry
without q None = None
without q (Some e) = cond (e.page == q) None (Some e)

-- The device with another store.
abbrev pub with_store : State → List (Option Entry) → State
with_store s store = record { part = s.part; words = s.words; shared = s.shared; store = store }

-- Flash page q dies: its store entry goes.
abbrev pub dies : State → ℕ → State
dies s q = with_store s (map (without q) s.store)

-- Host page n's word becomes w.
abbrev pub with_word : State → ℕ → ℕ → State
with_word s n w = record { part = s.part; words = slice_set s.words n w; shared = s.shared; store = s.store }

-- Shared entry e becomes q.
abbrev pub with_shared : State → ℕ → ℕ → State
with_shared s e q = record { part = s.part; words = s.words; shared = slice_set s.shared e q; store = s.store }

-- Does any mapping word have the value w?
abbrev pub is_held : State → ℕ → Bool
is_held s w = nat_lt 0 (tally (λ n. nat_eq (names s n) w) (host_pages s))

-- A reference is let go: some word had the value w and now has another. If it named no page, nothing follows. If it named
-- a page directly, that page dies. If it named a shared entry that no word names any more, the entry is freed and its page dies.
abbrev pub let_go : State → ℕ → State
let_go s w =
    cond (w == no_page) s
    (cond (nat_lt w 4096) (dies s w)
    (cond (is_held s w) s (dies (with_shared s (w - 4096) no_page) (names s w))))

-- Host page n's word becomes w, and the reference that it was is let go.
abbrev pub repoint : State → ℕ → ℕ → State
repoint s n w = let_go (with_word s n w) (names s n)

-- Shared entry e may be the one through which flash page q is shared: it is q's own, or q has none and e is free.
-- Which free one it is, is left free.
abbrev pub EntryFor : State → ℕ → ℕ → Type 0
EntryFor s q e =
    (e < flash_pages s)
    × ((names s (4096 + e) ≡ q) ⊎ (((d : ℕ) → names s (4096 + d) ≢ q) × (names s (4096 + e) ≡ no_page)))

-- Flash page q is shared through entry e: a word that named q directly now names the entry.
abbrev pub lifted : State → ℕ → ℕ → State
lifted s q e =
    record { part = s.part; words = map (λ w. cond (w == q) (4096 + e) w) s.words; shared = slice_set s.shared e q; store = s.store }

-- The copy j of flash page i is merged into it: i is shared through entry e, every word that reached j names that entry,
-- j's own entry is freed, and j dies.
abbrev pub merged : State → ℕ → ℕ → ℕ → State
merged s i j e =
    let u = lifted s i e in
    dies
    (record {
      part = u.part;
      words = map (λ w. cond (leads (names u) w == j) (4096 + e) w) u.words;
      shared = map (λ q. cond (q == j) no_page q) u.shared;
      store = u.store;
    })
    j

-- The number that the next page programmed in block b has.
abbrev pub next_page : State → ℕ → ℕ
next_page s b = b * per_block s + written s.part b

-- The bytes x are programmed in the next page of block b, and the store becomes `after`.
abbrev pub programmed : State → ℕ → Bytes → List (Option Entry) → State
programmed s b x after = record { part = appended s.part b x; words = s.words; shared = s.shared; store = after }

-- A namer's value with q' in place of q.
abbrev pub renamed : ℕ → ℕ → ℕ → ℕ
renamed q q' w = cond (w == q) q' w

-- A store entry with q' in place of q.
abbrev pub renamed_entry : ℕ → ℕ → Option Entry → Option Entry
renamed_entry q q' None = None
renamed_entry q q' (Some e) = Some (record { print = e.print; page = renamed q q' e.page })

-- Flash page q is moved to the next page of block b: its bytes are programmed there, and its namer and its store entry follow.
abbrev pub moved_to : State → ℕ → ℕ → State
moved_to s q b =
    record {
      part = appended s.part b (unwrap_or (content s.part q) []);
      words = map (renamed q (next_page s b)) s.words;
      shared = map (renamed q (next_page s b)) s.shared;
      store = map (renamed_entry q (next_page s b)) s.store;
    }

-- Block b is erased.
abbrev pub erased_block : State → ℕ → State
erased_block s b = record { part = erased s.part b; words = s.words; shared = s.shared; store = s.store }
