-- A device that was made stands.
use Rattle.std.proofs.Common.{◌≡◌, ℕ, ◌-◌, ◌*◌, ◌/◌, ◌<◌, true, List, [], ◌∷◌, length, get_or, replicate, Some, None, Option, sym, refl, ap, ◌∙◌, subst, inl, inr, ⊎_elim, arith}
use Rattle.std.proofs.lemmas.List.{length-map, length-replicate, get_or-replicate, get_or_past}
use Rattle.std.proofs.Math.ListN.{get_or-map}
use Rattle.std.proofs.lemmas.Bool.{cases_lt, eq-eqb}
use Rattle.std.proofs.lemmas.Bool.Decides.{nat_tests}
use Rattle.flash.specs.Part.{Block, Part, SoundBlock, Sound, no_block, written}
use Rattle.rules.specs.State.{Bytes, Entry, State, no_page, block_count, per_block, flash_pages, host_pages, names, content, in_use, hotness}
use Rattle.rules.specs.Store.{entry_at, Entered}
use Rattle.rules.specs.Tables.{with_store}
use Rattle.rules.specs.Calls.{NoneOffered, below}
use Rattle.rules.specs.Making.{size_refusal, SizesFit, cleared, FormatAccepts, formatted, Refilled, Loaded, Made}
use Rattle.rules.specs.Stands.{EntryStands, Stands}
use Rattle.rules.proofs.Sizes.{sizes_fit}
use Rattle.rules.proofs.Blocks.{part_written_in}
use Rattle.rules.proofs.Crossing.{name_word, name_entry}
use Rattle.std.proofs.lemmas.Option.{same_Some}
use Rattle.rules.proofs.Members.{In, in_below}
use Rattle.rules.proofs.Entering.{entered_cases, entered_length, entered_entry, entered_apart}

-- A list of one value has it everywhere, past its end too.
pub get_d_all : {X : Type 0} (n k : ℕ) (x : X) → get_or (replicate n x) k x ≡ x
get_d_all n k x =
    ⊎_elim (λ l. get_or-replicate n k x x l) (λ h. get_or_past (replicate n x) k x (omega (arith, length-replicate n x))) (cases_lt k n)

-- An empty store has only free places.
pub empty_store : (n k : ℕ) (e : Entry) → entry_at (replicate n None) k ≡ Some e → ⊥
empty_store n k e is = cc (get_d_all {X = Option Entry} n k None, is)

module _ (print : Bytes → ℕ) (p : Part) (host : ℕ) (sound : Sound p) (accepts : FormatAccepts p host) where
  abbrev s : State
  s = formatted p host

  blocks_same : block_count s ≡ length p.blocks
  blocks_same = length-map p.blocks cleared

  host_same : host_pages s ≡ host
  host_same = length-replicate host no_page

  nothing_named : (k : ℕ) → names s k ≡ no_page
  nothing_named k =
      ⊎_elim (λ l. name_word s.words s.shared k l ∙ get_d_all host k no_page)
      (λ h. name_entry s.words s.shared k h ∙ get_d_all (length p.blocks * p.per_block) (k - 4096) no_page) (cases_lt k 4096)

  all_clean : (b : ℕ) → written s.part b ≡ 0
  all_clean b = ap (λ (y : Block). length y.pages) (get_or-map cleared p.blocks b no_block)

  sound_after : Sound s.part
  sound_after = record {
    each = λ b l. let in_p : b < length p.blocks = omega (arith, blocks_same) in
        subst (SoundBlock p.per_block p.endurance) (sym (get_or-map cleared p.blocks b no_block))
        (record {
          room = omega arith;
          worn_at_most = grind (arith, nat_tests, (sound.each b in_p).worn_at_most, accepts.1 b in_p);
          whole = λ k none. absurd (omega arith);
        });
    limit = sound.limit;
  }

  sizes_after : SizesFit s.part (host_pages s)
  sizes_after = ap (λ b. size_refusal b p.per_block (host_pages s)) blocks_same ∙ ap (size_refusal (length p.blocks) p.per_block) host_same ∙ accepts.0

  pub formatted_stands : Stands print s
  formatted_stands = record {
    sizes = sizes_after;
    entries = length-replicate (length p.blocks * p.per_block) no_page ∙ ap (λ b. b * p.per_block) (sym blocks_same);
    flash = sound_after;
    agrees = record {
      used = λ n l big. absurd (omega (arith, nothing_named n));
      flat = λ k big. omega (arith, nothing_named k);
      once = λ j k small e. absurd (omega (arith, nothing_named j));
      there = λ k small. absurd (omega (arith, nothing_named k));
      alive = λ k big small. absurd (omega (arith, nothing_named k));
    };
    blocks = record {
      spare = (0, omega (arith, (sizes_fit (block_count s) (per_block s) (host_pages s) sizes_after).two), eq-eqb _ 0 (all_clean 0));
      single = λ b c in_b in_c b_part c_part. absurd (omega (arith, (part_written_in s b b_part).0, all_clean b));
    };
    stores = record {
      places = length-replicate {A = Option Entry} 256 None;
      each = λ k e is. absurd (empty_store 256 k e is);
      apart = λ j k d e j_is k_is same. absurd (empty_store 256 j d j_is);
    };
  }

-- A store that is being refilled stands at every step.
record Filled (print : Bytes → ℕ) (s : State) (store : List (Option Entry)) : Type 0 where
  places : length store ≡ 256
  each : (k : ℕ) (e : Entry) → entry_at store k ≡ Some e → EntryStands print s k e
  apart : (j k : ℕ) (d e : Entry) → entry_at store j ≡ Some d → entry_at store k ≡ Some e
      → content s.part d.page ≡ content s.part e.page → j ≡ k

refilled_one : (print : Bytes → ℕ) (s : State) (q : ℕ) (x : Bytes) (store next : List (Option Entry)) → q < flash_pages s → in_use s q ≡ true
    → content s.part q ≡ Some x → Filled print s store
    → NoneOffered print (with_store s store) x
    → Entered (hotness s) store (record { print = print x; page = q }) (hotness s q) next → Filled print s next
refilled_one print s q x store next inside live has f none entered = record {
  places = entered_length (hotness s) store _ (hotness s q) next entered ∙ f.places;
  each = λ k e is. ⊎_elim
      (λ was. f.each k e (ap (λ (y : List (Option Entry)). entry_at y k) (sym was) ∙ is))
      (λ p. ⊎_elim
      (λ new. subst (EntryStands print s k) (sym new.1)
      (record {
        segment = ap (λ i. i / 16) new.0 ∙ p.1.1;
        inside = inside;
        live = live;
        right = λ y y_has. ap print (same_Some x y (sym has ∙ y_has));
      }))
      (λ old. f.each k e old.1)
      (entered_entry store next (record { print = print x; page = q }) p.0 (omega (arith, p.1.0, f.places)) p.2 k e is))
      (entered_cases (hotness s) store (record { print = print x; page = q }) (hotness s q) next entered);
  apart = entered_apart (content s.part) print (hotness s) store next x q (hotness s q) entered f.places has
      (λ k e is y y_has. (f.each k e is).right y y_has) (λ k p is p_has. none p (k, is, p_has)) f.apart;
}

refilled_stands : (print : Bytes → ℕ) (s : State) (qs : List ℕ) (store after : List (Option Entry))
    → ((q : ℕ) → In q qs → (q < flash_pages s) × (in_use s q ≡ true)) → Filled print s store → Refilled print s qs store after → Filled print s after
refilled_stands print s [] store after live f is = subst (Filled print s) (sym is) f
refilled_stands print s (q ∷ qs) store after live f (x, next, has, how, rest) =
    let here = live q (inl refl) in
    refilled_stands print s qs next after (λ r i. live r (inr i))
    (⊎_elim (λ skip. subst (Filled print s) (sym skip.1) f)
    (λ new. refilled_one print s q x store next here.0 here.1 has f new.0 new.1) how)
    rest

pub loaded_stands : (print : Bytes → ℕ) (s : State) → Sound s.part → Loaded print s → Stands print s
loaded_stands print s sound l =
    let f = refilled_stands print s (below (in_use s) (flash_pages s)) (replicate 256 None) s.store
    (λ q i. in_below (in_use s) (flash_pages s) q i)
    (record { places = length-replicate {A = Option Entry} 256 None; each = λ k e is. absurd (empty_store 256 k e is); apart = λ j k d e j_is k_is same. absurd (empty_store 256 j d j_is) })
    l.filled in
    record {
      sizes = l.sizes;
      entries = l.entries;
      flash = sound;
      agrees = l.agrees;
      blocks = l.blocks;
      stores = record { places = f.places; each = f.each; apart = f.apart };
    }

pub made_stands : (print : Bytes → ℕ) (s : State) → Made print s → Stands print s
made_stands print s (inl (p, host, sound, (accepts, is))) = subst (Stands print) (sym is) (formatted_stands print p host sound accepts)
made_stands print s (inr (p, image, sound, (same, words, shared, l))) = loaded_stands print s (subst Sound (sym same) sound) l
