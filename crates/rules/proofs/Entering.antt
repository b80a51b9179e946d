-- What stands in the store after a new entry came.
use Rattle.std.proofs.Common.{◌≡◌, ℕ, ◌<◌, ◌⊎◌, List, length, set, Some, None, Option, sym, ap, ◌∙◌, inl, inr, ⊎_elim, arith}
use Rattle.std.proofs.lemmas.List.{length-set, get_or-set_same, get_or-set_other}
use Rattle.std.proofs.lemmas.Bool.{cases_eq}
use Rattle.rules.specs.State.{Bytes, Entry}
use Rattle.rules.specs.Store.{entry_at, InSegment, Entered}
use Rattle.rules.specs.Store.Entered.{takes, replaces, left_out}

-- The store is as it was, or has the new entry in one place of its segment.
pub entered_cases : (hot : ℕ → ℕ) (store : List (Option Entry)) (new : Entry) (heat : ℕ) (after : List (Option Entry))
    → Entered hot store new heat after
    → (after ≡ store) ⊎ ((k : ℕ) × InSegment new.print k × (after ≡ set store k (Some new)))
entered_cases hot store new heat after (takes k seg free is) = inr (k, seg, is)
entered_cases hot store new heat after (replaces k old full seg has cold warm is) = inr (k, seg, is)
entered_cases hot store new heat after (left_out full colder is) = inl is

pub entered_length : (hot : ℕ → ℕ) (store : List (Option Entry)) (new : Entry) (heat : ℕ) (after : List (Option Entry))
    → Entered hot store new heat after → length after ≡ length store
entered_length hot store new heat after en =
    ⊎_elim (λ is. ap length is) (λ r. ap length r.2 ∙ length-set store r.0 (Some new)) (entered_cases hot store new heat after en)

-- An entry of the store after it was there, or is the new one.
pub entered_entry : (store after : List (Option Entry)) (new : Entry) (p : ℕ) → p < length store → after ≡ set store p (Some new)
    → (k : ℕ) (e : Entry) → entry_at after k ≡ Some e → ((k ≡ p) × (e ≡ new)) ⊎ ((k ≡ p → ⊥) × (entry_at store k ≡ Some e))
entered_entry store after new p l is k e has =
    ⊎_elim (λ same. inl (same, cc (get_or-set_same store p (Some new) None l)))
    (λ ne. inr (ne, cc (get_or-set_other store p k (Some new) None ne))) (cases_eq k p)

-- No two entries have equal content, before a new one came and after, if none offered its content before. `has` is what the
-- flash pages hold.
pub entered_apart : (has : ℕ → Option Bytes) (print : Bytes → ℕ) (hot : ℕ → ℕ) (store after : List (Option Entry)) (x : Bytes) (q heat : ℕ)
    → Entered hot store (record { print = print x; page = q }) heat after → length store ≡ 256 → has q ≡ Some x
    → ((k : ℕ) (e : Entry) → entry_at store k ≡ Some e → (y : Bytes) → has e.page ≡ Some y → e.print ≡ print y)
    → ((k p : ℕ) → entry_at store k ≡ Some (record { print = print x; page = p }) → has p ≡ Some x → ⊥)
    → ((j k : ℕ) (d e : Entry) → entry_at store j ≡ Some d → entry_at store k ≡ Some e → has d.page ≡ has e.page → j ≡ k)
    → (j k : ℕ) (d e : Entry) → entry_at after j ≡ Some d → entry_at after k ≡ Some e → has d.page ≡ has e.page → j ≡ k
entered_apart has print hot store after x q heat entered places here right none apart j k d e j_is k_is same =
    ⊎_elim
    (λ was. apart j k d e (ap (λ (y : List (Option Entry)). entry_at y j) (sym was) ∙ j_is) (ap (λ (y : List (Option Entry)). entry_at y k) (sym was) ∙ k_is) same)
    (λ p. let l : p.0 < length store = omega (arith, p.1.0, places) in
    ⊎_elim
    (λ dj. ⊎_elim (λ ek. dj.0 ∙ sym ek.0) (λ ek. absurd (offered k e d ek.1 dj.1 (sym same))) (new_or_old p.0 l p.2 k e k_is))
    (λ dj. ⊎_elim (λ ek. absurd (offered j d e dj.1 ek.1 same)) (λ ek. apart j k d e dj.1 ek.1 same) (new_or_old p.0 l p.2 k e k_is))
    (new_or_old p.0 l p.2 j d j_is))
    (entered_cases hot store (record { print = print x; page = q }) heat after entered)
  where
    new_or_old : (p : ℕ) → p < length store → after ≡ set store p (Some (record { print = print x; page = q })) → (i : ℕ) (c : Entry)
        → entry_at after i ≡ Some c → ((i ≡ p) × (c ≡ record { print = print x; page = q })) ⊎ ((i ≡ p → ⊥) × (entry_at store i ≡ Some c))
    new_or_old p l is i c i_is = entered_entry store after (record { print = print x; page = q }) p l is i c i_is

    offered : (i : ℕ) (c b : Entry) → entry_at store i ≡ Some c → b ≡ record { print = print x; page = q } → has c.page ≡ has b.page → ⊥
    offered i c b is b_is alike =
        let holds : has c.page ≡ Some x = alike ∙ ap (λ (y : Entry). has y.page) b_is ∙ here in
        none i c.page (is ∙ ap (λ n. Some (record { print = n; page = c.page })) (right i c is x holds)) holds
