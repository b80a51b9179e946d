-- Which flash pages are in use.
use Rattle.std.proofs.Common.{◌≡◌, ℕ, ◌<◌, ◌≤◌, true, false, eqb, ltb, ◌⊎◌, sym, ap, ◌∙◌, subst, inl, inr, ⊎_elim, arith}
use Rattle.std.proofs.lemmas.Bool.{cases_eq, false_from_ne_true, eq-eqb, eqb-true, lt-ltb, ltb-true}
use Rattle.rules.specs.State.{State, no_page, tally, host_pages, names, reach, references, in_use, is_written}
use Rattle.rules.specs.Making.{Agrees}
use Rattle.rules.proofs.Tally.{tally_find, tally_pos, tally_same}
use Rattle.rules.proofs.Namers.{leads_cases}

-- A page that a word reaches is in use, and one in use is reached by a word.
pub live_from : (s : State) (n q : ℕ) → n < host_pages s → reach s n ≡ q → in_use s q ≡ true
live_from s n q l e =
    lt-ltb 0 (references s q) (tally_pos (λ m. eqb (reach s m) q) (host_pages s) n l (eq-eqb (reach s n) q e))

pub live_find : (s : State) (q : ℕ) → in_use s q ≡ true → (n : ℕ) × (n < host_pages s) × (reach s n ≡ q)
live_find s q live =
    let r = tally_find (λ m. eqb (reach s m) q) (host_pages s) (ltb-true 0 (references s q) live) in
    (r.0, r.1, eqb-true (reach s r.0) q r.2)

pub live_not : (s : State) (q : ℕ) → ((n : ℕ) → n < host_pages s → reach s n ≡ q → ⊥) → in_use s q ≡ false
live_not s q none =
    false_from_ne_true (in_use s q) (λ live. let r = live_find s q live in none r.0 r.1 r.2)

-- Two states with as many host pages have the same pages in use if their words reach the same.
pub live_same : (s t : State) → host_pages t ≡ host_pages s → ((n : ℕ) → n < host_pages s → reach t n ≡ reach s n)
    → (q : ℕ) → in_use t q ≡ in_use s q
live_same s t len same q =
    ap (ltb 0) (ap (tally (λ m. eqb (reach t m) q)) len ∙ tally_same _ _ (host_pages s) (λ k l. ap (λ v. eqb v q) (same k l)))

-- The namer of a page that a word reaches.
module _ (s : State) (few : host_pages s ≤ 4096) (a : Agrees s) where
  pub reach_named : (n : ℕ) → n < host_pages s → (reach s n ≡ no_page) ⊎ ((k : ℕ) × (names s k ≡ reach s n) × (reach s n < no_page))
  reach_named n l =
      ⊎_elim
      (λ low. ⊎_elim (λ e. inl (low.1 ∙ e)) (λ ne. inr (n, sym low.1, omega (arith, low.0, low.1, ne)))
      (cases_eq (names s n) no_page))
      (λ high. inr (names s n, sym high.1, subst (λ v. v < no_page) (sym high.1) (a.used n (omega arith) high.0)))
      (leads_cases (names s) (names s n))

  -- A page in use has a namer and is written.
  pub live_written : (q : ℕ) → q < no_page → in_use s q ≡ true → is_written s.part q ≡ true
  live_written q small live =
      let r = live_find s q live in
      ⊎_elim (λ e. absurd (omega (arith, e, r.2))) (λ k. grind (arith, a.there k.0, k.1, r.2)) (reach_named r.0 r.1)

  -- A page that a namer names is in use.
  pub named_live : (k : ℕ) → names s k < no_page → (k < host_pages s) ⊎ (4096 ≤ k) → in_use s (names s k) ≡ true
  named_live k small (inl l) = live_from s k (names s k) l (grind (arith, leads_cases (names s) (names s k)))
  named_live k small (inr big) =
      let m = a.alive k big small in
      live_from s m.0 (names s k) m.1 (grind (arith, leads_cases (names s) k, m.2))
