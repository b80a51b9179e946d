-- How the small changes of the namers keep them in agreement with the part.
use Rattle.std.proofs.Common.{◌≡◌, ℕ, ◌<◌, ◌≤◌, Bool, true, cond, eqb, ltb, ◌⊎◌, sym, refl, ap, ◌∙◌, subst, inl, inr, ⊎_elim, arith}
use Rattle.std.proofs.lemmas.Bool.{cases_eq, eq-eqb, ne_eqb, lt-ltb}
use Rattle.rules.specs.State.{no_page, leads}
use Rattle.rules.specs.Tables.{renamed}
use Rattle.rules.specs.Making.{Agree}
use Rattle.rules.proofs.Cases.{by_eq, by_lt}

-- Namer k holds v, every other what it held.
abbrev pub put : (ℕ → ℕ) → ℕ → ℕ → ℕ → ℕ
put f k v j = cond (eqb j k) v (f j)

pub put_same : (f : ℕ → ℕ) (k v : ℕ) → put f k v k ≡ v
put_same f k v = ap (λ t. cond t v (f k)) (eq-eqb k k refl)

pub put_other : (f : ℕ → ℕ) (k v j : ℕ) → (j ≡ k → ⊥) → put f k v j ≡ f j
put_other f k v j ne = ap (λ t. cond t v (f j)) (ne_eqb j k ne)

-- What a namer holds after a put, by cases.
pub put_cases : (f : ℕ → ℕ) (k v j : ℕ) → ((j ≡ k) × (put f k v j ≡ v)) ⊎ ((j ≡ k → ⊥) × (put f k v j ≡ f j))
put_cases f k v j = by_eq j k v (f j)

-- What it holds after two of them.
pub put_twice_cases : (f : ℕ → ℕ) (n v k w j : ℕ) → ((j ≡ k) × (put (put f n v) k w j ≡ w))
    ⊎ (((j ≡ n) × (put (put f n v) k w j ≡ v)) ⊎ ((j ≡ k → ⊥) × (j ≡ n → ⊥) × (put (put f n v) k w j ≡ f j)))
put_twice_cases f n v k w j =
    ⊎_elim (λ h. inl h) (λ h. ⊎_elim (λ g. inr (inl (g.0, h.1 ∙ g.1))) (λ g. inr (inr (h.0, g.0, h.1 ∙ g.1))) (put_cases f n v j))
    (put_cases (put f n v) k w j)

-- Agreement but for the one namer x, which may name a page without being named.
pub record AgreeBut (f : ℕ → ℕ) (is_written : ℕ → Bool) (host x : ℕ) : Type 0 where
  pub used : (n : ℕ) → n < 4096 → 4096 ≤ f n → f (f n) < no_page
  pub flat : (k : ℕ) → 4096 ≤ k → f k ≤ no_page
  pub once : (j k : ℕ) → f j < no_page → f j ≡ f k → j ≡ k
  pub there : (k : ℕ) → f k < no_page → is_written (f k) ≡ true
  pub alive : (k : ℕ) → 4096 ≤ k → (k ≡ x → ⊥) → f k < no_page → (n : ℕ) × (n < host) × (f n ≡ k)

-- A value that a word may take: none, a written page that has no namer, or an entry that names a page.
abbrev pub Fit : (ℕ → ℕ) → (ℕ → Bool) → ℕ → Type 0
Fit f is_written w =
    (w ≡ no_page)
    ⊎ (((w < no_page) × (is_written w ≡ true) × ((k : ℕ) → f k ≡ w → ⊥)) ⊎ ((4096 ≤ w) × (f w < no_page)))

module _ (f : ℕ → ℕ) (is_written : ℕ → Bool) (host : ℕ) (few : host ≤ 4096) (a : Agree f is_written host) where
  -- Host page n's word takes another value: the old one may have been the last reference to its entry.
  pub word_put : (n w : ℕ) → n < host → Fit f is_written w → AgreeBut (put f n w) is_written host (f n)
  word_put n w l fit = record {
    used = λ m m_host big.
        let p = put_cases f n w m in let q = put_cases f n w (put f n w m) in let r = put_cases f n w w in
        grind (arith, p, q, r, fit, a.used m m_host);
    flat = λ k big. let p = put_cases f n w k in grind (arith, p, a.flat k big);
    once = λ j k small e.
        let p = put_cases f n w j in let q = put_cases f n w k in
        grind (arith, p, q, fit, a.once j k);
    there = λ k small. let p = put_cases f n w k in grind (arith, p, fit, a.there k);
    alive = λ k big ne small.
        let same : put f n w k ≡ f k = put_other f n w k (λ e. absurd (omega arith)) in
        let r = a.alive k big (subst (λ v. v < no_page) same small) in
        let apart : r.0 ≡ n → ⊥ = λ e. ne (sym r.2 ∙ ap f e) in
        (r.0, r.1, put_other f n w r.0 apart ∙ r.2);
  }

  -- A page that word n named directly is shared through the free entry k.
  pub lift_put : (n k : ℕ) → n < host → f n < no_page → 4096 ≤ k → f k ≡ no_page
      → Agree (put (put f n k) k (f n)) is_written host
  lift_put n k l direct big free = record {
    used = λ m m_host wide.
        let p = put_twice_cases f n k k (f n) m in let q = put_twice_cases f n k k (f n) (put (put f n k) k (f n) m) in grind (arith, p, q, a.used m m_host);
    flat = λ j wide. let p = put_twice_cases f n k k (f n) j in grind (arith, p, a.flat j wide);
    once = λ i j small e.
        let p = put_twice_cases f n k k (f n) i in let q = put_twice_cases f n k k (f n) j in
        grind (arith, p, q, a.once i j, a.once i n, a.once n j, a.once j n);
    there = λ j small. let p = put_twice_cases f n k k (f n) j in grind (arith, p, a.there n, a.there j);
    alive = λ j wide small.
        ⊎_elim (λ h. (n, l, named h))
        (⊎_elim (λ h. absurd (omega (arith, h.0)))
        (λ h. let r = a.alive j wide (subst (λ v. v < no_page) h.2 small) in
        let m_ne_n : r.0 ≡ n → ⊥ = λ e. absurd (omega (arith, r.2, ap f e)) in
        let m_ne_k : r.0 ≡ k → ⊥ = λ e. absurd (omega (arith, r.1)) in
        (r.0, r.1, put_other (put f n k) k (f n) r.0 m_ne_k ∙ put_other f n k r.0 m_ne_n ∙ r.2))) (put_twice_cases f n k k (f n) j);
  }
    where
      named : {j : ℕ} → (j ≡ k) × (put (put f n k) k (f n) j ≡ f n) → put (put f n k) k (f n) n ≡ j
      named h = put_other (put f n k) k (f n) n (λ e. absurd (omega arith)) ∙ put_same f n k ∙ sym h.0

-- The reference x is let go: it was no entry, or some word still holds it ..
pub let_go_kept : (f : ℕ → ℕ) (is_written : ℕ → Bool) (host x : ℕ) → AgreeBut f is_written host x
    → (x < 4096) ⊎ ((n : ℕ) × (n < host) × (f n ≡ x)) → Agree f is_written host
let_go_kept f is_written host x a kept = record {
  used = a.used;
  flat = a.flat;
  once = a.once;
  there = a.there;
  alive = λ k big small. ⊎_elim
      (λ e. ⊎_elim (λ low. absurd (omega arith)) (λ m. (m.0, m.1, m.2 ∙ sym e)) kept)
      (λ ne. a.alive k big ne small) (cases_eq k x);
}

-- .. or it was an entry that no word holds any more, which is freed.
pub let_go_freed : (f : ℕ → ℕ) (is_written : ℕ → Bool) (host x : ℕ) → host ≤ 4096 → AgreeBut f is_written host x → 4096 ≤ x
    → ((n : ℕ) → n < 4096 → f n ≡ x → ⊥) → Agree (put f x no_page) is_written host
let_go_freed f is_written host x few a big free = record {
  used = λ n l wide.
      let p = put_cases f x no_page n in let q = put_cases f x no_page (put f x no_page n) in
      grind (arith, p, q, free n l, a.used n l);
  flat = λ k wide. let p = put_cases f x no_page k in grind (arith, p, a.flat k wide);
  once = λ j k small e.
      let p = put_cases f x no_page j in let q = put_cases f x no_page k in grind (arith, p, q, a.once j k);
  there = λ k small. let p = put_cases f x no_page k in grind (arith, p, a.there k);
  alive = λ k wide small. ⊎_elim (λ h. absurd (omega (arith, h.1)))
      (λ h. let r = a.alive k wide h.0 (subst (λ v. v < no_page) h.1 small) in
      (r.0, r.1, put_other f x no_page r.0 (λ e. absurd (omega (arith, r.1))) ∙ r.2)) (put_cases f x no_page k);
}

-- What a namer holds after page q is renamed, by cases.
pub renamed_cases : (q q' w : ℕ) → ((w ≡ q) × (renamed q q' w ≡ q')) ⊎ ((w ≡ q → ⊥) × (renamed q q' w ≡ w))
renamed_cases q q' w = by_eq w q q' w

-- A page moves to one that has no namer yet; what was written stays written.
pub rename_agrees : (f : ℕ → ℕ) (is_written is_written' : ℕ → Bool) (host q q' : ℕ) → host ≤ 4096
    → Agree f is_written host → q < no_page → q' < no_page
    → ((k : ℕ) → f k ≡ q' → ⊥) → is_written' q' ≡ true → ((p : ℕ) → is_written p ≡ true → is_written' p ≡ true)
    → Agree (λ k. renamed q q' (f k)) is_written' host
rename_agrees f is_written is_written' host q q' few a small small' fresh here more = record {
  used = λ n l wide.
      let p = renamed_cases q q' (f n) in
      let r = renamed_cases q q' (f (f n)) in
      let again = renamed_cases q q' (f (renamed q q' (f n))) in
      grind (arith, p, r, again, a.used n l);
  flat = λ k wide. let p = renamed_cases q q' (f k) in grind (arith, p, a.flat k wide);
  once = λ j k l e.
      let p = renamed_cases q q' (f j) in let r = renamed_cases q q' (f k) in
      grind (arith, p, r, fresh j, fresh k, a.once j k);
  there = λ k l. let p = renamed_cases q q' (f k) in grind (arith, p, here, more (f k), a.there k);
  alive = λ k wide l.
      let p = renamed_cases q q' (f k) in
      let m = a.alive k wide (grind (arith, p)) in
      let r = renamed_cases q q' (f m.0) in
      (m.0, m.1, ⊎_elim (λ h. absurd (omega (arith, h.0, m.2))) (λ h. h.1 ∙ m.2) r);
}

-- What a namer holds after the copy j is merged into the page of entry e, words and entries.
abbrev pub merged_word : (ℕ → ℕ) → ℕ → ℕ → ℕ → ℕ
merged_word f j e w = cond (eqb (leads f w) j) e w

abbrev pub merged_entry : ℕ → ℕ → ℕ
merged_entry j q = cond (eqb q j) no_page q

abbrev pub merged_names : (ℕ → ℕ) → ℕ → ℕ → ℕ → ℕ
merged_names f j e k = cond (ltb k 4096) (merged_word f j e (f k)) (merged_entry j (f k))

pub merged_word_cases : (f : ℕ → ℕ) (j e w : ℕ)
    → ((leads f w ≡ j) × (merged_word f j e w ≡ e)) ⊎ ((leads f w ≡ j → ⊥) × (merged_word f j e w ≡ w))
merged_word_cases f j e w = by_eq (leads f w) j e w

pub merged_entry_cases : (j q : ℕ) → ((q ≡ j) × (merged_entry j q ≡ no_page)) ⊎ ((q ≡ j → ⊥) × (merged_entry j q ≡ q))
merged_entry_cases j q = by_eq q j no_page q

-- Whether a word names a page itself or an entry.
pub leads_cases : (f : ℕ → ℕ) (w : ℕ) → ((w < 4096) × (leads f w ≡ w)) ⊎ ((4096 ≤ w) × (leads f w ≡ f w))
leads_cases f w = by_lt w 4096 w (f w)

-- A merged namer is a word or an entry.
pub merged_cases : (f : ℕ → ℕ) (j e k : ℕ)
    → ((k < 4096) × (merged_names f j e k ≡ merged_word f j e (f k))) ⊎ ((4096 ≤ k) × (merged_names f j e k ≡ merged_entry j (f k)))
merged_cases f j e k = by_lt k 4096 (merged_word f j e (f k)) (merged_entry j (f k))

-- A merged namer that names a page named it before, and it is not the copy.
merged_direct : (f : ℕ → ℕ) (j e k : ℕ) → 4096 ≤ e → merged_names f j e k < no_page
    → (merged_names f j e k ≡ f k) × (f k ≡ j → ⊥)
merged_direct f j e k big small =
    let c = merged_cases f j e k in
    let w = merged_word_cases f j e (f k) in
    let q = merged_entry_cases j (f k) in
    let d = leads_cases f (f k) in
    (grind (arith, c, w, q, d), λ is. grind (arith, c, w, q, d))

pub merge_agrees : (f : ℕ → ℕ) (is_written : ℕ → Bool) (host j e : ℕ) → host ≤ 4096 → Agree f is_written host
    → 4096 ≤ e → f e < no_page → (f e ≡ j → ⊥) → Agree (merged_names f j e) is_written host
merge_agrees f is_written host j e few a big taken apart = record {
  used = λ n l wide.
      let c = merged_cases f j e n in
      let w = merged_word_cases f j e (f n) in
      let d = leads_cases f (f n) in
      let at_e = merged_cases f j e e in
      let q = merged_entry_cases j (f e) in
      let there = merged_cases f j e (f n) in
      let r = merged_entry_cases j (f (f n)) in
      grind (arith, c, w, d, at_e, q, there, r, a.used n l);
  flat = λ k wide. let c = merged_cases f j e k in let q = merged_entry_cases j (f k) in grind (arith, c, q, a.flat k wide);
  once = λ i k small same.
      let x = merged_direct f j e i big small in
      let y = merged_direct f j e k big (subst (λ v. v < no_page) same small) in
      a.once i k (subst (λ v. v < no_page) x.0 small) (sym x.0 ∙ same ∙ y.0);
  there = λ k small. let x = merged_direct f j e k big small in
      ap is_written x.0 ∙ a.there k (subst (λ v. v < no_page) x.0 small);
  alive = λ k wide small.
      let x = merged_direct f j e k big small in
      let m = a.alive k wide (subst (λ v. v < no_page) x.0 small) in
      let d = leads_cases f (f m.0) in
      let w = merged_word_cases f j e (f m.0) in (
        m.0,
        m.1,
        merged_names_word f j e m.0 (omega (arith, m.1)) ∙ ⊎_elim
            (λ h. absurd (x.1 (ap f (sym m.2) ∙ sym (⊎_elim (λ low. absurd (omega (arith, low.0, m.2))) (λ high. high.1) d) ∙ h.0)))
            (λ h. h.1 ∙ m.2) w,
      );
}
  where
    merged_names_word : (f : ℕ → ℕ) (j e n : ℕ) → n < 4096 → merged_names f j e n ≡ merged_word f j e (f n)
    merged_names_word f j e n l = ap (λ t. cond t (merged_word f j e (f n)) (merged_entry j (f n))) (lt-ltb n 4096 l)

-- Agreement asks of the part only that the named pages are written.
pub written_agrees : (f : ℕ → ℕ) (is_written is_written' : ℕ → Bool) (host : ℕ) → Agree f is_written host
    → ((k : ℕ) → f k < no_page → is_written (f k) ≡ true → is_written' (f k) ≡ true) → Agree f is_written' host
written_agrees f is_written is_written' host a more = record {
  used = a.used;
  flat = a.flat;
  once = a.once;
  there = λ k small. more k small (a.there k small);
  alive = a.alive;
}
