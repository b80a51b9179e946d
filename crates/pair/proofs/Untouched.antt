-- A call on a block of one part leaves the other part as it was.
use Rattle.std.proofs.Common.{◌≡◌, ℕ, ◌-◌, Bool, true, false, cond, ltb, length, Some, Err, sym, refl, ap, ◌∙◌, arith}
use Rattle.std.proofs.lemmas.Bool.{lt-ltb, le-ltb, cond-true, cond-false}
use Rattle.flash.specs.declared.refusal.PartRefusal.{PartRefusal}
use Rattle.flash.specs.Part.{Part}
use Rattle.flash.specs.Answers.{PartAnswer, if_accepted}
use Rattle.pair.specs.declared.place.Place.TheVariants.{First, Second}
use Rattle.pair.specs.Shown.{Located, first_after, second_after}

-- Both ways of a test that lead to the same part.
same_ways : (t : Bool) (p : Part) → p ≡ cond t p p
same_ways true p = refl
same_ways false p = refl

-- A call on a block of the first part: `f` is what an accepted one leaves, by the block's number there.
module _ (p q : Part) (b c : ℕ) (st : Located p q b (Some (First c))) where
  pub first_own : (r : PartAnswer) (got : Part) (f : ℕ → Part) → got ≡ if_accepted r (f c) p → got ≡ first_after p b r (f b)
  first_own r got f is =
      is ∙ ap (λ i. if_accepted r (f i) p) st.2 ∙ sym (cond-true (ltb b (length p.blocks)) _ _ (lt-ltb b (length p.blocks) st.1))

  pub second_other : (r : PartAnswer) (new : Part) → q ≡ second_after p q b r new
  second_other r new = sym (cond-true (ltb b (length p.blocks)) _ _ (lt-ltb b (length p.blocks) st.1))

-- A call on a block of the second part.
module _ (p q : Part) (b c : ℕ) (st : Located p q b (Some (Second c))) where
  past : ltb b (length p.blocks) ≡ false
  past = le-ltb b (length p.blocks) (omega (arith, st.2))

  pub first_other : (r : PartAnswer) (new : Part) → p ≡ first_after p b r new
  first_other r new = sym (cond-false (ltb b (length p.blocks)) _ _ past)

  pub second_own : (r : PartAnswer) (got : Part) (f : ℕ → Part) → got ≡ if_accepted r (f c) q
      → got ≡ second_after p q b r (f (b - length p.blocks))
  second_own r got f is =
      let own : c ≡ b - length p.blocks = omega (arith, st.2) in
      is ∙ ap (λ i. if_accepted r (f i) q) own ∙ sym (cond-false (ltb b (length p.blocks)) _ _ past)

-- A call that the pair refuses.
pub first_refused : (p : Part) (b : ℕ) (e : PartRefusal) (new : Part) → p ≡ first_after p b (Err e) new
first_refused p b e new = same_ways (ltb b (length p.blocks)) p

pub second_refused : (p q : Part) (b : ℕ) (e : PartRefusal) (new : Part) → q ≡ second_after p q b (Err e) new
second_refused p q b e new = same_ways (ltb b (length p.blocks)) q
