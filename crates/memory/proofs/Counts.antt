-- Lists made from a function of the index.
use Rattle.std.proofs.Common.{◌≡◌, ℕ, ◌<◌, map, get_or, set, replicate, sym, ap, ◌∙◌, ⊎_elim, arith}
use Rattle.std.specs.List.{range_with_len}
use Rattle.std.proofs.lemmas.List.FromFn.{length-map-range_with_len, get_or-map-range_with_len, fill_by_all}
use Rattle.std.proofs.lemmas.List.{length-set, get_or-set_same, get_or-set_other, length-replicate, get_or-replicate}
use Rattle.std.proofs.lemmas.Bool.{cases_eq}

module _ {X : Type 0} (d : X) (f g : ℕ → X) (n : ℕ) where
  -- Two functions that agree below n make the same list.
  pub counted_same : ((k : ℕ) → k < n → f k ≡ g k) → map f (range_with_len 0 n) ≡ map g (range_with_len 0 n)
  counted_same same =
      fill_by_all g _ n d (length-map-range_with_len f 0 n) (λ k h. get_or-map-range_with_len f 0 n k k d h (omega arith) ∙ same k h)

  -- Two that agree below n but at b make lists that differ there.
  pub counted_set : (b : ℕ) (new : X) → b < n → f b ≡ new → ((k : ℕ) → k < n → (k ≡ b → ⊥) → f k ≡ g k)
      → map f (range_with_len 0 n) ≡ set (map g (range_with_len 0 n)) b new
  counted_set b new inside here elsewhere =
      let l = length-map-range_with_len g 0 n in
      sym (fill_by_all f _ n d (length-set (map g (range_with_len 0 n)) b new ∙ l)
      (λ k h. ⊎_elim
      (λ e. ap (λ j. get_or (set (map g (range_with_len 0 n)) b new) j d) e
      ∙ get_or-set_same (map g (range_with_len 0 n)) b new d (omega arith) ∙ sym here ∙ ap f (sym e))
      (λ ne. get_or-set_other (map g (range_with_len 0 n)) b k new d ne
      ∙ get_or-map-range_with_len g 0 n k k d h (omega arith) ∙ sym (elsewhere k h ne))
      (cases_eq k b)))

-- One that is the same everywhere below n.
pub counted_all : {X : Type 0} (f : ℕ → X) (n : ℕ) (x : X) → ((k : ℕ) → k < n → f k ≡ x) → map f (range_with_len 0 n) ≡ replicate n x
counted_all f n x all =
    sym (fill_by_all f (replicate n x) n x (length-replicate n x) (λ k h. get_or-replicate n k x x h ∙ sym (all k h)))
