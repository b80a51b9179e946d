-- What the flash pages hold after a program and after an erase.
use Rattle.std.proofs.Common.{◌≡◌, ℕ, ◌+◌, ◌*◌, ◌/◌, ◌%◌, ◌<◌, true, false, ltb, List, [], ◌∷◌, ◌++◌, length, get_or, is_some, Some, unwrap_or, sym, refl, ap, ◌∙◌, subst, ⊎_elim, mul_comm, div-add-mod', arith}
use Rattle.std.specs.List.{slice_get}
use Rattle.std.proofs.lemmas.Option.{slice_get-get_or}
use Rattle.std.proofs.lemmas.List.{length_push, get_or_push, get_or_past}
use Rattle.std.proofs.lemmas.Bool.{both_ways, cases_eq, cases_lt, le-ltb, ltb-true}
use Rattle.std.proofs.lemmas.Nat.{div-mul-add, mod-mul-add, mod_below, mul-add-lt}
use Rattle.std.proofs.lemmas.Bool.Decides.{nat_tests}
use Rattle.std.proofs.lemmas.Grind.{common_steps}
use Rattle.std.proofs.lemmas.Option.{slice_get_cases}
use Rattle.flash.specs.Part.{Block, Part, Sound, no_block, block, written, appended, erased}
use Rattle.flash.proofs.Keeps.{block_put, block_other}
use Rattle.rules.specs.State.{Bytes, content, is_written}

-- The place k of a list after one more at its end.
pub nth_push : {X : Type 0} (xs : List X) (x : X) → slice_get (xs ++ x ∷ []) (length xs) ≡ Some x
nth_push xs x = slice_get-get_or (xs ++ x ∷ []) (length xs) x (omega (arith, length_push xs x)) ∙ ap Some (get_or_push xs x x (length xs) refl)

pub nth_before : {X : Type 0} (xs : List X) (x : X) (k : ℕ) → (k ≡ length xs → ⊥) → slice_get (xs ++ x ∷ []) k ≡ slice_get xs k
nth_before xs x k ne = grind (arith, common_steps, slice_get_cases xs k, slice_get_cases (xs ++ x ∷ []) k)

pub nth_some : (xs : List Bytes) (k : ℕ) → is_some (slice_get xs k) ≡ ltb k (length xs)
nth_some xs k = grind (arith, nat_tests, slice_get_cases xs k)

-- A flash page is written exactly if it has content.
pub written_content : (p : Part) (q : ℕ) → is_some (content p q) ≡ is_written p q
written_content p q = nth_some (block p (q / p.per_block)).pages (q % p.per_block)

pub content_written : (p : Part) (q : ℕ) → is_written p q ≡ true → (x : Bytes) × (content p q ≡ Some x)
content_written p q w = (
  get_or (block p (q / p.per_block)).pages (q % p.per_block) [],
  slice_get-get_or (block p (q / p.per_block)).pages (q % p.per_block) [] (ltb-true (q % p.per_block) (written p (q / p.per_block)) w),
)

pub content_bytes : (p : Part) (q : ℕ) → is_written p q ≡ true → content p q ≡ Some (unwrap_or (content p q) [])
content_bytes p q w = let x = content_written p q w in x.1 ∙ ap Some (sym (ap (λ o. unwrap_or o []) x.1))

pub written_from : (p : Part) (q : ℕ) (x : Bytes) → content p q ≡ Some x → is_written p q ≡ true
written_from p q x e = sym (written_content p q) ∙ ap is_some e

module _ (p : Part) (some : 0 < p.per_block) where
  -- A written flash page lies in the part.
  pub written_inside : (q : ℕ) → is_written p q ≡ true → q < length p.blocks * p.per_block
  written_inside q w =
      ⊎_elim
      (λ l. subst (λ v. v < length p.blocks * p.per_block) (div-add-mod' q p.per_block)
      (omega (
        arith,
        mul-add-lt (q / p.per_block) p.per_block (q % p.per_block) (length p.blocks) l (mod_below q p.per_block some),
        mul_comm p.per_block (length p.blocks),
      )))
      (λ h. absurd (let e : written p (q / p.per_block) ≡ 0 = ap (λ (y : Block). length y.pages) (get_or_past p.blocks (q / p.per_block) no_block h) in
      omega (arith, ltb-true (q % p.per_block) (written p (q / p.per_block)) w)))
      (cases_lt (q / p.per_block) (length p.blocks))

  -- After a program in block b ..
  module _ (b : ℕ) (x : Bytes) (inside : b < length p.blocks) (room : written p b < p.per_block) where
    -- .. the new page has the bytes ..
    pub content_new : content (appended p b x) (b * p.per_block + written p b) ≡ Some x
    content_new =
        ap (λ i. slice_get (block (appended p b x) i).pages ((b * p.per_block + written p b) % p.per_block))
        (div-mul-add b p.per_block (written p b) room)
        ∙ ap (λ (y : Block). slice_get y.pages ((b * p.per_block + written p b) % p.per_block)) (block_put p b _ inside)
        ∙ ap (slice_get ((block p b).pages ++ x ∷ [])) (mod-mul-add b p.per_block (written p b) room)
        ∙ nth_push (block p b).pages x

    -- .. it was unwritten ..
    pub new_unwritten : is_written p (b * p.per_block + written p b) ≡ false
    new_unwritten =
        ap (λ i. ltb ((b * p.per_block + written p b) % p.per_block) (written p i)) (div-mul-add b p.per_block (written p b) room)
        ∙ le-ltb _ (written p b) (omega (arith, mod-mul-add b p.per_block (written p b) room))

    pub new_inside : b * p.per_block + written p b < length p.blocks * p.per_block
    new_inside =
        omega (
          arith,
          mul-add-lt b p.per_block (written p b) (length p.blocks) inside room,
          mul_comm p.per_block (length p.blocks),
        )

    -- .. and every other page is as it was.
    pub content_old : (q : ℕ) → (q ≡ b * p.per_block + written p b → ⊥) → content (appended p b x) q ≡ content p q
    content_old q ne =
        ⊎_elim
        (λ e. ap (λ (y : Block). slice_get y.pages (q % p.per_block)) (ap (block (appended p b x)) e ∙ block_put p b _ inside)
        ∙ nth_before (block p b).pages x (q % p.per_block)
        (λ same. ne (sym (div-add-mod' q p.per_block) ∙ ap (λ i. i * p.per_block + q % p.per_block) e
        ∙ ap (λ i. b * p.per_block + i) same))
        ∙ ap (λ i. slice_get (block p i).pages (q % p.per_block)) (sym e))
        (λ apart. ap (λ (y : Block). slice_get y.pages (q % p.per_block)) (block_other p b (q / p.per_block) _ apart))
        (cases_eq (q / p.per_block) b)

    -- What was written has the content it had.
    pub content_stays : (q : ℕ) → is_written p q ≡ true → content (appended p b x) q ≡ content p q
    content_stays q w = content_old q (λ e. both_ways _ new_unwritten (ap (is_written p) (sym e) ∙ w))

  -- After an erase of block b every page of another block is as it was.
  pub content_erased : (b q : ℕ) → (q / p.per_block ≡ b → ⊥) → content (erased p b) q ≡ content p q
  content_erased b q apart = ap (λ (y : Block). slice_get y.pages (q % p.per_block)) (block_other p b (q / p.per_block) _ apart)

-- Every content has 256 bytes.
pub content_whole : (p : Part) (q : ℕ) (x : Bytes) → Sound p → content p q ≡ Some x → length x ≡ 256
content_whole p q x s e =
    let w = written_from p q x e in
    let k = q % p.per_block in
    let b = q / p.per_block in
    ⊎_elim
    (λ l. let inside = ltb-true k (written p b) w in
    let same : x ≡ get_or (block p b).pages k [] = let r = slice_get-get_or (block p b).pages k [] inside in cc in
    ap length same ∙ (s.each b l).whole k inside)
    (λ h. absurd (let z : written p b ≡ 0 = ap (λ (y : Block). length y.pages) (get_or_past p.blocks b no_block h) in
    omega (arith, ltb-true k (written p b) w)))
    (cases_lt b (length p.blocks))
