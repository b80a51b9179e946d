-- A making, accepted or refused: every format is answered, and an unmade device answers its refusal.
use Rattle.std.proofs.Common.{◌≡◌, ℕ, zero, suc, ◌<◌, ◌≤◌, Bool, true, false, cond, ◌⊎◌, length, sym, refl, ◌∙◌, subst, inl, inr, ⊎_elim, arith}
use Rattle.std.proofs.lemmas.Bool.{cases_eq, cases_lt}
use Rattle.flash.specs.Part.{Part, written, erases}
use Rattle.rules.specs.declared.refusal.Refusal.{Refusal}
use Rattle.rules.specs.declared.refusal.Refusal.TheVariants.{Geometry, HostPages, WornOut}
use Rattle.rules.specs.Numbers.{refusal_number}
use Rattle.rules.specs.Devices.{Device}
use Rattle.rules.specs.Devices.Device.{made, unmade}
use Rattle.rules.specs.Making.{geometry_fits, host_pages_fit, FormatAccepts, formatted, FormatRefused, Formats}
use Rattle.rules.specs.Theorems.{MakingSays}
use Rattle.rules.proofs.Decided.{refusal_same}

-- Below n every block that is not clean can be erased, or one of them is worn out.
worn_or : (p : Part) (n : ℕ) → n ≤ length p.blocks
    → ((b : ℕ) → b < n → (written p b ≡ 0 → ⊥) → erases p b < p.endurance)
    ⊎ ((b : ℕ) × (b < length p.blocks) × (written p b ≡ 0 → ⊥) × (p.endurance ≤ erases p b))
worn_or p zero inside = inl (λ b none. absurd (omega arith))
worn_or p (suc n) inside =
    ⊎_elim
    (λ fine. ⊎_elim
    (λ clean. inl (more fine (λ full. absurd (full clean))))
    (λ full. ⊎_elim (λ low. inl (more fine (λ f. low))) (λ worn. inr (n, omega arith, full, worn)) (cases_lt (erases p n) p.endurance))
    (cases_eq (written p n) 0))
    inr
    (worn_or p n (omega arith))
  where
    more : ((b : ℕ) → b < n → (written p b ≡ 0 → ⊥) → erases p b < p.endurance) → ((written p n ≡ 0 → ⊥) → erases p n < p.endurance)
        → (b : ℕ) → b < suc n → (written p b ≡ 0 → ⊥) → erases p b < p.endurance
    more fine last b under =
        let P : ℕ → Type 0 = λ c. (written p c ≡ 0 → ⊥) → erases p c < p.endurance in
        ⊎_elim (λ lower. fine b lower) (λ high. let same : n ≡ b = omega arith in subst P same last) (cases_lt b n)

-- What the test of the geometry and that of the host pages answer together.
abbrev tested : Bool → Bool → ℕ
tested g h = cond g (cond h 0 2) 1

-- It is 0, or some refusal has that number.
tests_or : (g h : Bool) → (tested g h ≡ 0) ⊎ ((e : Refusal) × (tested g h ≡ 0 → ⊥) × (refusal_number e ≡ tested g h))
tests_or true true = inl refl
tests_or true false = inr (HostPages, λ z. omega arith, refl)
tests_or false h = inr (Geometry, λ z. omega arith, refl)

format_some : (p : Part) (host : ℕ) → (d : Device) × Formats p host d
format_some p host =
    let blocks = length p.blocks in
    ⊎_elim
    (λ fit. ⊎_elim
    (λ fine. (made (formatted p host), ((fit, fine), refl)))
    (λ worn. (unmade WornOut p, (refl, inr (inl (fit, refl, worn)))))
    (worn_or p blocks (omega arith)))
    (λ bad. (unmade bad.0 p, (refl, inl (bad.1, bad.2))))
    (tests_or (geometry_fits blocks p.per_block) (host_pages_fit blocks p.per_block host))

-- A format that is accepted is refused for want of memory alone.
accepted_refused : (p : Part) (host : ℕ) (e : Refusal) → FormatAccepts p host → FormatRefused p host e → refusal_number e ≡ 255
accepted_refused p host e (fit, fine) (inl (unfit, is)) = absurd (unfit fit)
accepted_refused p host e (fit, fine) (inr (inl (fit', three, (b, inside, full, worn)))) = absurd (omega (arith, fine b inside full))
accepted_refused p host e accepts (inr (inr (is, accepts'))) = is

refused_same : (p : Part) (host : ℕ) (d e : Refusal) → FormatRefused p host d → FormatRefused p host e
    → (refusal_number d ≡ 255 → ⊥) → (refusal_number e ≡ 255 → ⊥) → d ≡ e
refused_same p host d e (inl (unfit, is)) (inl (unfit', is')) fine fine' = refusal_same d e (is ∙ sym is')
refused_same p host d e (inl (unfit, is)) (inr (inl (fit, three, rest))) fine fine' = absurd (unfit fit)
refused_same p host d e (inr (inl (fit, three, rest))) (inl (unfit, is)) fine fine' = absurd (unfit fit)
refused_same p host d e (inr (inl (fit, three, rest))) (inr (inl (fit', three', rest'))) fine fine' = refusal_same d e (three ∙ sym three')
refused_same p host d e (inr (inr (is, accepts))) r fine fine' = absurd (fine is)
refused_same p host d e (inl r) (inr (inr (is, accepts))) fine fine' = absurd (fine' is)
refused_same p host d e (inr (inl r)) (inr (inr (is, accepts))) fine fine' = absurd (fine' is)

pub making_says : MakingSays
making_says = record {
  answered = format_some;
  untouched = λ p host e q r. r.0;
  load_untouched = λ print p image e q same. same;
  accepted = λ p host s e q ok r. accepted_refused p host e ok.0 r.1;
  decided = λ p host d e q r x y. refused_same p host d e x.1 y.1;
  unmade_answers = λ print e p c a d says. says;
}
