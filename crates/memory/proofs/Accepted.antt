-- What a part answers to a call in turn.
use Rattle.std.proofs.Common.{◌≡◌, ℕ, ◌<◌, length, Ok, lt-ltb, eq-eqb}
use Rattle.flash.specs.Part.{Part, written, erases}
use Rattle.flash.specs.Answers.{PartAnswer, program_answer, read_answer, erase_answer}

module _ (p : Part) (b : ℕ) (inside : b < length p.blocks) where
  pub program_accepted : (k : ℕ) → k < p.per_block → k ≡ written p b → ◌≡◌ {A = PartAnswer} (Ok tt) (program_answer p b k)
  program_accepted k room next =
      let f = lt-ltb b (length p.blocks) inside in let g = lt-ltb k p.per_block room in let e = eq-eqb k (written p b) next in cc

  pub read_accepted : (k : ℕ) → k < p.per_block → k < written p b → ◌≡◌ {A = PartAnswer} (Ok tt) (read_answer p b k)
  read_accepted k room there =
      let f = lt-ltb b (length p.blocks) inside in let g = lt-ltb k p.per_block room in let e = lt-ltb k (written p b) there in cc

  pub erase_accepted : erases p b < p.endurance → ◌≡◌ {A = PartAnswer} (Ok tt) (erase_answer p b)
  erase_accepted left =
      let f = lt-ltb b (length p.blocks) inside in let g = lt-ltb (erases p b) p.endurance left in cc
