-- An answer with a number for its refusal.
use Rattle.std.specs.Prelude.{ℕ, Ok, Err, Result}
use Rattle.flash.specs.Answers.{PartAnswer, number_of}

-- Ok where a call was accepted, else the refusal's number.
abbrev pub answer_by_number : PartAnswer → Result (Unit {0}) ℕ
answer_by_number (Ok u) = Ok tt
answer_by_number (Err e) = Err (number_of e)
