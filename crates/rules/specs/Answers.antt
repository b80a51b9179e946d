-- What a call of a run answers.
use Rattle.std.specs.Prelude.{Bool, Ok, Err, Result}
use Rattle.std.specs.Result.{is_err}
use Rattle.rules.specs.declared.refusal.Refusal.{Refusal}
use Rattle.rules.specs.declared.answer.Reply.{Reply}

-- A reply, or why the call is refused.
abbrev pub Answer : Type 0
Answer = Result Reply Refusal

-- The answer of a call whose result is x or a refusal; `reply` is the case that has x.
abbrev pub answer_of : {X : Type 0} → (X → Reply) → Result X Refusal → Answer
answer_of reply (Ok x) = Ok (reply x)
answer_of reply (Err e) = Err e

-- Is an answer a refusal?
abbrev pub is_refusal : Answer → Bool
is_refusal a = is_err a
