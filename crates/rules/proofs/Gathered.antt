-- The theorems on the rules, gathered.
use Rattle.std.proofs.Common.{◌≡◌, ℕ, true, Ok, Err, Result}
use Rattle.rules.specs.declared.refusal.Refusal.{Refusal}
use Rattle.rules.specs.declared.answer.Reply.{Reply}
use Rattle.rules.specs.declared.answer.Reply.TheVariants.{Wrote, Page, Number, Used}
use Rattle.rules.specs.State.{Bytes, State, page_map}
use Rattle.rules.specs.Calls.{Writes, Reads, Trims, Collects, Scans, Asks}
use Rattle.rules.specs.Answers.{Answer, answer_of, is_refusal}
use Rattle.rules.specs.Runs.{Call, Saves, Step}
use Rattle.rules.specs.Runs.Call.{write, read, trim, collect, scan, usage, save}
use Rattle.rules.specs.Theorems.{AlwaysStands, AnswersAsPageMap, KeepsPages, HasWhatRulesNeed}
use Rattle.rules.proofs.Buffers.{read_rule, save_rule}
use Rattle.rules.proofs.Steps.{step_outcome}
use Rattle.rules.proofs.Made.{made_stands}
use Rattle.rules.proofs.Lives.{other_call}
use Rattle.rules.proofs.Supplies.{dead_page, free_entry}
use Rattle.rules.proofs.Moving.{mid}
use Rattle.rules.proofs.Readying.{ready_after}

pub always_stands : AlwaysStands
always_stands = record { at_first = made_stands; afterwards = λ print s c a t h step. (step_outcome print s c a t h step).standing }

pub answers_as_page_map : AnswersAsPageMap
answers_as_page_map print s c a t h step = (step_outcome print s c a t h step).plain

-- An answer that is a refusal comes of a refused result.
refused_result : {X : Type 0} (reply : X → Reply) (r : Result X Refusal) (a : Answer) (T : Result X Refusal → Type 0)
    → a ≡ answer_of reply r → is_refusal a ≡ true → T r → (e : Refusal) × T (Err e)
refused_result reply (Ok x) a T is bad rule = cc
refused_result reply (Err e) a T is bad rule = (e, rule)

unchanged : (print : Bytes → ℕ) (s : State) (c : Call) (a : Answer) (t : State) → Step print s c a t → is_refusal a ≡ true → t ≡ s
unchanged print s (write n x) a t (r, is, rule) bad = (refused_result Wrote r a (λ y. Writes print s n x y t) is bad rule).1.0
unchanged print s (read n len) a t (r, is, rule) bad = (refused_result Page r a (λ y. Reads s n len y t) is bad (read_rule s n len r t rule)).1.0
unchanged print s (trim n) a t (r, is, rule) bad = (refused_result Number r a (λ y. Trims s n y t) is bad rule).1.0
unchanged print s collect a t (r, is, rule) bad = (refused_result Number r a (λ y. Collects s y t) is bad rule).1.0
unchanged print s scan a t (r, is, rule) bad = absurd (refused_result Number r a (λ y. Scans s y t) is bad rule).1
unchanged print s usage a t (r, is, rule) bad = absurd (refused_result Used r a (λ y. Asks s y t) is bad rule).1
unchanged print s (save len) a t (r, is, rule) bad = (refused_result Number r a (λ y. Saves s len y t) is bad (save_rule s len r t rule)).1.0

pub keeps_pages : KeepsPages
keeps_pages = record {
  refused = unchanged;
  others = λ print s c a t h step off. other_call c a (page_map s) (page_map t) off (step_outcome print s c a t h step).plain;
}

pub has_what_rules_need : HasWhatRulesNeed
has_what_rules_need = record { dead_page = dead_page; free_entry = λ print s q h. free_entry print s q (mid print s h); ready_after = ready_after }
