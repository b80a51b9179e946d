use Rattle.std.proofs.Common.{arith}
use Rattle.std.proofs.lemmas.Grind.{common_steps}
use Rattle.flash.proofs.Keeps.{sound_appended, sound_erased}
use Rattle.flash.proofs.Wear.{wear_appended, wear_erased}
use Rattle.flash.proofs.laws.laws_hold.Goals as goal

pub returns-clause-laws : goal.returns-clause-laws
returns-clause-laws c = record {
  program_keeps = sound_appended;
  erase_keeps = sound_erased;
  program_wears = wear_appended;
  erase_wears = wear_erased;
  reads_new = λ p b x h. grind (arith, common_steps);
  reads_before = λ p b k x h l. grind (arith, common_steps);
  reads_elsewhere = λ p b c k x ne. grind (arith, common_steps);
  reads_after_erase = λ p b c k ne. grind (arith, common_steps);
}
