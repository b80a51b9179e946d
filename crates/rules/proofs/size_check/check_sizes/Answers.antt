use Rattle.std.proofs.Common.{arith}
use Rattle.std.proofs.lemmas.Bool.Decides.{nat_tests}
use Rattle.rules.proofs.size_check.check_sizes.Goals as goal

pub returns-then-not-contains-3 : goal.returns-then-not-contains-3
returns-then-not-contains-3 c = record { value = grind (arith, nat_tests) }

pub returns : goal.returns
returns c = record { value = grind (arith, nat_tests) }
