use Rattle.rules.proofs.Worked.{second_write_decided}
use Rattle.rules.proofs.examples.worked_sizes.Goals as goal

pub returns-clause-second : goal.returns-clause-second
returns-clause-second c = second_write_decided
