use Rattle.rules.proofs.Lives.{promise}
use Rattle.rules.proofs.promise.promise_is_kept.Goals as goal

pub returns-clause-promise : goal.returns-clause-promise
returns-clause-promise c = promise
