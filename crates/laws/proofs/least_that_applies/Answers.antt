use Rattle.laws.proofs.Refusals.{least_that_applies}
use Rattle.laws.proofs.least_that_applies.Goals as goal

pub returns : goal.returns
returns c = least_that_applies
