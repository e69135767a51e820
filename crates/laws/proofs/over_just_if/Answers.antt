use Rattle.laws.proofs.Legal.{over_just_if}
use Rattle.laws.proofs.over_just_if.Goals as goal

pub returns : goal.returns
returns c = over_just_if
