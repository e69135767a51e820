use Rattle.laws.proofs.Legal.{gained_by_each}
use Rattle.laws.proofs.gained_by_each.Goals as goal

pub returns : goal.returns
returns c = gained_by_each
