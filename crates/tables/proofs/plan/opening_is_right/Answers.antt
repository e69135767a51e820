use Rattle.tables.proofs.Theorems.{opening_is_right}
use Rattle.tables.proofs.plan.opening_is_right.Goals as goal

pub returns : goal.returns
returns c = opening_is_right
