use Rattle.laws.proofs.PileWorked.{pile_worked}
use Rattle.laws.proofs.pile_worked.Goals as goal

pub returns : goal.returns
returns c = pile_worked
