use Rattle.laws.proofs.PileForce.{pile_solved}
use Rattle.laws.proofs.pile_solved.Goals as goal

pub returns : goal.returns
returns c = pile_solved
