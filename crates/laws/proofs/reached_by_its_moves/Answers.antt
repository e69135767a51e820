use Rattle.laws.proofs.Reached.{reached_by_its_moves}
use Rattle.laws.proofs.reached_by_its_moves.Goals as goal

pub returns : goal.returns
returns c = reached_by_its_moves
