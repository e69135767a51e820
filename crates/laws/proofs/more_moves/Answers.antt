use Rattle.laws.proofs.Forcing.{more_moves}
use Rattle.laws.proofs.more_moves.Goals as goal

pub returns : goal.returns
returns c = more_moves
