use Rattle.laws.proofs.Replies.{moves_counted}
use Rattle.laws.proofs.moves_counted.Goals as goal

pub returns : goal.returns
returns c = moves_counted
