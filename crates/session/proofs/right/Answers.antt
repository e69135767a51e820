use Rattle.session.proofs.Runs.{right}
use Rattle.session.proofs.right.Goals as goal

pub returns : goal.returns
returns c = right
