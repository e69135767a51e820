use Rattle.laws.proofs.Forcing.{smaller_gain}
use Rattle.laws.proofs.smaller_gain.Goals as goal

pub returns : goal.returns
returns c = smaller_gain
