use Rattle.laws.proofs.Forcing.{played_is_forced}
use Rattle.laws.proofs.played_is_forced.Goals as goal

pub returns : goal.returns
returns c = played_is_forced
