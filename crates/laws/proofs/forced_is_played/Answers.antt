use Rattle.laws.proofs.Forcing.{forced_is_played}
use Rattle.laws.proofs.forced_is_played.Goals as goal

pub returns : goal.returns
returns c = forced_is_played
