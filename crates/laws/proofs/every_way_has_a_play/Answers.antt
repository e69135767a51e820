use Rattle.laws.proofs.Forcing.{every_way_has_a_play}
use Rattle.laws.proofs.every_way_has_a_play.Goals as goal

pub returns : goal.returns
returns c = every_way_has_a_play
