use Rattle.laws.proofs.Clocks.{game_stays}
use Rattle.laws.proofs.game_stays.Goals as goal

pub returns : goal.returns
returns c = game_stays
