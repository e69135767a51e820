use Rattle.laws.proofs.Values.{turn_goes_round}
use Rattle.laws.proofs.turn_goes_round.Goals as goal

pub returns : goal.returns
returns c = turn_goes_round
