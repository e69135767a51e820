use Rattle.laws.proofs.Clocks.{ticks_take_from_whose_turn}
use Rattle.laws.proofs.ticks_take_from_whose_turn.Goals as goal

pub returns : goal.returns
returns c = ticks_take_from_whose_turn
