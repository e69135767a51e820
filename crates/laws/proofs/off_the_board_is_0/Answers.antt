use Rattle.laws.proofs.Effects.{off_the_board_is_0}
use Rattle.laws.proofs.off_the_board_is_0.Goals as goal

pub returns : goal.returns
returns c = off_the_board_is_0
