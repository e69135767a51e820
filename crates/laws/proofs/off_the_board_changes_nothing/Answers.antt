use Rattle.laws.proofs.Effects.{off_the_board_changes_nothing}
use Rattle.laws.proofs.off_the_board_changes_nothing.Goals as goal

pub returns : goal.returns
returns c = off_the_board_changes_nothing
