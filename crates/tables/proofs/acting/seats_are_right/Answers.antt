use Rattle.tables.proofs.Theorems.{seats_are_right}
use Rattle.tables.proofs.acting.seats_are_right.Goals as goal

pub returns : goal.returns
returns c = seats_are_right
