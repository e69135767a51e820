use Rattle.tables.proofs.Theorems.{playing_is_right}
use Rattle.tables.proofs.acting.playing_is_right.Goals as goal

pub returns : goal.returns
returns c = playing_is_right
