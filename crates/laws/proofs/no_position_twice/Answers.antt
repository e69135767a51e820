use Rattle.laws.proofs.Layers.{no_position_twice}
use Rattle.laws.proofs.no_position_twice.Goals as goal

pub returns : goal.returns
returns c = no_position_twice
