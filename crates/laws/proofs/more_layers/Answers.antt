use Rattle.laws.proofs.Layers.{more_layers}
use Rattle.laws.proofs.more_layers.Goals as goal

pub returns : goal.returns
returns c = more_layers
