use Rattle.laws.proofs.Layers.{just_those_reached}
use Rattle.laws.proofs.just_those_reached.Goals as goal

pub returns : goal.returns
returns c = just_those_reached
