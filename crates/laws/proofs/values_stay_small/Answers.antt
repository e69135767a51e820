use Rattle.laws.proofs.Effects.{values_stay_small}
use Rattle.laws.proofs.values_stay_small.Goals as goal

pub returns : goal.returns
returns c = values_stay_small
