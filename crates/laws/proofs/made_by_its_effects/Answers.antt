use Rattle.laws.proofs.Legal.{made_by_its_effects}
use Rattle.laws.proofs.made_by_its_effects.Goals as goal

pub returns : goal.returns
returns c = made_by_its_effects
