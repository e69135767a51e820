use Rattle.laws.proofs.Effects.{one_after_the_other}
use Rattle.laws.proofs.one_after_the_other.Goals as goal

pub returns : goal.returns
returns c = one_after_the_other
