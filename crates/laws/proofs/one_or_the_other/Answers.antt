use Rattle.laws.proofs.Forcing.{one_or_the_other}
use Rattle.laws.proofs.one_or_the_other.Goals as goal

pub returns : goal.returns
returns c = one_or_the_other
