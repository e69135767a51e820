use Rattle.laws.proofs.Values.{value_of_each_kind}
use Rattle.laws.proofs.value_of_each_kind.Goals as goal

pub returns : goal.returns
returns c = value_of_each_kind
