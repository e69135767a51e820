use Rattle.laws.proofs.Bounds.{good_just_if}
use Rattle.laws.proofs.good_just_if.Goals as goal

pub returns : goal.returns
returns c = good_just_if
