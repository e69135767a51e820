use Rattle.laws.proofs.Clocks.{clocks_only_fall}
use Rattle.laws.proofs.clocks_only_fall.Goals as goal

pub returns : goal.returns
returns c = clocks_only_fall
