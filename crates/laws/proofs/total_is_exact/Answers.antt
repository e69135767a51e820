use Rattle.laws.proofs.Layers.{total_is_exact}
use Rattle.laws.proofs.total_is_exact.Goals as goal

pub returns : goal.returns
returns c = total_is_exact
