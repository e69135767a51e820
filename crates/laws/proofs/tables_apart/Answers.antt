use Rattle.laws.proofs.Clocks.{tables_apart}
use Rattle.laws.proofs.tables_apart.Goals as goal

pub returns : goal.returns
returns c = tables_apart
