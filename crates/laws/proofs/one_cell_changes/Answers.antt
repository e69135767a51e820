use Rattle.laws.proofs.Effects.{one_cell_changes}
use Rattle.laws.proofs.one_cell_changes.Goals as goal

pub returns : goal.returns
returns c = one_cell_changes
