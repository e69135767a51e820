use Rattle.tables.proofs.Theorems.{sitting_is_right}
use Rattle.tables.proofs.acting.sitting_is_right.Goals as goal

pub returns : goal.returns
returns c = sitting_is_right
