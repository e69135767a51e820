use Rattle.laws.proofs.Clocks.{new_table}
use Rattle.laws.proofs.new_table.Goals as goal

pub returns : goal.returns
returns c = new_table
