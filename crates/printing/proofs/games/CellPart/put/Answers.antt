use Rattle.std.proofs.Common.{◌∙◌}
use Rattle.printing.proofs.Lines.{cell_put}
use Rattle.printing.proofs.games.CellPart.put.Goals as goal

pub returns : goal.returns
returns c = cell_put c.from.result (c.from.ensures ∙ c.two_bytes.ensures.lowest) c.number.ensures c.after.ensures
