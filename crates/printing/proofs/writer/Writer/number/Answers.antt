use Rattle.printing.proofs.Putting.{join}
use Rattle.printing.proofs.writer.Writer.number.Goals as goal

pub returns : goal.returns
returns c = join c.byte.ensures c.decimal.ensures
