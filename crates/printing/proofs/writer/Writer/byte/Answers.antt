use Rattle.std.proofs.Common.{refl}
use Rattle.printing.specs.Puts.{past, put}
use Rattle.printing.proofs.writer.Writer.byte.Goals as goal

pub returns : goal.returns
unfolding past put
returns c = record { same_memory = refl; place = c.saturating_add-self.ensures; bytes = c.put.ensures }
