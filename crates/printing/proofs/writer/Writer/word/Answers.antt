use Rattle.printing.proofs.Putting.{nothing, letter}
use Rattle.printing.proofs.writer.Writer.word.Goals as goal

pub loop-b-init : goal.loop-b-init
loop-b-init c = nothing c.args.self.now

pub loop-b-preserved : goal.loop-b-preserved
loop-b-preserved c = letter c.args.word.now c.loop-b.b-index c.loop-b-test.true c.loop-b.invariant c.byte.ensures
