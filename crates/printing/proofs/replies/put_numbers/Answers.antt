use Rattle.printing.proofs.AnswerLines.{no_numbers, number_more}
use Rattle.printing.proofs.replies.put_numbers.Goals as goal

pub loop-n-init : goal.loop-n-init
loop-n-init c = no_numbers c.args.writer.now

pub loop-n-preserved : goal.loop-n-preserved
loop-n-preserved c =
    number_more c.args.numbers.now c.loop-n.n-index c.loop-n-test.true c.loop-n.invariant (rw c.from_le_bytes.ensures at c.number.ensures)
