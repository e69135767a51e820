use Rattle.rows.proofs.Reading.{start_there, start_past}
use Rattle.rows.proofs.read.start_cell.Goals as goal

pub returns-then-i-word_at : goal.returns-then-i-word_at
returns-then-i-word_at c = start_there c.args.rules.now c.word_at.ensures c.if-i-word_at.true c.word_at-then-i-word_at.ensures

pub returns-else-i-word_at : goal.returns-else-i-word_at
returns-else-i-word_at c = start_past c.args.rules.now c.word_at.ensures c.if-i-word_at.false
