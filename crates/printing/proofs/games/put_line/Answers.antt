use Rattle.printing.proofs.Lines.{line_put}
use Rattle.printing.proofs.games.put_line.Goals as goal

pub returns : goal.returns
returns c = line_put c.args.word.now c.word.ensures c.put_exprs-rest.ensures c.word-2.ensures
