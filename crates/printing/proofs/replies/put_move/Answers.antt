use Rattle.printing.proofs.AnswerLines.{move_put}
use Rattle.printing.proofs.replies.put_move.Goals as goal

pub returns : goal.returns
returns c = move_put c.args.played c.decimal.ensures c.number.ensures c.number-2.ensures
