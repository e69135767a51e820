use Rattle.std.proofs.Common.{arith}
use Rattle.printing.proofs.AnswerLines.{goes_on_put, by_time_put, over_put}
use Rattle.printing.proofs.replies.put_end.Goals as goal

pub returns-in-0 : goal.returns-in-0
returns-in-0 c = goes_on_put c.args.end c.in-0.is c.word.ensures

pub returns-in-2 : goal.returns-in-2
returns-in-2 c = by_time_put c.args.end c.in-2.is c.word-in-2.ensures

pub returns-in_default : goal.returns-in_default
returns-in_default c = over_put c.args.end (λ e. omega arith) (λ e. omega arith) c.word-in_default.ensures
