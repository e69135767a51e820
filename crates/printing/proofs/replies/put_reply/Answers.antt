use Rattle.answers.specs.declared.Parts.TheVariants.{Refused, Number, Shown, Listed, Forced}
use Rattle.answers.specs.Parts.{moves_in}
use Rattle.printing.proofs.AnswerLines.{refused_put, number_put, listed_put, reply_put}
use Rattle.printing.proofs.replies.put_reply.Goals as goal

pub returns-in-Refused : goal.returns-in-Refused
returns-in-Refused c =
    reply_put c.args.reply (Refused c.in-Refused.refusal) c.in-Refused.is
    (refused_put c.in-Refused.refusal c.word.ensures c.decimal.ensures c.word-in-Refused.ensures c.decimal-in-Refused.ensures)

pub returns-in-Number : goal.returns-in-Number
returns-in-Number c = reply_put c.args.reply (Number c.in-Number.n) c.in-Number.is (number_put c.in-Number.n c.decimal-in-Number.ensures).0

pub returns-in-Shown : goal.returns-in-Shown
returns-in-Shown c =
    reply_put c.args.reply (Shown c.in-Shown.cells c.in-Shown.turn c.in-Shown.end c.in-Shown.clocks) c.in-Shown.is c.put_shown.ensures

pub returns-in-Listed : goal.returns-in-Listed
returns-in-Listed c =
    reply_put c.args.reply (Listed c.in-Listed.moves) c.in-Listed.is (listed_put (moves_in c.in-Listed.moves.now) c.put_moves.ensures)

pub returns-in-Forced : goal.returns-in-Forced
returns-in-Forced c = reply_put c.args.reply (Forced c.in-Forced.n) c.in-Forced.is (number_put c.in-Forced.n c.decimal-in-Forced.ensures).1
