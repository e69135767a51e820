use Rattle.std.proofs.lemmas.List.{take_all}
use Rattle.printing.proofs.AnswerLines.{no_later, move_more, moves_put, none_put}
use Rattle.printing.proofs.replies.put_moves.Goals as goal

pub returns-in_default : goal.returns-in_default
returns-in_default c = none_put c.args.moves.now c.in_default.ensures.cases c.word.ensures

pub loop-m-init : goal.loop-m-init
loop-m-init c = no_later _

pub loop-m-preserved : goal.loop-m-preserved
loop-m-preserved c =
    move_more c.in-Some.later.now c.loop-m.m-index c.loop-m-test.true c.loop-m.invariant c.word-in-loop-m.ensures
    (rw c.read_move-in-loop-m.ensures at c.put_move-in-loop-m.ensures)

pub returns : goal.returns
returns c =
    moves_put c.in-Some.first.now c.in-Some.later.now c.in-Some.ensures.cases.0 (rw c.read_move.ensures at c.put_move.ensures)
    (rw (take_all c.loop-m.m-index c.in-Some.later.now c.loop-m-test.false) at c.loop-m.invariant)
