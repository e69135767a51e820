use Rattle.std.proofs.Common.{length, sym}
use Rattle.std.proofs.lemmas.Bool.{eqb-true, eqb-false}
use Rattle.answers.specs.Parts.{numbers_in}
use Rattle.printing.proofs.AnswerLines.{shown_put, no_clocks, some_clocks}
use Rattle.printing.proofs.replies.put_shown.Goals as goal

pub returns-then-is_empty : goal.returns-then-is_empty
returns-then-is_empty c =
    shown_put (numbers_in c.args.cells.now) c.args.turn c.args.end (numbers_in c.args.clocks.now) c.word.ensures c.put_numbers.ensures
    c.word-2.ensures c.decimal.ensures c.word-3.ensures c.put_end.ensures
    (no_clocks c.args.clocks.now _ (eqb-true (length c.args.clocks.now) 0 (sym c.if-is_empty.ensures)))

pub returns : goal.returns
returns c =
    shown_put (numbers_in c.args.cells.now) c.args.turn c.args.end (numbers_in c.args.clocks.now) c.word.ensures c.put_numbers.ensures
    c.word-2.ensures c.decimal.ensures c.word-3.ensures c.put_end.ensures
    (some_clocks c.args.clocks.now (eqb-false (length c.args.clocks.now) 0 (sym c.if-is_empty.ensures)) c.word-4.ensures c.put_numbers-2.ensures)
