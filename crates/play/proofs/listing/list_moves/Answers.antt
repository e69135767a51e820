use Rattle.std.proofs.Common.{◌∙◌, arith}
use Rattle.rules.specs.Play.{legal_moves}
use Rattle.rows.specs.Layout.{game_at}
use Rattle.play.proofs.Writes.{refused, nothing_written, some_written, all_fits, all_written}
use Rattle.play.proofs.listing.list_moves.Goals as goal

pub returns-then-answer-lt-HEAD : goal.returns-then-answer-lt-HEAD
returns-then-answer-lt-HEAD c = record {
  size = refused c.args.answer.now (legal_moves (game_at c.args.rules.now) c.args.cells.now) (omega arith);
  bytes = tt;
  part = nothing_written c.args.answer.now (legal_moves (game_at c.args.rules.now) c.args.cells.now) (omega arith);
}

pub returns-in_err-count-clause-size : goal.returns-in_err-count-clause-size
returns-in_err-count-clause-size c =
    c.from_residual.ensures
    ∙ refused c.args.answer.now (legal_moves (game_at c.args.rules.now) c.args.cells.now) (omega (arith, c.in_err-count.ensures.too_many))

pub returns-in_err-count-clause-part : goal.returns-in_err-count-clause-part
returns-in_err-count-clause-part c =
    rw c.from_residual.ensures (some_written c.args.answer.now (legal_moves (game_at c.args.rules.now) c.args.cells.now) c.in_err-count.ensures)

pub returns : goal.returns
returns c = record {
  size = all_fits c.args.answer.now (legal_moves (game_at c.args.rules.now) c.args.cells.now) c.in_ok-count.ensures;
  bytes = all_written c.args.answer.now (legal_moves (game_at c.args.rules.now) c.args.cells.now) c.in_ok-count.ensures (rw c.into.ensures at c.put_field.ensures);
  part = tt;
}
