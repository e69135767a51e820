use Rattle.std.proofs.Common.{◌+◌, arith}
use Rattle.rows.specs.Layout.{game_at}
use Rattle.play.specs.Cursor.{rules_from}
use Rattle.play.proofs.Steps.{rule_more, rule_none, of_all_rules}
use Rattle.play.proofs.Writes.{begun, skipped, went_on, stopped, ended}
use Rattle.play.proofs.listing.list_rules.Goals as goal

pub loop-number-init : goal.loop-number-init
loop-number-init c =
    skipped (begun _ 0 c.args.answer.now c.requires.room) (of_all_rules (game_at c.args.rules.now) c.args.cells.now)

pub returns-in_err-count : goal.returns-in_err-count
returns-in_err-count c =
    let this = c.in_ok-rule.ensures in
    rw c.from_residual-in_err-count.ensures
    (stopped c.loop-number.invariant (rules_from (game_at c.args.rules.now) c.args.cells.now (c.loop-number.number + 1))
    (rule_more (game_at c.args.rules.now) c.args.cells.now c.loop-number.number (rw (this.0, this.1) at c.in_ok-rule.field-0.there))
    (rw (this.0, this.1, this.2) at c.in_err-count.ensures))

pub loop-number-preserved : goal.loop-number-preserved
loop-number-preserved c =
    let this = c.in_ok-rule.ensures in
    went_on c.loop-number.invariant (rules_from (game_at c.args.rules.now) c.args.cells.now (c.loop-number.number + 1))
    (rule_more (game_at c.args.rules.now) c.args.cells.now c.loop-number.number (rw (this.0, this.1) at c.in_ok-rule.field-0.there))
    (rw (this.0, this.1, this.2) at c.in_ok-count.ensures)

pub returns : goal.returns
returns c =
    ended c.loop-number.invariant
    (rule_none (game_at c.args.rules.now) c.args.cells.now c.loop-number.number
    (omega (arith, c.loop-number-test.false, c.read_game-number-end.ensures.game.rules_are)))
