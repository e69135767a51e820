use Rattle.std.proofs.Common.{◌+◌, arith}
use Rattle.rows.specs.Layout.{game_at}
use Rattle.play.specs.Cursor.{firsts_from}
use Rattle.play.proofs.Steps.{first_more, first_none}
use Rattle.play.proofs.Writes.{begun, went_on, stopped, ended}
use Rattle.play.proofs.position.Rule.list_firsts.Goals as goal

pub loop-first-init : goal.loop-first-init
loop-first-init c = begun _ c.args.before c.args.answer.now c.requires.room

pub returns-in_err-count : goal.returns-in_err-count
returns-in_err-count c =
    let rule = c.args.self.now in
    rw c.from_residual.ensures
    (stopped c.loop-first.invariant (firsts_from (game_at rule.at.rules.now) rule.at.cells.now rule.number (c.loop-first.first + 1))
    (first_more (game_at rule.at.rules.now) rule.at.cells.now rule.number c.loop-first.first (omega (arith, rule.first_bound)))
    c.in_err-count.ensures)

pub loop-first-preserved : goal.loop-first-preserved
loop-first-preserved c =
    let rule = c.args.self.now in
    went_on c.loop-first.invariant (firsts_from (game_at rule.at.rules.now) rule.at.cells.now rule.number (c.loop-first.first + 1))
    (first_more (game_at rule.at.rules.now) rule.at.cells.now rule.number c.loop-first.first (omega (arith, rule.first_bound)))
    c.in_ok-count.ensures

pub returns : goal.returns
returns c =
    let rule = c.args.self.now in
    ended c.loop-first.invariant
    (first_none (game_at rule.at.rules.now) rule.at.cells.now rule.number c.loop-first.first
    (omega (arith, rule.first_bound, c.loop-first-test.false)))
