use Rattle.std.proofs.Common.{◌∙◌, sym, arith}
use Rattle.rows.specs.Layout.{game_at}
use Rattle.play.proofs.Steps.{first_none}
use Rattle.play.proofs.Finding.{first_skipped, first_found}
use Rattle.play.proofs.position.Rule.next_first.Goals as goal

pub loop-first-preserved : goal.loop-first-preserved
loop-first-preserved c =
    let rule = c.args.self.now in
    first_skipped (game_at rule.at.rules.now) rule.at.cells.now rule.number c.loop-first.first
    (omega (arith, rule.first_bound)) c.in_default.ensures
    ∙ c.loop-first.invariant

pub returns-in-Some : goal.returns-in-Some
returns-in-Some c =
    let rule = c.args.self.now in
    first_found (game_at rule.at.rules.now) rule.at.cells.now rule.number c.loop-first.first c.args.from
    (omega (arith, rule.first_bound)) c.loop-first.invariant c.in-Some.ensures

pub returns : goal.returns
returns c =
    let rule = c.args.self.now in
    sym c.loop-first.invariant
    ∙ first_none (game_at rule.at.rules.now) rule.at.cells.now rule.number c.loop-first.first
    (omega (arith, rule.first_bound, c.loop-first-test.false))
