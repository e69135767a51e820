use Rattle.std.proofs.Common.{◌∙◌, sym, arith}
use Rattle.rows.specs.Layout.{game_at}
use Rattle.play.proofs.Steps.{second_none}
use Rattle.play.proofs.Finding.{second_skipped, second_found}
use Rattle.play.proofs.position.Rule.next_second.Goals as goal

pub loop-second-preserved : goal.loop-second-preserved
loop-second-preserved c =
    let rule = c.args.self.now in
    second_skipped (game_at rule.at.rules.now) rule.at.cells.now rule.number c.args.first c.loop-second.second
    (omega (arith, rule.second_bound)) (sym c.if-allows.false ∙ c.allows.ensures c.requires c.loop-second-test.true)
    ∙ c.loop-second.invariant

pub returns-then-allows : goal.returns-then-allows
returns-then-allows c =
    let rule = c.args.self.now in
    record {
      first =
          second_found (game_at rule.at.rules.now) rule.at.cells.now rule.number c.args.first c.loop-second.second
          (omega (arith, rule.second_bound)) c.args.from (sym c.if-allows.true ∙ c.allows.ensures c.requires c.loop-second-test.true)
          c.loop-second.invariant;
      fits = omega arith;
    }

pub returns : goal.returns
returns c =
    let rule = c.args.self.now in
    sym c.loop-second.invariant
    ∙ second_none (game_at rule.at.rules.now) rule.at.cells.now rule.number c.args.first c.loop-second.second
    (omega (arith, rule.second_bound, c.loop-second-test.false))
