use Rattle.std.proofs.Common.{◌∙◌, sym, arith}
use Rattle.rows.specs.Layout.{game_at}
use Rattle.play.proofs.Steps.{rule_none}
use Rattle.play.proofs.Finding.{rule_skipped, rule_found}
use Rattle.play.proofs.position.Position.next_rule.Goals as goal

pub returns-in-Some : goal.returns-in-Some
returns-in-Some c =
    let this = c.in_ok-rule.ensures in
    rule_found (game_at c.args.self.now.rules.now) c.args.self.now.cells.now c.loop-number.number c.args.from
    (rw (this.0, this.1) at c.in_ok-rule.field-0.there) c.loop-number.invariant (rw (this.0, this.1, this.2) at c.in-Some.ensures)

pub loop-number-preserved : goal.loop-number-preserved
loop-number-preserved c =
    let this = c.in_ok-rule.ensures in
    rule_skipped (game_at c.args.self.now.rules.now) c.args.self.now.cells.now c.loop-number.number
    (rw (this.0, this.1) at c.in_ok-rule.field-0.there) (rw (this.0, this.1, this.2) at c.in_default.ensures)
    ∙ c.loop-number.invariant

pub returns : goal.returns
returns c =
    sym c.loop-number.invariant
    ∙ rule_none (game_at c.args.self.now.rules.now) c.args.self.now.cells.now c.loop-number.number
    (omega (arith, c.read_game-number-end.ensures.game.rules_are))
