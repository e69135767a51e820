use Rattle.std.proofs.Common.{◌∙◌, arith}
use Rattle.rows.specs.Layout.{game_at}
use Rattle.play.specs.Cursor.{move}
use Rattle.play.proofs.Words.{by_guard}
use Rattle.play.proofs.position.Rule.allows.Goals as goal

pub returns : goal.returns
returns c hx hy =
    let rule = c.args.self.now in
    by_guard (game_at rule.at.rules.now) rule.at.cells.now (move rule.number c.args.first c.args.second) rule.there
    (omega (arith, rule.first_bound)) (omega (arith, rule.second_bound)) rule.at.whose (c.eval.ensures ∙ rule.guard _ _ _ _)
