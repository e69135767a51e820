use Rattle.std.proofs.Common.{not, ◌∙◌, ap}
use Rattle.std.proofs.lemmas.Bool.{ne_eqb}
use Rattle.play.proofs.Finding.{over_by_terminal, over_by_search}
use Rattle.play.proofs.cursor.is_over.Goals as goal

pub returns-then-eval-ne0 : goal.returns-then-eval-ne0
returns-then-eval-ne0 c =
    ap not (ne_eqb _ 0 c.if-eval-ne0.true)
    ∙ over_by_terminal c.args.rules.now c.args.cells.now _ c.read_game-game.ensures.game.terminal_is c.turn-me.ensures c.eval.ensures
    c.if-eval-ne0.true

pub returns-else-eval-ne0 : goal.returns-else-eval-ne0
returns-else-eval-ne0 c =
    over_by_search c.args.rules.now c.args.cells.now _ c.read_game-game.ensures.game.terminal_is c.turn-me.ensures c.eval.ensures
    c.if-eval-ne0.false c.next_rule.result c.next_rule.ensures c.is_none.result c.is_none.ensures
