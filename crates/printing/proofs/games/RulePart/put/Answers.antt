use Rattle.std.proofs.Common.{◌∙◌}
use Rattle.printing.proofs.Lines.{rule_put}
use Rattle.printing.proofs.games.RulePart.put.Goals as goal

pub returns : goal.returns
returns c =
    rule_put c.from.result c.word.ensures c.put_all-game.ensures c.word-2.ensures c.put_line-game.ensures
    (c.from.ensures ∙ c.first_number-count.ensures.number) c.first_number-count.ensures.rest c.put_all.ensures
