use Rattle.std.proofs.Common.{◌∙◌}
use Rattle.printing.proofs.Lines.{game_put}
use Rattle.printing.proofs.games.put_game.Goals as goal

pub returns : goal.returns
returns c =
    game_put c.from.result c.from-count.result c.from-2.result (c.from.ensures ∙ c.first_number-players.ensures.number)
    c.first_number-players.ensures.rest c.word.ensures c.number.ensures c.word-2.ensures
    (c.from-count.ensures ∙ c.two_bytes.ensures.lowest) c.after.ensures c.put_all-game.ensures c.word-3.ensures
    (c.from-2.ensures ∙ c.first_number-count.ensures.number) c.first_number-count.ensures.rest c.put_all-game-2.ensures
    c.put_line-game.ensures c.put_line.ensures
