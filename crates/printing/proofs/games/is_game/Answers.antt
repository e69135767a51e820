use Rattle.std.proofs.Common.{ap, ◌∙◌}
use Rattle.printing.proofs.Whole.{game_told, game_there}
use Rattle.printing.proofs.games.is_game.Goals as goal

pub returns-in-Ok : goal.returns-in-Ok
returns-in-Ok c = ap game_told c.in-Ok.ensures ∙ game_there c.args.game.now

pub returns-in-Err : goal.returns-in-Err
returns-in-Err c = (rw c.from.ensures at c.ne.ensures) ∙ ap game_told c.in-Err.ensures ∙ game_there c.args.game.now
