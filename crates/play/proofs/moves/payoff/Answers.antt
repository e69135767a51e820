use Rattle.play.proofs.Words.{gained}
use Rattle.play.proofs.moves.payoff.Goals as goal

pub returns : goal.returns
returns c = gained c.args.rules.now c.args.cells.now _ c.args.player c.read_game.ensures.game.payoff_is c.eval.ensures
