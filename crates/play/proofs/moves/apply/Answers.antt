use Rattle.play.proofs.Words.{played, nothing_happens}
use Rattle.play.proofs.moves.apply.Goals as goal

pub returns-in_default : goal.returns-in_default
returns-in_default c = nothing_happens c.args.rules.now c.args.cells.now c.args.played c.in_default.ensures

pub returns-in-Some : goal.returns-in-Some
returns-in-Some c =
    played c.args.rules.now c.args.cells.now c.args.played c.in-Some.ensures c.turn-me.ensures c.apply_effects.ensures
