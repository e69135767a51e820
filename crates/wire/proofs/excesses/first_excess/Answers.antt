use Rattle.std.proofs.Common.{◌∙◌}
use Rattle.wire.proofs.GamesCheck.{below_from}
use Rattle.wire.proofs.GamesExcess.{no_excess, told}
use Rattle.wire.proofs.excesses.first_excess.Goals as goal

pub returns-in_err-walk_game : goal.returns-in_err-walk_game
returns-in_err-walk_game c = c.from_residual.ensures ∙ no_excess c.args.game.now c.in_err-walk_game.ensures

pub returns : goal.returns
returns c =
    let bs = c.args.game.now in
    c.limit_broken.ensures ∙ told bs (below_from bs (λ i. (c.type_inv.game i).fits)) c.in_ok-walk_game.field-0 c.in_ok-walk_game.ensures
