use Rattle.std.proofs.Common.{ℕ, List, refl, arith, rules}
use Rattle.wire.specs.Games.{parse_game}
use Rattle.wire.proofs.GamesCheck.{below_from}
use Rattle.wire.proofs.GamesBack.{game_writes_back}
use Rattle.printing.proofs.Whole.{game_printed, no_game, exact}
use Rattle.printing.proofs.games.print_game.Goals as goal

pub returns-then-not-is_game : goal.returns-then-not-is_game
returns-then-not-is_game c =
    let bs : List ℕ = c.args.game.now in
    let h = no_game (parse_game bs) c.args.out.now c.if-not-is_game.ensures in
    record { size = h.0; exact = exact bs _ (below_from bs (λ i. (c.type_inv.game i).fits)) h.0; text = h.1 }

pub returns : goal.returns
returns c =
    let bs : List ℕ = c.args.game.now in
    let all = below_from bs (λ i. (c.type_inv.game i).fits) in
    let h =
    game_printed (parse_game bs) refl c.if-not-is_game.ensures (omega arith)
    (λ g e. let back = game_writes_back bs g all e in c.put_game.ensures g back.0 back.1) in
    let text = h.1 in
    let same = h.2 in
    record { size = h.0; exact = exact bs _ all h.0; text = search rules }
