use Rattle.std.proofs.Common.{◌≡◌, None, Ok, Err, sym, ap, ◌∙◌, arith}
use Rattle.std.specs.Prelude.{is_some}
use Rattle.std.proofs.lemmas.Grind.{common_steps}
use Rattle.wire.proofs.GamesCheck.{below_from}
use Rattle.wire.proofs.GamesExcess.{no_game, not_good, is_good, small_counts}
use Rattle.wire.proofs.games.check_game.Goals as goal

pub returns-in_err-found : goal.returns-in_err-found
returns-in_err-found c =
    let none : None ≡ c.walk_game.result = grind (arith, common_steps) in
    let refused : c.from_residual.result ≡ Err (record { number = 3; place = 0 }) = grind (arith, common_steps) in
    refused ∙ no_game c.args.bytes.now (none ∙ c.walk_game.ensures)

pub returns-then-is_some : goal.returns-then-is_some
returns-then-is_some c =
    let bs = c.args.bytes.now in
    ap Err c.into.ensures
    ∙ not_good bs (below_from bs (λ i. (c.type_inv.bytes i).fits)) c.in_ok-found.found (sym c.in_ok-found.ensures.ok_part ∙ c.walk_game.ensures)
    (ap is_some (sym c.limit_broken.ensures) ∙ sym c.is_some.ensures ∙ c.if-is_some.true)

pub overflow_cast-result : goal.overflow_cast-result
overflow_cast-result c =
    let f = c.in_ok-found.found in
    let small = small_counts f.players f.cells f.rules f.totals.moves f.totals.parts _
    (ap is_some (sym c.limit_broken.ensures) ∙ sym c.is_some.ensures ∙ c.if-is_some.false) in
    omega (arith, small.0)

pub overflow_cast-result-2 : goal.overflow_cast-result-2
overflow_cast-result-2 c =
    let f = c.in_ok-found.found in
    let small = small_counts f.players f.cells f.rules f.totals.moves f.totals.parts _
    (ap is_some (sym c.limit_broken.ensures) ∙ sym c.is_some.ensures ∙ c.if-is_some.false) in
    omega (arith, small.1)

pub returns : goal.returns
returns c =
    let bs = c.args.bytes.now in
    let f = c.in_ok-found.found in
    (λ i. Ok (record {
      players = c.from.ensures i;
      cells = c.from-2.ensures i;
      rules = c.from-3.ensures i;
      effects = f.totals.effects;
      moves = f.totals.moves;
      parts = f.totals.parts;
    }))
    ∙ is_good bs (below_from bs (λ i. (c.type_inv.bytes i).fits)) f (sym c.in_ok-found.ensures.ok_part ∙ c.walk_game.ensures)
    (ap is_some (sym c.limit_broken.ensures) ∙ sym c.is_some.ensures ∙ c.if-is_some.false)
