use Rattle.std.proofs.Common.{◌≡◌, ◌*◌, ◌<◌, ◌≤◌, Bool, not, ◌||◌, length, drop, is_some, ap, ◌∙◌, arith}
use Rattle.std.proofs.lemmas.Grind.{common_steps}
use Rattle.std.proofs.lemmas.List.{take_rest}
use Rattle.wire.specs.Exprs.{read_exprs}
use Rattle.wire.specs.GamesWalk.{behind}
use Rattle.wire.proofs.GamesWhole.{no_game, no_players, no_cell_count, no_cells, no_rule_count, no_rules, no_last, left_over, game_found}
use Rattle.wire.proofs.walks.walk_game.Goals as goal
use Rattle.wire.proofs.walks.walk_game.Goals.{then-of_rules, else-of_rules}

pub returns-in_err-players : goal.returns-in_err-players
returns-in_err-players c = c.from_residual.ensures ∙ no_game c.args.bytes.now (no_players c.args.bytes.now c.in_err-players.ensures.cases)

pub returns-in_err-cells : goal.returns-in_err-cells
returns-in_err-cells c =
    c.from_residual-in_err-cells.ensures
    ∙ no_game c.args.bytes.now (no_cell_count c.args.bytes.now c.in_ok-players.rest.now c.in_ok-players.players.now c.in_ok-players.ensures.cases.0 c.in_err-cells.ensures.read)

pub returns-in_err-rest : goal.returns-in_err-rest
returns-in_err-rest c =
    let short : length c.in_ok-cells.rest.now < 2 * c.in_ok-cells.cells = grind (arith, common_steps) in
    c.from_residual-in_err-rest.ensures
    ∙ no_game c.args.bytes.now (no_cells c.args.bytes.now c.in_ok-players.rest.now c.in_ok-players.players.now c.in_ok-players.ensures.cases.0 c.in_ok-cells.rest.now c.in_ok-cells.cells c.in_ok-cells.ensures.read short)

pub returns-in_err-rules : goal.returns-in_err-rules
returns-in_err-rules c =
    let r₂ = c.in_ok-cells.rest.now in
    let place = c.in_ok-rest.ensures.lookup.0 in
    let long : 2 * c.in_ok-cells.cells ≤ length r₂ = omega (arith, c.from.ensures, place.0) in
    let cells = place.2 ∙ take_rest r₂ (2 * c.from.result) ∙ ap (λ n. drop (2 * n) r₂) c.from.ensures in
    c.from_residual-in_err-rules.ensures
    ∙ no_game c.args.bytes.now (no_rule_count c.args.bytes.now c.in_ok-players.rest.now c.in_ok-players.players.now c.in_ok-players.ensures.cases.0 c.in_ok-cells.rest.now c.in_ok-cells.cells c.in_ok-cells.ensures.read c.in_ok-rest.rest.now long cells c.in_err-rules.ensures.cases)

pub returns-in_err-of_rules : goal.returns-in_err-of_rules
returns-in_err-of_rules c =
    let r₂ = c.in_ok-cells.rest.now in
    let place = c.in_ok-rest.ensures.lookup.0 in
    let long : 2 * c.in_ok-cells.cells ≤ length r₂ = omega (arith, c.from.ensures, place.0) in
    let cells = place.2 ∙ take_rest r₂ (2 * c.from.result) ∙ ap (λ n. drop (2 * n) r₂) c.from.ensures in
    c.from_residual-in_err-of_rules.ensures
    ∙ no_game c.args.bytes.now (no_rules c.args.bytes.now c.in_ok-players.rest.now c.in_ok-players.players.now c.in_ok-players.ensures.cases.0 c.in_ok-cells.rest.now c.in_ok-cells.cells c.in_ok-cells.ensures.read c.in_ok-rest.rest.now long cells c.in_ok-rules.rest.now c.in_ok-rules.rules.now c.in_ok-rules.ensures.cases.0 c.in_err-of_rules.ensures.read)

pub returns-in_err-parts : goal.returns-in_err-parts
returns-in_err-parts c =
    let r₂ = c.in_ok-cells.rest.now in
    let place = c.in_ok-rest.ensures.lookup.0 in
    let long : 2 * c.in_ok-cells.cells ≤ length r₂ = omega (arith, c.from.ensures, place.0) in
    let cells = place.2 ∙ take_rest r₂ (2 * c.from.result) ∙ ap (λ n. drop (2 * n) r₂) c.from.ensures in
    c.from_residual-in_err-parts.ensures
    ∙ no_game c.args.bytes.now (no_last c.args.bytes.now c.in_ok-players.rest.now c.in_ok-players.players.now c.in_ok-players.ensures.cases.0 c.in_ok-cells.rest.now c.in_ok-cells.cells c.in_ok-cells.ensures.read c.in_ok-rest.rest.now long cells c.in_ok-rules.rest.now c.in_ok-rules.rules.now c.in_ok-rules.ensures.cases.0 c.in_ok-of_rules.last.now c.in_ok-of_rules.of_rules c.in_ok-of_rules.ensures.read c.in_err-parts.ensures.read)

pub returns-then-not-is_empty : goal.returns-then-not-is_empty
returns-then-not-is_empty c =
    let r₂ = c.in_ok-cells.rest.now in
    let place = c.in_ok-rest.ensures.lookup.0 in
    let long : 2 * c.in_ok-cells.cells ≤ length r₂ = omega (arith, c.from.ensures, place.0) in
    let cells = place.2 ∙ take_rest r₂ (2 * c.from.result) ∙ ap (λ n. drop (2 * n) r₂) c.from.ensures in
    let more : 0 < length c.in_ok-parts.rest.now = grind (arith, common_steps) in
    left_over c.args.bytes.now c.in_ok-players.rest.now c.in_ok-players.players.now c.in_ok-players.ensures.cases.0 c.in_ok-cells.rest.now c.in_ok-cells.cells c.in_ok-cells.ensures.read c.in_ok-rest.rest.now long cells c.in_ok-rules.rest.now c.in_ok-rules.rules.now c.in_ok-rules.ensures.cases.0 c.in_ok-of_rules.last.now c.in_ok-of_rules.of_rules c.in_ok-of_rules.ensures.read c.in_ok-parts.rest.now c.in_ok-parts.parts c.in_ok-parts.ensures.read more

pub returns : goal.returns
returns c =
    let r₂ = c.in_ok-cells.rest.now in
    let place = c.in_ok-rest.ensures.lookup.0 in
    let long : 2 * c.in_ok-cells.cells ≤ length r₂ = omega (arith, c.from.ensures, place.0) in
    let cells = place.2 ∙ take_rest r₂ (2 * c.from.result) ∙ ap (λ n. drop (2 * n) r₂) c.from.ensures in
    let end : length c.in_ok-parts.rest.now ≡ 0 = grind (arith, common_steps) in
    let deep : Bool = c.in_ok-of_rules.of_rules.deep || not (is_some (behind 33 (read_exprs 2 c.in_ok-of_rules.last.now))) in
    let is : c.if-of_rules.totals ≡ deep =
    elim c.if-of_rules.branch [ then-of_rules w ↦ grind (arith, common_steps) | else-of_rules w ↦ grind (arith, common_steps) ] in
    game_found c.args.bytes.now c.in_ok-players.rest.now c.in_ok-players.players.now c.in_ok-players.ensures.cases.0 c.in_ok-cells.rest.now c.in_ok-cells.cells c.in_ok-cells.ensures.read c.in_ok-rest.rest.now long cells c.in_ok-rules.rest.now c.in_ok-rules.rules.now c.in_ok-rules.ensures.cases.0 c.in_ok-of_rules.last.now c.in_ok-of_rules.of_rules c.in_ok-of_rules.ensures.read c.in_ok-parts.rest.now c.in_ok-parts.parts c.in_ok-parts.ensures.read c.if-of_rules.totals end is
