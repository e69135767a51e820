use Rattle.std.proofs.Common.{◌≡◌, ◌<◌, length, get_or, ap, ◌∙◌, arith}
use Rattle.std.proofs.lemmas.Grind.{common_steps}
use Rattle.std.proofs.lemmas.List.{take_rest}
use Rattle.wire.specs.Exprs.{got}
use Rattle.wire.specs.Kinds.{kind_number}
use Rattle.wire.specs.GamesWalk.{found}
use Rattle.wire.proofs.GamesHead.{no_head, unknown_head, short_head, head_there}
use Rattle.wire.proofs.walks.read_kind.Goals as goal

pub returns-in_err-first-clause-read : goal.returns-in_err-first-clause-read
returns-in_err-first-clause-read c = ap found c.from_residual.ensures ∙ no_head c.args.bytes.now (grind (arith, common_steps))

pub returns-in_err-kind-clause-read : goal.returns-in_err-kind-clause-read
returns-in_err-kind-clause-read c =
    ap found c.from_residual-in_err-kind.ensures ∙ unknown_head c.args.bytes.now (grind (arith, common_steps))

pub returns-in_err-parts-clause-read : goal.returns-in_err-parts-clause-read
returns-in_err-parts-clause-read c =
    let bs = c.args.bytes.now in
    let is : kind_number c.in_ok-kind.kind ≡ get_or bs 0 0 = grind (arith, common_steps) in
    let some : 0 < length bs = grind (arith, common_steps) in
    let short : length bs < c.width.result = grind (arith, common_steps) in
    ap found c.from_residual-in_err-parts.ensures
    ∙ short_head bs c.in_ok-kind.kind c.width.result is some c.width.ensures.number c.width.ensures.other short

pub returns-clause-read : goal.returns-clause-read
returns-clause-read c =
    let bs = c.args.bytes.now in
    let is : kind_number c.in_ok-kind.kind ≡ get_or bs 0 0 = grind (arith, common_steps) in
    let some : 0 < length bs = grind (arith, common_steps) in
    let parts = c.in_ok-parts.ensures.lookup.0 in
    ap (got c.arity.result) (parts.2 ∙ take_rest bs c.width.result)
    ∙ head_there bs c.in_ok-kind.kind c.width.result is some c.width.ensures.number c.width.ensures.other c.arity.result
    c.arity.ensures.known c.arity.ensures.number parts.0
