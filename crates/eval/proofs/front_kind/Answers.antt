use Rattle.std.proofs.Common.{refl, arith}
use Rattle.std.proofs.lemmas.Result.{err_from_is_err_and}
use Rattle.eval.proofs.Loading.{nothing, too_short, unknown_kind}
use Rattle.eval.proofs.front_kind.Goals as goal

pub returns-in_err-byte : goal.returns-in_err-byte
returns-in_err-byte c =
    let p = err_from_is_err_and c.from_residual.result c.from_residual.ensures.1 in
    rw (p.1, p.2) (grind (arith, c.in_err-byte.ensures), nothing c.args.bytes.now (grind (arith, c.in_err-byte.ensures)))

pub returns-in_err-kind : goal.returns-in_err-kind
returns-in_err-kind c =
    let p = err_from_is_err_and c.from_residual-in_err-kind.result c.from_residual-in_err-kind.ensures.1 in
    rw (p.1, p.2) (refl, unknown_kind c.args.bytes.now (grind (arith, c.in_err-kind.ensures)))

pub returns-then-bytes-width : goal.returns-then-bytes-width
returns-then-bytes-width c =
    (refl, too_short c.args.bytes.now _ _ (grind (arith, c.in_ok-kind.ensures)) (grind arith) c.if-bytes-width.true c.width.ensures.number c.width.ensures.other)
