use Rattle.std.proofs.Common.{◌+◌, ◌-◌, Some, None, length, take, drop, refl, arith}
use Rattle.std.proofs.lemmas.List.{take_rest}
use Rattle.rows.specs.declared.loading.End.{End}
use Rattle.rows.proofs.LoadPlaced.{no_exprs, as_ok, not_refused, exprs_next, exprs_counted}
use Rattle.rows.proofs.loading.load_exprs.Goals as goal

pub returns-in_err-used : goal.returns-in_err-used
returns-in_err-used c =
    rw c.from_residual.ensures (c.loop-i.invariant c.load_expr.new.rules None (λ es q before there.
    not_refused c.loop-i.end.rest.now _ (c.args.table + c.loop-i.i) _ c.loop-i.rules c.load_expr.new.rules (omega arith) (omega arith) es q before there _
    c.in_err-used.ensures.value c.load_expr.ensures))

pub loop-i-preserved : goal.loop-i-preserved
loop-i-preserved c =
    let one = c.in_ok-used.field-0 in
    let bytes = c.loop-i.end.rest.now in
    let d : End = record c.loop-i.end { rest = record c.loop-i.end.rest { now = take (length bytes - one.used) (drop one.used bytes) }; next = one.root + 4 } in
    λ zs r more. c.loop-i.invariant zs r
    (exprs_next bytes (c.args.count - c.loop-i.i) (c.args.table + c.loop-i.i) _ c.loop-i.rules c.load_expr.new.rules zs one d r (omega arith) (omega arith)
    (as_ok _ one c.in_ok-used.ensures.value c.load_expr.ensures) (take_rest bytes one.used) refl
    (exprs_counted d.rest.now zs d.next r (omega arith) c.put.ensures (omega arith) more))

pub returns : goal.returns
returns c = c.loop-i.invariant _ (Some c.loop-i.end) (no_exprs _ _ _ c.loop-i.end (omega arith))
