use Rattle.std.proofs.Common.{sym}
use Rattle.std.proofs.lemmas.Result.{err_from_is_err_and}
use Rattle.session.specs.Opening.{Lent, lent}
use Rattle.session.proofs.Openings.{refuses, not_needed, too_short, never_unloaded, opens_well}
use Rattle.session.proofs.opening.open.Goals as goal

pub returns-in_err-sizes : goal.returns-in_err-sizes
returns-in_err-sizes c =
    let m : Lent = lent c.args.rules.now c.args.state.now c.args.scratch.now c.args.answer.now in
    let p = err_from_is_err_and c.from_residual.result c.from_residual.ensures.1 in
    rw (p.1, p.2) (refuses c.args.limits c.args.game.now m _ (not_needed c.args.limits c.args.game.now m _ c.in_err-sizes.ensures))

pub returns-then-not-are_long : goal.returns-then-not-are_long
returns-then-not-are_long c =
    let m : Lent = lent c.args.rules.now c.args.state.now c.args.scratch.now c.args.answer.now in
    rw c.into.ensures (refuses c.args.limits c.args.game.now m _
    (too_short c.args.limits c.args.game.now m c.in_ok-sizes.sizes c.in_ok-sizes.ensures (sym c.if-not-are_long.ensures)))

pub returns-in_err-size : goal.returns-in_err-size
returns-in_err-size c =
    let m : Lent = lent c.args.rules.now c.args.state.now c.args.scratch.now c.args.answer.now in
    absurd (never_unloaded c.args.limits c.args.game.now m c.in_ok-sizes.sizes c.in_ok-sizes.ensures
    (sym c.if-not-are_long.ensures) c.load.new.rules _ c.in_err-size.ensures)

pub returns : goal.returns
returns c =
    let m : Lent = lent c.args.rules.now c.args.state.now c.args.scratch.now c.args.answer.now in
    opens_well c.args.limits c.args.game.now m c.in_ok-sizes.sizes c.in_ok-sizes.ensures
    (sym c.if-not-are_long.ensures) c.load.new.rules c.open_tables.new.state c.in_ok-size.size c.in_ok-size.ensures
    c.open_tables.ensures.after c.load.auto.rules c.open_tables.auto.state
