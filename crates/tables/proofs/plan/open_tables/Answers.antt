use Rattle.std.proofs.Common.{is_some, sym, ap, ◌∙◌, arith, rules}
use borrow.Rule.Slice.PartMut.{put_mid}
use Rattle.tables.proofs.Opened.{not_opened, too_short, opens, words_fit, header_written}
use Rattle.tables.proofs.plan.open_tables.Goals as goal

pub returns-in_err-sizes : goal.returns-in_err-sizes
returns-in_err-sizes c =
    let e = not_opened c.args.limits c.args.size c.args.state.now c.in_err-sizes.ensures in
    record { after = sym (ap (λ o. o.0) e); could = ap is_some c.from_residual.ensures ∙ sym (ap (λ o. o.1) e) }

pub returns-then-state-sizes : goal.returns-then-state-sizes
returns-then-state-sizes c =
    let e = too_short c.args.limits c.args.size c.args.state.now c.in_ok-sizes.sizes c.in_ok-sizes.ensures c.if-state-sizes.true in
    record { after = sym (ap (λ o. o.0) e); could = sym (ap (λ o. o.1) e) }

pub overflow_cast-header : goal.overflow_cast-header
overflow_cast-header c =
    let f = words_fit c.args.limits c.args.size c.in_ok-sizes.sizes c.in_ok-sizes.ensures in
    omega arith

pub overflow_cast-header-2 : goal.overflow_cast-header-2
overflow_cast-header-2 c =
    let f = words_fit c.args.limits c.args.size c.in_ok-sizes.sizes c.in_ok-sizes.ensures in
    omega arith

pub overflow_cast-header-3 : goal.overflow_cast-header-3
overflow_cast-header-3 c =
    let f = words_fit c.args.limits c.args.size c.in_ok-sizes.sizes c.in_ok-sizes.ensures in
    omega arith

pub slice_bounds-copy_from_slice-end : goal.slice_bounds-copy_from_slice-end
slice_bounds-copy_from_slice-end c =
    let f = words_fit c.args.limits c.args.size c.in_ok-sizes.sizes c.in_ok-sizes.ensures in
    search rules

pub returns : goal.returns
returns c =
    let e = opens c.args.limits c.args.size c.args.state.now c.in_ok-sizes.sizes c.in_ok-sizes.ensures c.if-state-sizes.false in
    let h = header_written c.args.limits c.args.size c.args.state.now c.in_ok-sizes.sizes c.in_ok-sizes.ensures in
    record { after = ap (λ x. put_mid 0 16 c.args.state.now x) c.copy_from_slice.ensures.after ∙ (h ∙ sym (ap (λ o. o.0) e)); could = sym (ap (λ o. o.1) e) }
