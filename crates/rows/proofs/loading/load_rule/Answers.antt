use Rattle.std.proofs.Common.{◌∙◌, arith}
use Rattle.rows.proofs.LoadRule.{no_bytes, no_guard, no_count, no_room, no_others, rule_placed}
use Rattle.rows.proofs.loading.load_rule.Goals as goal

pub returns-in_err-rest : goal.returns-in_err-rest
returns-in_err-rest c =
    rw c.from_residual.ensures (λ u q before there. no_bytes c.args.bytes.now c.args.at _ u q c.in_err-rest.ensures.cases there)

pub returns-in_err-guard : goal.returns-in_err-guard
returns-in_err-guard c =
    let front = c.in_ok-rest.ensures.cases in
    rw c.from_residual-in_err-guard.ensures (λ u q before there.
    no_guard c.args.bytes.now c.args.at c.args.row c.args.rules.now _ front.0 front.2 u q before there c.load_exprs.new.rules c.in_err-guard.ensures)

pub returns-in_err-count : goal.returns-in_err-count
returns-in_err-count c =
    let front = c.in_ok-rest.ensures.cases in
    rw c.from_residual-in_err-count.ensures (λ u q before there.
    no_count c.args.bytes.now c.args.at c.args.row c.args.rules.now _ front.0 front.2 u q before there _ c.in_ok-guard.guard (omega arith)
    c.in_ok-guard.ensures c.in_err-count.ensures.cases)

pub returns-in_err-checked_add : goal.returns-in_err-checked_add
returns-in_err-checked_add c =
    let front = c.in_ok-rest.ensures.cases in
    let first = c.in_ok-count.ensures.cases in
    rw c.from_residual-in_err-checked_add.ensures (λ u q before there.
    no_room c.args.bytes.now c.args.at c.args.row c.args.rules.now _ front.0 front.2 u q before there _ c.in_ok-guard.guard (omega arith)
    c.in_ok-guard.ensures c.from-count.result _ _ c.from-count.ensures first.0 (omega (arith, c.in_err-checked_add.ensures)))

pub returns-in_err-end : goal.returns-in_err-end
returns-in_err-end c =
    let front = c.in_ok-rest.ensures.cases in
    let first = c.in_ok-count.ensures.cases in
    rw c.from_residual-in_err-end.ensures (λ u q before there.
    no_others c.args.bytes.now c.args.at c.args.row c.args.rules.now _ front.0 front.2 u q before there _ c.in_ok-guard.guard (omega arith)
    c.in_ok-guard.ensures c.from-count.result _ _ c.from-count.ensures first.0 c.load_exprs-2.new.rules _
    c.in_ok-checked_add.ensures.1 c.in_err-end.ensures)

pub returns : goal.returns
returns c =
    let front = c.in_ok-rest.ensures.cases in
    let first = c.in_ok-count.ensures.cases in
    λ u q before there.
    rule_placed c.args.bytes.now c.args.at c.args.row c.args.rules.now _ front.0 front.2 u q before there _ c.in_ok-guard.guard (omega arith)
    c.in_ok-guard.ensures c.from-count.result _ _ c.from-count.ensures first.0 _ _ c.in_ok-end.end _ _ _ c.in_ok-checked_add.ensures.1 (omega arith)
    (c.from.ensures ∙ c.two_bytes.ensures.value) (c.from-2.ensures ∙ c.two_bytes-2.ensures.value) c.in_ok-end.ensures c.put_rule.ensures
