use Rattle.std.proofs.Common.{◌+◌, ◌-◌, ◌*◌, Some, None, arith}
use Rattle.rows.proofs.LoadRules.{no_rules, not_refused, rules_next, rules_counted}
use Rattle.rows.proofs.loading.load_rules.Goals as goal

pub returns-in_err-end : goal.returns-in_err-end
returns-in_err-end c =
    rw c.from_residual.ensures (c.loop-i.invariant c.load_rule.new.rules None (λ us q before there.
    not_refused c.loop-i.end.rest.now _ (c.args.row + 5 * c.loop-i.i) _ c.loop-i.rules (omega arith) us q before there c.load_rule.new.rules
    c.in_err-end.ensures))

pub loop-i-preserved : goal.loop-i-preserved
loop-i-preserved c =
    let d = c.in_ok-end.end in
    λ zs r more. c.loop-i.invariant zs r
    (rules_next c.loop-i.end.rest.now (c.args.count - c.loop-i.i) (c.args.row + 5 * c.loop-i.i) _ c.loop-i.rules c.load_rule.new.rules zs d r
    (omega arith) (omega arith) c.in_ok-end.ensures (rules_counted d.rest.now c.load_rule.new.rules zs d.next r (omega arith) (omega arith) more))

pub returns : goal.returns
returns c = c.loop-i.invariant _ (Some c.loop-i.end) (no_rules _ _ _ c.loop-i.end (omega arith))
