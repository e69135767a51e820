use Rattle.std.proofs.Common.{arith}
use Rattle.rows.specs.Layout.{game_at}
use Rattle.rows.proofs.Reading.{rules_are}
use Rattle.play.proofs.Steps.{from_past_rule, from_past_first}
use Rattle.play.proofs.Finding.{begins_like, finds_like, none_of_first, none_of_rule}
use Rattle.play.proofs.cursor.next_move.Goals as goal

pub returns-in_err-rule : goal.returns-in_err-rule
returns-in_err-rule c =
    rw c.from_residual.ensures (from_past_rule (game_at c.args.rules.now) c.args.cells.now c.args.from c.in_err-rule.ensures)

pub overflow_add-from : goal.overflow_add-from
overflow_add-from c =
    let this = c.in_ok-rule.ensures in
    let there = rw (this.0, this.1) at c.in_ok-rule.rule.there in
    omega (arith, rules_are c.args.rules.now, (c.type_inv.rules 2).fits)

pub returns-then-from-rule : goal.returns-then-from-rule
returns-then-from-rule c =
    let this = c.in_ok-rule.ensures in
    let bound = rw (this.0, this.1) at c.in_ok-rule.rule.first_bound in
    finds_like (game_at c.args.rules.now) c.args.cells.now _
    (from_past_first (game_at c.args.rules.now) c.args.cells.now c.args.from (omega arith)) c.next_rule.ensures

pub returns-in-Some-next_first : goal.returns-in-Some-next_first
returns-in-Some-next_first c =
    let this = c.in_ok-rule.ensures in
    begins_like
    (none_of_first (game_at c.args.rules.now) c.args.cells.now c.args.from (rw (this.0, this.1, this.2) at c.in_default.ensures))
    (rw (this.0, this.1, this.2) at c.in-Some-next_first.ensures)

pub overflow_add-from-3 : goal.overflow_add-from-3
overflow_add-from-3 c =
    let this = c.in_ok-rule.ensures in
    let there = rw (this.0, this.1) at c.in_ok-rule.rule.there in
    omega (arith, rules_are c.args.rules.now, (c.type_inv.rules 2).fits)

pub returns : goal.returns
returns c =
    let this = c.in_ok-rule.ensures in
    finds_like (game_at c.args.rules.now) c.args.cells.now _
    (none_of_rule (game_at c.args.rules.now) c.args.cells.now c.args.from (rw (this.0, this.1, this.2) at c.in_default.ensures)
    (rw (this.0, this.1, this.2) at c.in_default-next_first.ensures))
    c.next_rule-2.ensures
