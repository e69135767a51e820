use Rattle.std.proofs.Common.{arith}
use Rattle.tables.proofs.Opened.{many, large, both_good, fitting}
use Rattle.tables.proofs.plan.sizes_for.Goals as goal

pub returns-then-not-are_good : goal.returns-then-not-are_good
returns-then-not-are_good c = many c.args.limits c.args.size c.if-not-are_good.ensures

pub returns-then-not-small : goal.returns-then-not-small
returns-then-not-small c = large c.args.limits c.args.size c.if-not-small.ensures

pub overflow_mul-result : goal.overflow_mul-result
overflow_mul-result c =
    let f = fitting c.args.limits c.args.size c.if-not-are_good.ensures c.if-not-small.ensures in
    omega arith

pub overflow_add-result-2 : goal.overflow_add-result-2
overflow_add-result-2 c =
    let f = fitting c.args.limits c.args.size c.if-not-are_good.ensures c.if-not-small.ensures in
    omega arith

pub overflow_add-result-3 : goal.overflow_add-result-3
overflow_add-result-3 c =
    let f = fitting c.args.limits c.args.size c.if-not-are_good.ensures c.if-not-small.ensures in
    omega arith

pub overflow_mul-result-4 : goal.overflow_mul-result-4
overflow_mul-result-4 c =
    let f = fitting c.args.limits c.args.size c.if-not-are_good.ensures c.if-not-small.ensures in
    omega arith

pub overflow_add-result-5 : goal.overflow_add-result-5
overflow_add-result-5 c =
    let f = fitting c.args.limits c.args.size c.if-not-are_good.ensures c.if-not-small.ensures in
    omega arith

pub returns : goal.returns
returns c =
    simp c.words_needed.ensures (both_good c.args.limits c.args.size c.if-not-are_good.ensures c.if-not-small.ensures)
