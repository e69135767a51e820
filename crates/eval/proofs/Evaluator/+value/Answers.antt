use Rattle.std.proofs.Common.{ℕ, ◌-◌}
use Rattle.eval.proofs.Values.{meant, no_level, by_row, min_capped, no_factor, if_zero, if_other}
use Rattle.eval.specs.Memory.{expr_within}
use Rattle.eval.proofs.Evaluator.+value.Goals as goal
use Rattle.eval.proofs.Evaluator.+value.Goals.{then-value-eq0, else-value-eq0}

pub returns-then-levels-eq0 : goal.returns-then-levels-eq0
returns-then-levels-eq0 t c = no_level c.args.self.now _ _ c.if-levels-eq0.true

pub returns-in-Num : goal.returns-in-Num
returns-in-Num t c = cc (min_capped c.row_at-kind.result.a, by_row c.args.self.now _ _ _ c.row_at-kind.ensures c.if-levels-eq0.false c.in-Num.is)

pub returns-in-Cell : goal.returns-in-Cell
returns-in-Cell t c = cc (by_row c.args.self.now _ _ _ c.row_at-kind.ensures c.if-levels-eq0.false c.in-Cell.is)

pub returns-in-First : goal.returns-in-First
returns-in-First t c = cc (by_row c.args.self.now _ _ _ c.row_at-kind.ensures c.if-levels-eq0.false c.in-First.is)

pub returns-in-Second : goal.returns-in-Second
returns-in-Second t c = cc (by_row c.args.self.now _ _ _ c.row_at-kind.ensures c.if-levels-eq0.false c.in-Second.is)

pub returns-in-Me : goal.returns-in-Me
returns-in-Me t c = cc (by_row c.args.self.now _ _ _ c.row_at-kind.ensures c.if-levels-eq0.false c.in-Me.is)

pub returns-in-Add : goal.returns-in-Add
returns-in-Add t c = cc (by_row c.args.self.now _ _ _ c.row_at-kind.ensures c.if-levels-eq0.false c.in-Add.is)

pub returns-in-Sub : goal.returns-in-Sub
returns-in-Sub t c = cc (by_row c.args.self.now _ _ _ c.row_at-kind.ensures c.if-levels-eq0.false c.in-Sub.is)

pub returns-in-Div : goal.returns-in-Div
returns-in-Div t c = cc (by_row c.args.self.now _ _ _ c.row_at-kind.ensures c.if-levels-eq0.false c.in-Div.is)

pub returns-in-Rem : goal.returns-in-Rem
returns-in-Rem t c = cc (by_row c.args.self.now _ _ _ c.row_at-kind.ensures c.if-levels-eq0.false c.in-Rem.is)

pub returns-in-Lt : goal.returns-in-Lt
returns-in-Lt t c = cc (by_row c.args.self.now _ _ _ c.row_at-kind.ensures c.if-levels-eq0.false c.in-Lt.is)

pub returns-in-Eq : goal.returns-in-Eq
returns-in-Eq t c = cc (by_row c.args.self.now _ _ _ c.row_at-kind.ensures c.if-levels-eq0.false c.in-Eq.is)

pub returns-then-x-eq0 : goal.returns-then-x-eq0
returns-then-x-eq0 t c = no_factor _ c.value-x.ensures c.if-x-eq0.true (by_row c.args.self.now _ _ _ c.row_at-kind.ensures c.if-levels-eq0.false c.in-Mul.is)

pub returns-else-x-eq0 : goal.returns-else-x-eq0
returns-else-x-eq0 t c = cc (by_row c.args.self.now _ _ _ c.row_at-kind.ensures c.if-levels-eq0.false c.in-Mul.is)

pub returns-after-value-eq0 : goal.returns-after-value-eq0
returns-after-value-eq0 t c =
    let s = c.args.self.now in
    let row = c.row_at-kind.result in
    let part : ℕ → ℕ = λ i. meant s (expr_within (c.args.levels - 1) s.rules.now i) in
    let whole = by_row s _ _ _ c.row_at-kind.ensures c.if-levels-eq0.false c.in-If.is in
    elim c.if-value-eq0.branch [
      | then-value-eq0 w ↦ if_zero part row.a row.b row.c c.value-in-If-2.ensures w.chosen-is c.value-in-If.ensures w.if-value-eq0.true whole
      | else-value-eq0 w ↦ if_other part row.a row.b row.c c.value-in-If-2.ensures w.chosen-is c.value-in-If.ensures w.if-value-eq0.false whole
    ]
