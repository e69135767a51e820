use Rattle.std.proofs.Common.{arith}
use Rattle.printing.proofs.Rows.{left_all}
use Rattle.printing.proofs.Heads.{heads_more, heads_end}
use Rattle.printing.proofs.games.put_exprs.Goals as goal

pub loop-pending-init : goal.loop-pending-init
loop-pending-init c = (omega arith, left_all c.args.writer.now)

pub overflow_add-pending : goal.overflow_add-pending
overflow_add-pending c = omega (arith, c.put_head-parts.ensures.few, c.loop-pending.invariant.0)

pub loop-pending-preserved : goal.loop-pending-preserved
loop-pending-preserved c = (
  omega (arith, c.put_head-parts.ensures.shorter, c.loop-pending.invariant.0),
  λ es rest e f n. heads_more c.loop-pending-test.true c.put_head-parts.ensures.text (c.loop-pending.invariant.1 es rest e f n),
)

pub returns-else-pending-rest : goal.returns-else-pending-rest
returns-else-pending-rest c = λ es rest e f n. heads_end (λ h. omega arith) (c.loop-pending.invariant.1 es rest e f n)

pub returns-after-loop-pending : goal.returns-after-loop-pending
returns-after-loop-pending c = λ es rest e f n. heads_end (λ h. omega arith) (c.loop-pending.invariant.1 es rest e f n)
