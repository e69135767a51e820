use Rattle.eval.specs.Memory.{expr_at}
use Rattle.eval.proofs.load_expr.Goals as goal

pub returns : goal.returns
unfolding expr_at
returns c = c.load_within.ensures
