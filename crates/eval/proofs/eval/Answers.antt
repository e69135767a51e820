use Rattle.eval.specs.Memory.{expr_at}
use Rattle.eval.proofs.eval.Goals as goal

pub returns : goal.returns
unfolding expr_at
returns c = c.value.ensures
