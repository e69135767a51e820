use Rattle.laws.proofs.Replies.{stages_grow}
use Rattle.laws.proofs.stages_grow.Goals as goal

pub returns : goal.returns
returns c = stages_grow
