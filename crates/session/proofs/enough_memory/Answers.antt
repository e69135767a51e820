use Rattle.session.proofs.Runs.{enough_memory}
use Rattle.session.proofs.enough_memory.Goals as goal

pub returns : goal.returns
returns c = enough_memory
