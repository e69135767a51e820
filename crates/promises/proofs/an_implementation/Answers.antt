use Rattle.promises.proofs.Witness.{an_implementation}
use Rattle.promises.proofs.an_implementation.Goals as goal

pub returns : goal.returns
returns c = an_implementation
