use Rattle.promises.proofs.Every.{every_implementation}
use Rattle.promises.proofs.every_implementation.Goals as goal

pub returns : goal.returns
returns c = every_implementation
