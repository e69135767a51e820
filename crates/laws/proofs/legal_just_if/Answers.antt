use Rattle.laws.proofs.Legal.{legal_just_if}
use Rattle.laws.proofs.legal_just_if.Goals as goal

pub returns : goal.returns
returns c = legal_just_if
