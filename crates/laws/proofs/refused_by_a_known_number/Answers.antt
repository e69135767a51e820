use Rattle.laws.proofs.Refusals.{refused_by_a_known_number}
use Rattle.laws.proofs.refused_by_a_known_number.Goals as goal

pub returns : goal.returns
returns c = refused_by_a_known_number
