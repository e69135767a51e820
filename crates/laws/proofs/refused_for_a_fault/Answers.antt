use Rattle.laws.proofs.Refusals.{refused_for_a_fault}
use Rattle.laws.proofs.refused_for_a_fault.Goals as goal

pub returns : goal.returns
returns c = refused_for_a_fault
