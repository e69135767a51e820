use Rattle.laws.proofs.Refusals.{refused_changes_nothing}
use Rattle.laws.proofs.refused_changes_nothing.Goals as goal

pub returns : goal.returns
returns c = refused_changes_nothing
