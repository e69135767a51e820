use Rattle.laws.proofs.Replies.{asking_changes_nothing}
use Rattle.laws.proofs.asking_changes_nothing.Goals as goal

pub returns : goal.returns
returns c = asking_changes_nothing
