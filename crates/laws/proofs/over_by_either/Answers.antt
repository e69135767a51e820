use Rattle.laws.proofs.Replies.{over_by_either}
use Rattle.laws.proofs.over_by_either.Goals as goal

pub returns : goal.returns
returns c = over_by_either
