use Rattle.laws.proofs.Replies.{one_call_after_the_other}
use Rattle.laws.proofs.one_call_after_the_other.Goals as goal

pub returns : goal.returns
returns c = one_call_after_the_other
