use Rattle.laws.proofs.Replies.{each_call_answered}
use Rattle.laws.proofs.each_call_answered.Goals as goal

pub returns : goal.returns
returns c = each_call_answered
