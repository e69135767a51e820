use Rattle.text.proofs.Calls.{one_call}
use Rattle.text.proofs.one_call_a_line.Goals as goal

pub returns : goal.returns
returns c = one_call
