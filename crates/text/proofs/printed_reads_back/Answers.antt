use Rattle.text.proofs.Calls.{printed_back}
use Rattle.text.proofs.printed_reads_back.Goals as goal

pub returns : goal.returns
returns c = printed_back
