use Rattle.wire.proofs.CallBytes.{reads_back}
use Rattle.wire.proofs.calls.call_reads_back.Goals as goal

pub returns : goal.returns
returns c = reads_back
