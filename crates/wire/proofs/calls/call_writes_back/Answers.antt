use Rattle.wire.proofs.CallBytes.{writes_back}
use Rattle.wire.proofs.calls.call_writes_back.Goals as goal

pub returns : goal.returns
returns c = writes_back
