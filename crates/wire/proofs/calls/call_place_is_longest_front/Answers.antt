use Rattle.wire.proofs.CallBytes.{longest_front}
use Rattle.wire.proofs.calls.call_place_is_longest_front.Goals as goal

pub returns : goal.returns
returns c = longest_front
