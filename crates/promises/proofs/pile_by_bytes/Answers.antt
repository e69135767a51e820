use Rattle.promises.proofs.PileRun.{pile_by_bytes}
use Rattle.promises.proofs.pile_by_bytes.Goals as goal

pub returns : goal.returns
returns c = pile_by_bytes
