use Rattle.text.proofs.RawLines.{one_bytes}
use Rattle.text.proofs.one_bytes_a_line.Goals as goal

pub returns : goal.returns
returns c = one_bytes
