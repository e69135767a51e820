use Rattle.printing.proofs.Whole.{reads_back}
use Rattle.printing.proofs.games.printed_reads_back.Goals as goal

pub returns : goal.returns
returns c = reads_back
