use Rattle.text.proofs.RawLines.{longer_of_both}
use Rattle.text.proofs.longest_front_of_both.Goals as goal

pub returns : goal.returns
returns c = longer_of_both
