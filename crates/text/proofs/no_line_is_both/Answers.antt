use Rattle.text.proofs.RawLines.{not_both_sorts}
use Rattle.text.proofs.no_line_is_both.Goals as goal

pub returns : goal.returns
returns c = not_both_sorts
