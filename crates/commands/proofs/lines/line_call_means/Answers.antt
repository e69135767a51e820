use Rattle.commands.proofs.Meaning.{means}
use Rattle.commands.proofs.lines.line_call_means.Goals as goal

pub returns : goal.returns
returns c = means
