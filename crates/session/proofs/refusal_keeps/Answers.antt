use Rattle.session.proofs.Runs.{refusal_keeps}
use Rattle.session.proofs.refusal_keeps.Goals as goal

pub returns : goal.returns
returns c = refusal_keeps
