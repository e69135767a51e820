use Rattle.session.proofs.Asking.{needs_little}
use Rattle.session.proofs.needs_little.Goals as goal

pub returns : goal.returns
returns c = needs_little
