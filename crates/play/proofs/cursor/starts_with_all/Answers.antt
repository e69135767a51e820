use Rattle.play.proofs.Steps.{starts_with_all}
use Rattle.play.proofs.cursor.starts_with_all.Goals as goal

pub returns : goal.returns
returns c = starts_with_all
