use Rattle.laws.proofs.Effects.{me_is_taken_before}
use Rattle.laws.proofs.me_is_taken_before.Goals as goal

pub returns : goal.returns
returns c = me_is_taken_before
