use Rattle.wire.proofs.GamesDeep.{deep_is_deep}
use Rattle.wire.proofs.excesses.deep_is_deep.Goals as goal

pub returns : goal.returns
returns c = deep_is_deep
