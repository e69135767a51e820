use Rattle.wire.proofs.GamesFit.{good_games_fit}
use Rattle.wire.proofs.games.good_games_fit.Goals as goal

pub returns : goal.returns
returns c = good_games_fit
