use Rattle.wire.proofs.GamesBack.{game_writes_back}
use Rattle.wire.proofs.games.game_writes_back.Goals as goal

pub returns : goal.returns
returns c = game_writes_back
