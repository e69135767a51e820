use Rattle.wire.proofs.GamesRead.{game_reads_back}
use Rattle.wire.proofs.games.game_reads_back.Goals as goal

pub returns : goal.returns
returns c = game_reads_back
