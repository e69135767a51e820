use Rattle.rows.proofs.EncodingGame.{every_game_has_memory}
use Rattle.rows.proofs.loading.every_game_has_memory.Goals as goal

pub returns : goal.returns
returns c = every_game_has_memory
