use Rattle.game_text.proofs.Answering.{one_game}
use Rattle.game_text.proofs.one_game_a_text.Goals as goal

pub returns : goal.returns
returns c = one_game
