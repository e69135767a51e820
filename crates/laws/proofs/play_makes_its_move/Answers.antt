use Rattle.laws.proofs.Replies.{play_makes_its_move}
use Rattle.laws.proofs.play_makes_its_move.Goals as goal

pub returns : goal.returns
returns c = play_makes_its_move
