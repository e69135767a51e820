use Rattle.laws.proofs.Listing.{no_move_is_over}
use Rattle.laws.proofs.no_move_is_over.Goals as goal

pub returns : goal.returns
returns c = no_move_is_over
