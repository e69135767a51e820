use Rattle.laws.proofs.Listing.{goes_on_by_a_move}
use Rattle.laws.proofs.goes_on_by_a_move.Goals as goal

pub returns : goal.returns
returns c = goes_on_by_a_move
