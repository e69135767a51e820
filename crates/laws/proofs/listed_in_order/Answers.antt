use Rattle.laws.proofs.Listing.{listed_in_order}
use Rattle.laws.proofs.listed_in_order.Goals as goal

pub returns : goal.returns
returns c = listed_in_order
