use Rattle.laws.proofs.Listing.{listed_once}
use Rattle.laws.proofs.listed_once.Goals as goal

pub returns : goal.returns
returns c = listed_once
