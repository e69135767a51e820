use Rattle.laws.proofs.Legal.{rules_by_their_place}
use Rattle.laws.proofs.rules_by_their_place.Goals as goal

pub returns : goal.returns
returns c = rules_by_their_place
