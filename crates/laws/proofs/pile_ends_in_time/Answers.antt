use Rattle.laws.proofs.Pile.{pile_ends_in_time}
use Rattle.laws.proofs.pile_ends_in_time.Goals as goal

pub returns : goal.returns
returns c = pile_ends_in_time
