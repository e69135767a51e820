use Rattle.tables.proofs.Theorems.{good_games_have_good_sizes}
use Rattle.tables.proofs.plan.good_games_have_good_sizes.Goals as goal

pub returns : goal.returns
returns c = good_games_have_good_sizes
