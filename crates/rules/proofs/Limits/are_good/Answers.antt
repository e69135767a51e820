use Rattle.std.proofs.Common.{rules}
use Rattle.rules.specs.Bounds.{good_limits}
use Rattle.rules.proofs.Limits.are_good.Goals as goal

pub returns-then-self-le-MOST_MOVES : goal.returns-then-self-le-MOST_MOVES
unfolding good_limits
returns-then-self-le-MOST_MOVES c = search rules

pub returns-else-self-le-MOST_MOVES : goal.returns-else-self-le-MOST_MOVES
unfolding good_limits
returns-else-self-le-MOST_MOVES c = search rules
