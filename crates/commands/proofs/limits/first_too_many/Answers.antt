use Rattle.std.proofs.Common.{arith}
use Rattle.std.proofs.lemmas.Bool.Decides.{nat_tests}
use Rattle.rules.specs.Bounds.{good_limits}
use Rattle.commands.proofs.limits.first_too_many.Goals as goal

pub returns-else-limits-gt-MOST_POSITIONS-clause-good : goal.returns-else-limits-gt-MOST_POSITIONS-clause-good
unfolding good_limits
returns-else-limits-gt-MOST_POSITIONS-clause-good c = grind (arith, nat_tests)

pub returns-then-limits-gt-MOST_TABLES-clause-good : goal.returns-then-limits-gt-MOST_TABLES-clause-good
unfolding good_limits
returns-then-limits-gt-MOST_TABLES-clause-good c = grind (arith, nat_tests)

pub returns-then-limits-gt-MOST_MOVES-clause-good : goal.returns-then-limits-gt-MOST_MOVES-clause-good
unfolding good_limits
returns-then-limits-gt-MOST_MOVES-clause-good c = grind (arith, nat_tests)

pub returns-then-limits-gt-MOST_POSITIONS-clause-good : goal.returns-then-limits-gt-MOST_POSITIONS-clause-good
unfolding good_limits
returns-then-limits-gt-MOST_POSITIONS-clause-good c = grind (arith, nat_tests)
