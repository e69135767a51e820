use Rattle.std.proofs.Common.{rules}
use Rattle.tables.specs.Layout.{good_size}
use Rattle.tables.proofs.plan.small.Goals as goal

pub returns-then-size-gt4 : goal.returns-then-size-gt4
unfolding good_size
returns-then-size-gt4 c = search rules

pub returns-then-size-le4096 : goal.returns-then-size-le4096
unfolding good_size
returns-then-size-le4096 c = search rules

pub returns-else-size-le4096 : goal.returns-else-size-le4096
unfolding good_size
returns-else-size-le4096 c = search rules
