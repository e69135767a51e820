use Rattle.std.proofs.Common.{◌-◌, List}
use Rattle.rules.specs.Rules.{Expr}
use Rattle.eval.proofs.Loading.{Parts}
use Rattle.eval.proofs.+load_within.Given as goal

abbrev pub decreases-load_within : goal.decreases-load_within
decreases-load_within l = l.levels

-- the parts that were loaded
abbrev pub invariant-loop-place : goal.invariant-loop-place
invariant-loop-place l =
    (es : List Expr) × Parts l.bytes l.initial.rules (l.levels - 1) l.at l.place-index l.used l.next l.place-items l.rules es
