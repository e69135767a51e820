use Rattle.std.proofs.Common.{◌≡◌, ◌-◌, true}
use Rattle.rules.specs.Bounds.{all_below}
use Rattle.wire.specs.Exprs.{read_exprs}
use Rattle.wire.specs.GamesWalk.{behind}
use Rattle.wire.proofs.walks.+pass_shallow.Given as goal

abbrev pub decreases-pass_shallow : goal.decreases-pass_shallow
decreases-pass_shallow l = l.levels

abbrev pub invariant-loop-passed : goal.invariant-loop-passed
invariant-loop-passed l = record {
  read : behind l.levels (read_exprs (l.count - l._passed) l.rest) ≡ behind l.levels (read_exprs l.count l.bytes);
  small : all_below 256 l.rest ≡ true;
}
