use Rattle.std.proofs.Common.{◌≡◌, ◌+◌, ◌≤◌, length}
use Rattle.wire.specs.Exprs.{read_exprs}
use Rattle.wire.specs.GamesWalk.{as_read, exprs_parts}
use Rattle.wire.proofs.GamesSkip.{tallied}
use Rattle.wire.proofs.walks.pass_exprs.Given as goal

-- what is still to come gives the result, and each part that was passed took a byte
abbrev pub invariant-loop-pending : goal.invariant-loop-pending
invariant-loop-pending l = record {
  read : tallied l.parts (read_exprs l.pending l.rest) ≡ as_read exprs_parts (read_exprs l.count l.bytes);
  few : l.parts + length l.rest ≤ length l.bytes;
}

abbrev pub decreases-loop-pending : goal.decreases-loop-pending
decreases-loop-pending l = length l.rest
