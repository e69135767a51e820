use Rattle.std.proofs.Common.{◌≡◌, ◌-◌, length}
use Rattle.wire.specs.Games.{read_rules}
use Rattle.wire.specs.GamesWalk.{as_read, Few, totals_of}
use Rattle.wire.proofs.GamesRules.{added}
use Rattle.wire.proofs.walks.walk_rules.Given as goal

abbrev pub invariant-loop-rule : goal.invariant-loop-rule
invariant-loop-rule l = record {
  read : added l.totals l.rule (read_rules (l.count - l.rule) l.rest) ≡ as_read (totals_of 0) (read_rules l.count l.bytes);
  few : Few l.rule l.totals (length l.bytes) (length l.rest);
}
