use Rattle.std.proofs.Common.{arith}
use Rattle.rows.specs.Layout.{game_at}
use Rattle.play.proofs.Words.{no_such_rule, first_past, second_past}
use Rattle.play.proofs.moves.is_legal.Goals as goal
use Rattle.play.proofs.moves.is_legal.Goals.{then-played-rule-via-then-played-rule, then-played-rule-via-else-played-rule+then-played-rule-2}

pub returns-in_default : goal.returns-in_default
returns-in_default c = no_such_rule (game_at c.args.rules.now) c.args.cells.now c.args.played c.in_default.ensures

pub returns-then-played-rule : goal.returns-then-played-rule
returns-then-played-rule c =
    let this = c.in-Some.ensures in
    let first = rw (this.0, this.1) at c.in-Some.rule.first_bound in
    let second = rw (this.0, this.1) at c.in-Some.rule.second_bound in
    elim c.then-played-rule.branch [
      | then-played-rule-via-then-played-rule w ↦
          first_past (game_at c.args.rules.now) c.args.cells.now c.args.played (omega (arith, w.if-played-rule.true))
      | then-played-rule-via-else-played-rule+then-played-rule-2 w ↦
          second_past (game_at c.args.rules.now) c.args.cells.now c.args.played (omega (arith, w.if-played-rule-2.true))
    ]
