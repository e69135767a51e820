use Rattle.std.proofs.Common.{◌≡◌}
use Rattle.rows.specs.Layout.{game_at}
use Rattle.play.specs.Cursor.{rules_from}
use Rattle.play.proofs.position.Position.next_rule.Given as goal

-- no move so far: the moves that are left are all of them
abbrev pub invariant-loop-number : goal.invariant-loop-number
invariant-loop-number l =
    rules_from (game_at l.self.rules.now) l.self.cells.now l.number ≡ rules_from (game_at l.self.rules.now) l.self.cells.now l.from
