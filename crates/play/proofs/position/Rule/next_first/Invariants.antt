use Rattle.std.proofs.Common.{◌≡◌}
use Rattle.rows.specs.Layout.{game_at}
use Rattle.play.specs.Cursor.{firsts_from}
use Rattle.play.proofs.position.Rule.next_first.Given as goal

-- no move so far: the moves that are left are all of them
abbrev pub invariant-loop-first : goal.invariant-loop-first
invariant-loop-first l =
    firsts_from (game_at l.self.at.rules.now) l.self.at.cells.now l.self.number l.first
    ≡ firsts_from (game_at l.self.at.rules.now) l.self.at.cells.now l.self.number l.from
