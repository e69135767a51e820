use Rattle.std.proofs.Common.{◌≡◌}
use Rattle.rows.specs.Layout.{game_at}
use Rattle.play.specs.Cursor.{seconds_from}
use Rattle.play.proofs.position.Rule.next_second.Given as goal

-- no move so far: the moves that are left are all of them
abbrev pub invariant-loop-second : goal.invariant-loop-second
invariant-loop-second l =
    seconds_from (game_at l.self.at.rules.now) l.self.at.cells.now l.self.number l.first l.second
    ≡ seconds_from (game_at l.self.at.rules.now) l.self.at.cells.now l.self.number l.first l.from
