use Rattle.rows.specs.Layout.{game_at}
use Rattle.play.specs.Cursor.{seconds_from}
use Rattle.play.proofs.Writes.{Listing}
use Rattle.play.proofs.position.Rule.list_seconds.Given as goal

-- the moves so far are written, and those from this second number on are left
abbrev pub invariant-loop-second : goal.invariant-loop-second
invariant-loop-second l =
    Listing (seconds_from (game_at l.self.at.rules.now) l.self.at.cells.now l.self.number l.first 0)
    (seconds_from (game_at l.self.at.rules.now) l.self.at.cells.now l.self.number l.first l.second)
    l.before l.initial.answer l.answer l.count
