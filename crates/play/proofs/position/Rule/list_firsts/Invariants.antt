use Rattle.rows.specs.Layout.{game_at}
use Rattle.play.specs.Cursor.{firsts_from}
use Rattle.play.proofs.Writes.{Listing}
use Rattle.play.proofs.position.Rule.list_firsts.Given as goal

-- the moves so far are written, and those from this first number on are left
abbrev pub invariant-loop-first : goal.invariant-loop-first
invariant-loop-first l =
    Listing (firsts_from (game_at l.self.at.rules.now) l.self.at.cells.now l.self.number 0)
    (firsts_from (game_at l.self.at.rules.now) l.self.at.cells.now l.self.number l.first)
    l.before l.initial.answer l.answer l.count
