use Rattle.rules.specs.Play.{legal_moves}
use Rattle.rows.specs.Layout.{game_at}
use Rattle.play.specs.Cursor.{rules_from}
use Rattle.play.proofs.Writes.{Listing}
use Rattle.play.proofs.listing.list_rules.Given as goal

-- the moves so far are written, and those of the rules from this one on are left
abbrev pub invariant-loop-number : goal.invariant-loop-number
invariant-loop-number l =
    Listing (legal_moves (game_at l.rules) l.cells) (rules_from (game_at l.rules) l.cells l.number)
    0 l.initial.answer l.answer l.count
