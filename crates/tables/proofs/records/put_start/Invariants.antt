use Rattle.std.proofs.Common.{◌≡◌, take}
use Rattle.rows.specs.Layout.{game_at}
use Rattle.tables.specs.Changes.{start_cells}
use Rattle.tables.proofs.records.put_start.Given as goal

-- the cells so far
abbrev pub invariant-loop-i : goal.invariant-loop-i
invariant-loop-i l = take l.i l.cells ≡ start_cells (game_at l.rules) l.i
