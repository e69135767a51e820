use Rattle.std.proofs.Common.{arith}
use Rattle.rows.specs.Layout.{game_at}
use Rattle.tables.proofs.Rows.{cell_written, no_cell, cells_written}
use Rattle.tables.proofs.records.put_start.Goals as goal

pub loop-i-init : goal.loop-i-init
loop-i-init c = no_cell (game_at c.args.rules.now) c.args.cells.now

pub loop-i-preserved : goal.loop-i-preserved
loop-i-preserved c =
    cell_written (game_at c.args.rules.now) c.loop-i.cells c.loop-i.i c.start_cell.result (omega arith) c.loop-i.invariant c.start_cell.ensures

pub returns : goal.returns
returns c =
    cells_written (game_at c.args.rules.now) c.loop-i.cells c.loop-i.i _ c.loop-i.auto.cells (omega arith) c.loop-i.invariant
