use Rattle.std.proofs.Common.{arith}
use Rattle.rows.specs.Layout.{game_at}
use Rattle.tables.proofs.Rows.{truth_word, record_written}
use Rattle.tables.proofs.records.put_record.Goals as goal

pub returns : goal.returns
returns c =
    record_written (game_at c.args.rules.now) c.args.cells _ _ _ _ c.args.players c.args.ticks c.args.at c.from.result c.from-2.result
    c.is_over-over.result c.args.row.now c.put_start.new.cells c.put_clocks.new.clocks c.copy_from_slice.new.self
    c.requires.long c.requires.four (omega arith) (omega arith) (omega arith) (omega arith) c.put_start.ensures c.is_over-over.ensures c.put_clocks.ensures
    (truth_word _ c.from.ensures) (truth_word _ c.from-2.ensures) c.copy_from_slice.ensures.after
