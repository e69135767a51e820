use Rattle.std.proofs.Common.{arith}
use Rattle.rows.specs.Layout.{game_at}
use Rattle.tables.proofs.Rows.{truth_word}
use Rattle.tables.proofs.Writes.{record_advanced}
use Rattle.tables.proofs.records.advance.Goals as goal

pub returns : goal.returns
returns c =
    record_advanced (game_at c.args.rules.now) c.args.cells _ c.saturating_add-count.result c.from.result c.args.last
    c.is_over-over.result c.args.row.now c.apply.new.cells c.args.played c.requires.long (omega arith) c.apply.ensures
    c.is_over-over.ensures (truth_word _ c.from.ensures) c.saturating_add-count.ensures
