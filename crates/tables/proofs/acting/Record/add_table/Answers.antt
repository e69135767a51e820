use Rattle.std.proofs.Common.{arith}
use Rattle.rows.specs.Layout.{game_at}
use Rattle.tables.proofs.Rows.{table_added}
use Rattle.tables.proofs.acting.Record.add_table.Goals as goal

pub returns-clause-after : goal.returns-clause-after
returns-clause-after c =
    table_added (game_at c.args.rules.now) c.args.state.now c.put_record.new.row c.args.self.now.server.plan c.args.ticks c.args.self.now.at _
    c.requires.next (omega arith) c.put_record.ensures
