use Rattle.std.proofs.Common.{arith}
use Rattle.rows.specs.Layout.{game_at}
use Rattle.tables.proofs.Writes.{move_added}
use Rattle.tables.proofs.acting.Record.add_move.Goals as goal

pub returns : goal.returns
returns c =
    move_added (game_at c.args.rules.now) c.args.state.now c.advance.new.row c.put.new.items c.put_entry.new.state
    c.args.self.now.server.plan c.args.self.now.at _ c.args.entry c.word-link.result c.args.played (omega arith) c.requires.placed c.word-link.ensures
    c.advance.ensures c.put.ensures c.put_entry.ensures
