use Rattle.std.proofs.Common.{arith}
use Rattle.tables.proofs.Rows.{clocks_written}
use Rattle.tables.proofs.records.put_clocks.Goals as goal

pub returns : goal.returns
returns c =
    clocks_written c.args.players _ c.args.ticks c.args.clocks.now c.fill.new.self c.fill-2.new.self
    c.requires.four c.requires.few (omega arith) (c.fill.ensures.after (λ y e. e)) (c.fill-2.ensures.after (λ y e. e))
