use Rattle.std.proofs.Common.{◌∙◌, arith}
use Rattle.printing.proofs.Rows.{left_all, left_more, left_end}
use Rattle.printing.proofs.games.put_all.Goals as goal

pub loop-init : goal.loop-init
loop-init g c = λ xs rest e f n. left_all c.args.writer.now xs rest e f (n ∙ omega arith)

pub loop-preserved : goal.loop-preserved
loop-preserved g c = λ xs rest e f n. left_more g.P.Part.laws (omega arith) c.put-rest.ensures (c.loop.invariant xs rest e f n)

pub returns : goal.returns
returns g c = λ xs rest e f n. left_end g.P.Part.laws (omega arith) (c.loop.invariant xs rest e f n)
