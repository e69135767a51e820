use Rattle.std.proofs.Common.{take}
use Rattle.printing.specs.Puts.{Wrote}
use Rattle.printing.proofs.writer.Writer.word.Given as goal

abbrev pub invariant-loop-b : goal.invariant-loop-b
invariant-loop-b l = Wrote l.initial.self (take l.b-index l.word) l.self
