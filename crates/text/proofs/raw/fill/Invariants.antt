use Rattle.std.proofs.Common.{length}
use Rattle.text.proofs.Filling.{SoFar}
use Rattle.text.proofs.raw.fill.Given as goal

abbrev pub invariant-loop-b : goal.invariant-loop-b
invariant-loop-b l = SoFar l.b-items l.initial.cursor.at (length l.initial.bytes) l.bytes l.awaits l.count l.b-index l.cursor.at
