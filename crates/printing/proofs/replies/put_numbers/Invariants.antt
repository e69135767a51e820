use Rattle.std.proofs.Common.{take}
use Rattle.answers.specs.Parts.{numbers_in}
use Rattle.printing.specs.Games.{numbers_text}
use Rattle.printing.specs.Puts.{Wrote}
use Rattle.printing.proofs.replies.put_numbers.Given as goal

abbrev pub invariant-loop-n : goal.invariant-loop-n
invariant-loop-n l = Wrote l.initial.writer (numbers_text (numbers_in (take l.n-index l.numbers))) l.writer
