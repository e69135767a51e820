use Rattle.std.proofs.Common.{take}
use Rattle.answers.specs.Parts.{moves_in}
use Rattle.printing.specs.Answers.{later_moves}
use Rattle.printing.specs.Puts.{Wrote}
use Rattle.printing.proofs.replies.put_moves.Given as goal

abbrev pub invariant-loop-m : goal.invariant-loop-m
invariant-loop-m l = Wrote l.initial.writer (later_moves (moves_in (take l.m-index l.later))) l.writer
