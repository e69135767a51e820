use Rattle.std.proofs.Common.{◌≡◌, map, drop, string_bytes}
use Rattle.commands.specs.Faults.{taken}
use Rattle.commands.proofs.options.take_words.Given as goal

-- what is left of the words gives the result
abbrev pub invariant-loop-i : goal.invariant-loop-i
invariant-loop-i g l =
    taken g.T.TakesWords.with l.given (drop l.i (map string_bytes l.words)) l.i ≡ taken g.T.TakesWords.with l.initial.given (map string_bytes l.words) 0
