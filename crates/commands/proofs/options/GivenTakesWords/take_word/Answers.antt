use Rattle.std.proofs.Common.{rules}
use Rattle.commands.specs.Options.{with_word}
use Rattle.commands.proofs.options.GivenTakesWords.take_word.Goals as goal

pub returns-in_default : goal.returns-in_default
unfolding with_word
returns-in_default c = search rules

pub returns-in_err-n : goal.returns-in_err-n
unfolding with_word
returns-in_err-n c = search rules

pub returns : goal.returns
unfolding with_word
returns c = search rules
