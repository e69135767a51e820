use Rattle.std.proofs.Common.{rules}
use Rattle.std.proofs.lemmas.Slice.Eq.{bytes_eq-Decides}
use Rattle.server_commands.specs.Options.{with_word}
use Rattle.server_commands.proofs.options.GivenTakesWords.take_word.Goals as goal

pub returns-in_err-common-in_default : goal.returns-in_err-common-in_default
unfolding with_word
returns-in_err-common-in_default c = search (rules, bytes_eq-Decides)

pub returns-in-text : goal.returns-in-text
unfolding with_word
returns-in-text c = search (rules, bytes_eq-Decides)

pub returns-in-text-2 : goal.returns-in-text-2
unfolding with_word
returns-in-text-2 c = search (rules, bytes_eq-Decides)

pub returns-in-text-3 : goal.returns-in-text-3
unfolding with_word
returns-in-text-3 c = search (rules, bytes_eq-Decides)

pub returns-in_ok-common-in_default : goal.returns-in_ok-common-in_default
unfolding with_word
returns-in_ok-common-in_default c = search (rules, bytes_eq-Decides)
