use Rattle.std.proofs.Common.{◌+◌, ◌-◌, get_or, take, drop, sym, subst}
use Rattle.game_text.specs.Machine.{more_letters}
use Rattle.game_text.specs.Room.{SameLexer}
use Rattle.game_text.proofs.Settling.{letter_added, letter_wrong}
use Rattle.game_text.proofs.steps.add_letter.Goals as goal

pub returns-in_err-find_word : goal.returns-in_err-find_word
returns-in_err-find_word c =
    subst (λ r. SameLexer (more_letters (take (c.args.i - c.args.from) (drop c.args.from c.args.text.now)) (get_or c.args.text.now c.args.i 0) c.args.p) c.args.text.now (c.args.i + 1) c.args.p r)
    (sym c.from_residual.ensures)
    (letter_wrong c.args.text.now c.args.from c.args.i c.args.p c.requires.0 c.requires.1.0 c.in_err-find_word.ensures)

pub returns : goal.returns
returns c =
    letter_added c.args.text.now c.args.from c.args.i c.args.p c.in_ok-find_word.field-0 c.requires.0 c.requires.1.0 c.requires.1.1 c.in_ok-find_word.ensures
