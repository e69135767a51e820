use Rattle.std.proofs.Common.{sym, ◌∙◌, ⊎_elim, arith}
use Rattle.text.proofs.Numbers.{number_missing, number_left, number_read}
use Rattle.text.proofs.read_number.Goals as goal

pub returns-in_err-n : goal.returns-in_err-n
returns-in_err-n c = c.from_residual.ensures ∙ number_missing c.args.word.now c.digits.result c.digits.new.self.at c.digits.ensures.at (sym c.ok.ensures.value ∙ c.in_err-n.was)

pub returns-then-cursor-word : goal.returns-then-cursor-word
returns-then-cursor-word c =
    number_read c.args.word.now c.digits.result c.in_ok-n.n c.digits.new.self.at c.digits.ensures.at (sym c.ok.ensures.value ∙ c.in_ok-n.was) (omega arith) (omega arith)

pub returns-else-cursor-gt0 : goal.returns-else-cursor-gt0
returns-else-cursor-gt0 c =
    number_left c.args.word.now c.digits.result c.in_ok-n.n c.digits.new.self.at c.digits.ensures.at (sym c.ok.ensures.value ∙ c.in_ok-n.was)
    (λ l e. ⊎_elim (λ w. w.1 e) (λ w. omega arith) c.else-cursor-gt0.either)
