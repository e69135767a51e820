use Rattle.std.proofs.Common.{ℕ, List, refl, sym, ap, ◌∙◌, arith, rules}
use Rattle.rules.specs.Calls.{Answer}
use Rattle.wire.proofs.GamesCheck.{below_from}
use Rattle.answers.specs.Answers.{parse_answer}
use Rattle.answers.specs.Parts.{parts_answer}
use Rattle.answers.proofs.AnswerBytes.{writes_back}
use Rattle.printing.specs.Answers.{answer_size, answer_into}
use Rattle.printing.proofs.AnswerSizes.{text_bounded}
use Rattle.printing.proofs.AnswerLines.{answer_printed}
use Rattle.printing.proofs.replies.print_answer.Goals as goal

pub returns-in_err-reply : goal.returns-in_err-reply
returns-in_err-reply c = record {
  size = c.from_residual.ensures ∙ ap answer_size c.in_err-reply.ensures;
  text = ap (λ o. answer_into o c.args.out.now) c.in_err-reply.ensures;
}

pub returns : goal.returns
returns c =
    let bs : List ℕ = c.args.answer.now in
    let a : Answer = parts_answer c.in_ok-reply.reply in
    let back = writes_back bs a (below_from bs (λ i. (c.type_inv.answer i).fits)) (sym c.in_ok-reply.ensures) in
    let h = answer_printed (parse_answer bs) a c.in_ok-reply.ensures refl (omega arith) (text_bounded a back.1) c.put_reply.ensures in
    let text = h.1 in
    let same = h.2 in
    record { size = h.0; text = search rules }
