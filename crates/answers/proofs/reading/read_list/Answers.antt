use Rattle.std.proofs.Common.{◌+◌, ◌-◌, ◌*◌, length, Some, sym, ap, ◌∙◌, arith}
use Rattle.rules.specs.Calls.{listed}
use Rattle.wire.specs.Fields.{field_at}
use Rattle.answers.specs.Answers.{moves_at}
use Rattle.answers.proofs.AnswerBytes.{whole_is}
use Rattle.answers.proofs.ReadingLemmas.{moves_read}
use Rattle.answers.proofs.reading.read_list.Goals as goal

pub returns : goal.returns
returns c =
    let bs = c.args.bytes.now in
    let n = field_at bs 1 in
    let size = c.if-bytes-field_at.false ∙ ap (λ k. 5 + 12 * k) c.field_at.ensures in
    ap (λ vs. Some (listed vs)) (moves_read bs 5 n (length bs - 5) (omega (arith, size)) (omega (arith, size)) c.as_chunks.ensures.front)
    ∙ sym (whole_is bs (5 + 12 * n) (listed (moves_at bs 5 n)) size)
