use Rattle.std.proofs.Common.{◌≡◌, ◌+◌, ◌-◌, ◌*◌, length, Some, sym, ap, ◌∙◌, arith}
use Rattle.rules.specs.Calls.{shown}
use Rattle.wire.specs.Fields.{field_at, fields_at}
use Rattle.answers.specs.Answers.{cell_count, after_cells, clock_count, shown_at}
use Rattle.answers.proofs.AnswerBytes.{whole_is}
use Rattle.answers.proofs.ReadingLemmas.{numbers_read}
use Rattle.answers.proofs.reading.read_shown.Goals as goal

pub returns : goal.returns
returns c =
    let bs = c.args.bytes.now in
    let n = c.field_at.result in
    let after : 5 + 4 * n ≡ after_cells bs = ap (λ k. 5 + 4 * k) c.field_at.ensures in
    let clocks : c.field_at-clocks.result ≡ clock_count bs = c.field_at-clocks.ensures ∙ ap (λ k. field_at bs (k + 8)) after in
    let size : length bs ≡ after_cells bs + 12 + 4 * clock_count bs = c.if-bytes-after.false ∙ (λ j. after j + 12 + 4 * clocks j) in
    let first = numbers_read bs 5 (cell_count bs) (5 + 4 * n - 5) (omega arith) (omega arith) c.as_chunks.ensures.front in
    let last =
    numbers_read bs (5 + 4 * n + 12) (clock_count bs) (length bs - (5 + 4 * n + 12)) (omega arith) (omega arith) c.as_chunks-2.ensures.front
    ∙ ap (λ k. fields_at bs (k + 12) (clock_count bs)) after in
    (λ j.
    Some
    (shown (first j) ((c.field_at-2.ensures ∙ ap (field_at bs) after) j) ((c.field_at-3.ensures ∙ ap (λ k. field_at bs (k + 4)) after) j) (last j)))
    ∙ sym (whole_is bs (after_cells bs + 12 + 4 * clock_count bs) (shown_at bs) size)
