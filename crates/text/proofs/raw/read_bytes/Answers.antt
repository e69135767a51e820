use Rattle.std.proofs.Common.{Ok, Err, ap, subst, ◌∙◌}
use Rattle.std.proofs.lemmas.Result.{err_from_is_err_and}
use Rattle.text.specs.RawReader.{pairs_from, Filled}
use Rattle.text.proofs.RawLines.{word_missing, pairs_wrong, pairs_right}
use Rattle.text.proofs.raw.read_bytes.Goals as goal

pub returns-in_err-first_word : goal.returns-in_err-first_word
returns-in_err-first_word c =
    let p = err_from_is_err_and c.from_residual.result c.from_residual.ensures.1 in
    let t = word_missing c.args.line.now c.in_err-first_word.field-0.0 c.from_residual.result c.in_err-first_word.ensures.at
    (p.1 ∙ ap (λ u. Err u) p.2) in
    record { value = t.value; means = t.means }

pub returns-in_err-count : goal.returns-in_err-count
returns-in_err-count c =
    let p = err_from_is_err_and c.from_residual-in_err-count.result c.from_residual-in_err-count.ensures.1 in
    let t = pairs_wrong c.args.line.now c.first_word.new.self.at c.in_err-count.field-0.0 c.fill.new.bytes c.from_residual-in_err-count.result
    c.in_ok-first_word.ensures.at (subst (λ l. Filled (pairs_from l c.first_word.new.self.at) 22 c.fill.new.bytes (Err c.in_err-count.field-0.0)) c.first_word.ensures.line c.in_err-count.ensures) (p.1 ∙ ap (λ u. Err u) p.2) in
    record { value = t.value; means = t.means }

pub returns : goal.returns
returns c =
    let t = pairs_right c.args.line.now c.first_word.new.self.at c.in_ok-count.count c.fill.new.bytes c.in_ok-first_word.ensures.at
    (subst (λ l. Filled (pairs_from l c.first_word.new.self.at) 22 c.fill.new.bytes (Ok c.in_ok-count.count)) c.first_word.ensures.line c.in_ok-count.ensures) in
    record { value = t.value; means = t.means }
