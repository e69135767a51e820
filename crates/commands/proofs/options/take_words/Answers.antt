use Rattle.std.proofs.Common.{Err, string_bytes, sym, ap, ◌∙◌}
use Rattle.std.proofs.lemmas.Result.{err_from_is_err_and}
use Rattle.commands.proofs.Words.{words_more, words_fault, words_end}
use Rattle.commands.proofs.options.take_words.Goals as goal

pub returns-in_err-given : goal.returns-in_err-given
returns-in_err-given g c =
    let with = g.T.TakesWords.with in
    let p = err_from_is_err_and c.from_residual.result c.from_residual.ensures.1 in
    p.1 ∙ ap (λ u. Err u) p.2
    ∙ sym (words_fault with string_bytes c.loop-i.given c.args.words.now c.loop-i.i c.in_err-given.field-0.0 c.index-words-i.result
    c.loop-i-test.true c.index-words-i.is
    (c.in_err-given.ensures ∙ ap (λ w. with c.loop-i.given w c.loop-i.i) c.as_str.ensures.value))
    ∙ c.loop-i.invariant

pub loop-i-preserved : goal.loop-i-preserved
loop-i-preserved g c =
    let with = g.T.TakesWords.with in
    sym (words_more with string_bytes c.loop-i.given c.args.words.now c.loop-i.i c.in_ok-given.given c.index-words-i.result
    c.loop-i-test.true c.index-words-i.is
    (c.in_ok-given.ensures ∙ ap (λ w. with c.loop-i.given w c.loop-i.i) c.as_str.ensures.value))
    ∙ c.loop-i.invariant

pub returns : goal.returns
returns g c = sym (words_end g.T.TakesWords.with string_bytes c.loop-i.given c.args.words.now c.loop-i.i c.loop-i-test.false) ∙ c.loop-i.invariant
