use Rattle.std.proofs.Common.{Err, map, string_bytes, ap, ◌∙◌}
use Rattle.std.proofs.lemmas.Result.{err_from_is_err_and}
use Rattle.commands.specs.Faults.{and_then, taken}
use Rattle.commands.specs.Options.{with_word, asked, request_of}
use Rattle.commands.proofs.options.read_request.Goals as goal

pub returns-in_err-take_words : goal.returns-in_err-take_words
unfolding request_of
returns-in_err-take_words c =
    let p = err_from_is_err_and c.from_residual.result c.from_residual.ensures.1 in
    p.1 ∙ ap (λ u. Err u) p.2
    ∙ ap (λ r. and_then r asked) (c.in_err-take_words.ensures ∙ ap (λ g. taken with_word g (map string_bytes c.args.words.now) 0) c.default.ensures)

pub returns : goal.returns
unfolding request_of
returns c =
    c.asked.ensures
    ∙ ap (λ r. and_then r asked) (c.in_ok-take_words.ensures ∙ ap (λ g. taken with_word g (map string_bytes c.args.words.now) 0) c.default.ensures)
