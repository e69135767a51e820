use Rattle.std.proofs.Common.{◌≡◌, ◌+◌, ap, subst, ◌∙◌, rules, tests}
use Rattle.std.proofs.lemmas.Iterator.{YieldsList-from_slice}
use Rattle.std.proofs.lemmas.Iterator.Consumers.{count_from_yields_List}
use Rattle.std.proofs.lemmas.Iterator.Search.{YieldsList-from_take_while}
use Rattle.std.proofs.lemmas.List.Folds.{length-prefix_len}
use Rattle.text.specs.Grammar.{blank}
use Rattle.text.specs.Reader.{past}
use Rattle.text.proofs.Steps.{past_counted}
use Rattle.text.proofs.Cursor.skip_blanks.Goals as goal

pub returns-clause-at : goal.returns-clause-at
returns-clause-at c =
    let rest = c.rest-rest.result.now in
    let n =
    count_from_yields_List c.take_while.result c.count.result c.count.ensures.ran
    (YieldsList-from_take_while _ blank (YieldsList-from_slice rest cc) c.take_while.ensures.closure c.take_while.ensures.done (λ x b q k. search (rules, tests)))
    ∙ length-prefix_len blank rest
    in
    subst (λ bs. c.args.self.now.at + c.count.result ≡ past bs c.args.self.now.at) c.rest-rest.ensures
    (ap (λ k. c.args.self.now.at + k) n ∙ past_counted rest c.args.self.now.at)
