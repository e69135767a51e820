use Rattle.std.proofs.Common.{◌≡◌, ◌+◌, not, eqb, take, reverse, ap, ◌∙◌, arith, rules, tests}
use Rattle.std.proofs.lemmas.Iterator.{YieldsList-from_slice}
use Rattle.std.proofs.lemmas.Iterator.Adapters.{YieldsList-from_rev_slice}
use Rattle.std.proofs.lemmas.Iterator.Consumers.{YieldsList-from_filter, count_from_yields_List}
use Rattle.std.proofs.lemmas.Iterator.Search.{YieldsList-from_take_while}
use Rattle.std.proofs.lemmas.List.{take_all}
use Rattle.std.proofs.lemmas.List.Folds.{length-prefix_len}
use Rattle.std.proofs.lemmas.List.Sums.{length-filter}
use Rattle.game_text.specs.Positions.{moved_by}
use Rattle.game_text.proofs.Columns.{position_counted}
use Rattle.game_text.proofs.positions.line_and_column.Goals as goal

pub returns : goal.returns
returns c =
    let bs = c.unwrap_or-before.result.now in
    let front : bs ≡ take c.args.place c.args.text.now = search (rules, take_all) in
    let line =
    count_from_yields_List c.filter.result c.count-line.result c.count-line.ensures.ran
    (YieldsList-from_filter _ (λ b. eqb b 10) (YieldsList-from_slice bs cc) c.filter.ensures.closure (λ x r q k. search (rules, tests)))
    ∙ length-filter (λ b. eqb b 10) bs
    in
    let column =
    count_from_yields_List c.take_while.result c.count-column.result c.count-column.ensures.ran
    (YieldsList-from_take_while _ (λ b. not (eqb b 10)) (YieldsList-from_rev_slice bs cc) c.take_while.ensures.closure c.take_while.ensures.done (λ x b q k. search (rules, tests)))
    ∙ length-prefix_len (λ b. not (eqb b 10)) (reverse bs)
    in
    let told = position_counted bs ∙ ap (λ xs. moved_by xs 1 1) front in
    grind (arith, line, column, told)
