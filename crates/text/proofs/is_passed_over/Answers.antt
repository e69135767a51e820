use Rattle.std.proofs.Common.{not, ap, sym, ◌∙◌, rules, tests}
use Rattle.std.proofs.lemmas.Iterator.{YieldsList-from_slice}
use Rattle.std.proofs.lemmas.Iterator.Search.{find_from_yields_List}
use Rattle.text.specs.Grammar.{blank}
use Rattle.text.proofs.Passing.{none_or_hash, by_letter, passed_found}
use Rattle.text.proofs.is_passed_over.Goals as goal

pub returns : goal.returns
returns c =
    let found = find_from_yields_List (λ b. not (blank b)) _ _ c.find.result c.find.ensures.ran (YieldsList-from_slice c.args.line.now cc) (λ x b q k. search (rules, tests)) in
    by_letter c.find.result c.is_none_or.result _ c.is_none_or.ensures (λ x k. search (rules, tests)) ∙ ap none_or_hash found ∙ sym (passed_found c.args.line.now)
