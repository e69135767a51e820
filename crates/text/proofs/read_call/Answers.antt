use Rattle.std.proofs.Common.{◌≡◌, [], ◌∷◌, sym, subst, rules, tests}
use Rattle.std.proofs.lemmas.Iterator.{YieldsList-from_slice}
use Rattle.std.proofs.lemmas.Iterator.Consumers.{fold_from_yields_List}
use Rattle.std.specs.List.{fold}
use Rattle.text.specs.Grammar.{Reads}
use Rattle.text.specs.Reader.{better, call_of}
use Rattle.text.proofs.Lines.{reads}
use Rattle.text.proofs.read_call.Goals as goal

pub returns : goal.returns
unfolding call_of
returns c =
    let others = c.play.result ∷ c.ticks.result ∷ c.see.result ∷ c.may.result ∷ c.back.result ∷ c.can_force.result ∷ [] in
    let folded : c.fold.result ≡ fold better c.sit.result others =
    fold_from_yields_List _ better c.sit.result c.fold.result c.fold.ensures.ran (YieldsList-from_slice others cc) (λ a x b q k. search (rules, tests))
    in
    let same : c.fold.result ≡ call_of c.args.line.now = search rules in
    record { value = same; means = subst (λ r. Reads c.args.line.now r) (sym same) (reads c.args.line.now) }
