use Rattle.std.proofs.Common.{◌≡◌, ap, ◌∙◌, rules, tests}
use Rattle.std.specs.Option.{option_map}
use Rattle.std.proofs.lemmas.Iterator.{YieldsList-from_slice}
use Rattle.std.proofs.lemmas.Iterator.Search.{find_from_yields_List}
use Rattle.game_text.specs.Machine.{agrees, look}
use Rattle.game_text.proofs.Looking.{look_found}
use Rattle.game_text.proofs.words.find_word.Goals as goal

pub returns : goal.returns
returns c =
    let mapped : c.map.result ≡ option_map (λ s. s.word) (option_map (λ s. s.now) c.find.result) = search (rules, tests) in
    mapped ∙ ap (option_map (λ s. s.word))
    (
    find_from_yields_List (λ s. agrees c.args.whole c.args.piece.now s.letters.now) _ _ c.find.result c.find.ensures.ran
    (YieldsList-from_slice c.awaited.result.now cc) (λ x b q k. search (rules, tests))
    )
    ∙ look_found c.args.whole c.awaited.result.now c.args.piece.now c.awaited.ensures.letters ∙ ap (λ ws. look c.args.whole ws c.args.piece.now) c.awaited.ensures.words
