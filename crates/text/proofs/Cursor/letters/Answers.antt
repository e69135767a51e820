use Rattle.std.proofs.Common.{◌≡◌, ℕ, ◌+◌, eqb, Ok, Err, ap, subst, ◌∙◌, arith, rules, tests}
use Rattle.std.proofs.lemmas.Iterator.{YieldsList-from_slice, YieldsList-from_zip}
use Rattle.std.proofs.lemmas.Iterator.Consumers.{YieldsList-at, count_from_yields_List}
use Rattle.std.proofs.lemmas.Iterator.Search.{YieldsList-from_take_while}
use Rattle.std.proofs.lemmas.List.Folds.{length-prefix_len}
use Rattle.std.specs.List.{zip}
use Rattle.text.specs.Reader.{letters_at}
use Rattle.text.proofs.Steps.{alike, letters_same, letters_differ}
use Rattle.text.proofs.Cursor.letters.Goals as goal
use Rattle.text.proofs.Cursor.letters.Goals.{After-count-same}

counted : (c : After-count-same) → c.count-same.result ≡ alike c.rest-rest.result.now c.args.word.now
counted c =
    count_from_yields_List c.take_while.result c.count-same.result c.count-same.ensures.ran
    (YieldsList-from_take_while _ (λ (p : ℕ × ℕ). eqb p.0 p.1)
    (YieldsList-at c.take_while.ensures.source (YieldsList-from_zip (YieldsList-from_slice c.rest-rest.result.now cc) (YieldsList-from_slice c.args.word.now cc)))
    c.take_while.ensures.closure c.take_while.ensures.done (λ x b q k. search (rules, tests)))
    ∙ length-prefix_len (λ (p : ℕ × ℕ). eqb p.0 p.1) (zip c.rest-rest.result.now c.args.word.now)

pub returns-then-same-word-clause-at : goal.returns-then-same-word-clause-at
returns-then-same-word-clause-at c =
    let n = counted (goal.at.returns-then-same-word-clause-at c).After-count-same in
    subst (λ bs. Err (c.args.self.now.at + c.count-same.result) ≡ letters_at c.args.word.now bs c.args.self.now.at) c.rest-rest.ensures
    (ap (λ k. Err (c.args.self.now.at + k)) n ∙ letters_differ c.args.word.now c.rest-rest.result.now c.args.self.now.at (omega arith))

pub returns-else-same-word-clause-at : goal.returns-else-same-word-clause-at
returns-else-same-word-clause-at c =
    let n = counted (goal.at.returns-else-same-word-clause-at c).After-count-same in
    subst (λ bs. Ok (c.args.self.now.at + c.count-same.result) ≡ letters_at c.args.word.now bs c.args.self.now.at) c.rest-rest.ensures
    (ap (λ k. Ok (c.args.self.now.at + k)) n ∙ letters_same c.args.word.now c.rest-rest.result.now c.args.self.now.at (omega arith))
