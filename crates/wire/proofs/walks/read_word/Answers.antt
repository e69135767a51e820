use Rattle.std.proofs.Common.{◌≡◌, ◌+◌, ◌*◌, ◌≤◌, length, get_or, sym, refl, ap, ◌∙◌, arith}
use Rattle.std.proofs.lemmas.Grind.{common_steps}
use Rattle.std.proofs.lemmas.List.{get_or-take}
use Rattle.wire.specs.GamesWalk.{found}
use Rattle.wire.specs.Exprs.{got}
use Rattle.wire.proofs.GamesRule.{word_read, word_short}
use Rattle.wire.proofs.walks.read_word.Goals as goal

pub returns-in_err-word-clause-read : goal.returns-in_err-word-clause-read
returns-in_err-word-clause-read c = ap found c.from_residual.ensures ∙ sym (word_short c.args.bytes.now (grind (arith, common_steps)))

pub returns-clause-read : goal.returns-clause-read
returns-clause-read c =
    let bs = c.args.bytes.now in
    let word = c.in_ok-word.word.now in
    let split = c.in_ok-word.ensures.cases in
    let low : get_or word 0 0 ≡ get_or bs 0 0 = ap (λ l. get_or l 0 0) split.0 ∙ get_or-take 2 bs 0 0 (omega arith) in
    let high : get_or word 1 0 ≡ get_or bs 1 0 = ap (λ l. get_or l 1 0) split.0 ∙ get_or-take 2 bs 1 0 (omega arith) in
    let value : c.from_le_bytes.result ≡ get_or bs 0 0 + 256 * get_or bs 1 0 = omega (arith, c.from_le_bytes.ensures, low, high) in
    let long : 2 ≤ length bs = c.in_ok-word.ensures.variant.0 refl in
    ap (got c.from_le_bytes.result) split.1 ∙ word_read bs c.from_le_bytes.result value long
