use Rattle.std.proofs.Common.{sym, ◌∙◌, arith}
use Rattle.std.proofs.lemmas.List.{length-take-le}
use Rattle.rows.proofs.LoadGame.{few_words, not_unfilled, is_loaded}
use Rattle.rows.proofs.loading.load.Goals as goal

pub load_game-requires : goal.load_game-requires
load_game-requires c =
    let words = length-take-le c.words_needed-words.result c.args.rules.now c.if-rules-words.false in
    record {
      all = words ∙ c.words_needed-words.ensures;
      small = omega (arith, words, few_words c.args.bytes.now c.in_ok-size.size (sym c.in_ok-size.ensures));
    }

pub returns-in_err-ok_or : goal.returns-in_err-ok_or
returns-in_err-ok_or c =
    let words = length-take-le c.words_needed-words.result c.args.rules.now c.if-rules-words.false in
    absurd (not_unfilled c.args.bytes.now c.in_ok-size.size c.args.rules.now c.load_game.new.rules c.load_game.result
    (sym c.in_ok-size.ensures) (omega arith) (omega arith) c.load_game.ensures _ _ c.in_err-ok_or.ensures.value)

pub returns : goal.returns
returns c =
    let words = length-take-le c.words_needed-words.result c.args.rules.now c.if-rules-words.false in
    is_loaded c.args.bytes.now c.in_ok-size.size c.args.rules.now c.load_game.new.rules c.load_game.result
    (sym c.in_ok-size.ensures) (omega arith) (omega arith) c.load_game.ensures c.words_needed-words.result (sym c.words_needed-words.ensures)
