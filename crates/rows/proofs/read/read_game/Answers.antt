use Rattle.rows.proofs.Reading.{header_from, is_game}
use Rattle.rows.proofs.read.read_game.Goals as goal

pub returns : goal.returns
returns c =
    let words =
    header_from c.args.rules.now c.word_at.ensures c.word_at-2.ensures c.word_at-3.ensures c.word_at-4.ensures c.word_at-5.ensures
    in record { words = words; game = is_game c.args.rules.now words }
