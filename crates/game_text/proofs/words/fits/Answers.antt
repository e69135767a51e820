use Rattle.std.proofs.Common.{not, ◌||◌, eqb, length, sym, ap, ◌∙◌}
use Rattle.game_text.proofs.Looking.{starts_front, disagrees, agrees_by}
use Rattle.game_text.proofs.words.fits.Goals as goal

pub returns-then-not-whole : goal.returns-then-not-whole
returns-then-not-whole c =
    ap not c.if-not-whole.true ∙ sym (ap (λ t. not t || eqb (length c.args.piece.now) (length c.args.word.now)) c.if-not-whole.true)
    ∙ agrees_by c.args.whole c.args.piece.now c.args.word.now
    (sym (starts_front c.args.piece.now c.args.word.now) ∙ sym c.starts_with.ensures.value ∙ c.if-starts_with.true)

pub returns-else-not-whole : goal.returns-else-not-whole
returns-else-not-whole c =
    sym (ap (λ t. not t || eqb (length c.args.piece.now) (length c.args.word.now)) c.if-not-whole.false)
    ∙ agrees_by c.args.whole c.args.piece.now c.args.word.now
    (sym (starts_front c.args.piece.now c.args.word.now) ∙ sym c.starts_with.ensures.value ∙ c.if-starts_with.true)

pub returns-else-starts_with : goal.returns-else-starts_with
returns-else-starts_with c =
    c.if-starts_with.false
    ∙ disagrees c.args.whole c.args.piece.now c.args.word.now
    (sym (starts_front c.args.piece.now c.args.word.now) ∙ sym c.starts_with.ensures.value ∙ c.if-starts_with.false)
