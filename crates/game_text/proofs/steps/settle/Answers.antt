use Rattle.std.proofs.Common.{subst, arith, rules}
use Rattle.game_text.specs.Room.{Sane}
use Rattle.game_text.proofs.Settling.{look_fine, digits_settled, letters_settled}
use Rattle.game_text.proofs.steps.settle.Goals as goal

pub take_word-requires : goal.take_word-requires
take_word-requires c =
    let d = subst (λ x. Sane c.args.i c.args.p x) c.in-Letters.is c.requires.1 in (
      look_fine _ c.args.p _ c.in_ok-w-in-Letters.w c.in_ok-w-in-Letters.ensures,
      (omega (arith, d.0.bytes), omega (arith, d.0.few)),
    )

pub returns-in_ok-w-in-Letters : goal.returns-in_ok-w-in-Letters
returns-in_ok-w-in-Letters c =
    let t = letters_settled c.args.text.now c.args.i c.args.token c.args.p c.in-Letters.from c.args.out.now c.in_ok-w-in-Letters.w _ c.in-Letters.is c.requires.1
    c.in_ok-w-in-Letters.ensures c.take_word.ensures.0 in
    record { value = search (rules, t.0, c.take_word.ensures.1); room = t.1 }

pub returns-in-Digits : goal.returns-in-Digits
returns-in-Digits c =
    let t = digits_settled c.args.text.now c.args.i c.args.token c.args.p c.in-Digits.n c.args.out.now _ c.in-Digits.is c.requires.1 c.take_number.ensures.0 in
    record { value = search (rules, t.0, c.take_number.ensures.1); room = t.1 }
