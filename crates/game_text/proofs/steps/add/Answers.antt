use Rattle.std.proofs.Common.{get_or, subst, arith, rules}
use Rattle.game_text.specs.Room.{Room, Sane}
use Rattle.game_text.proofs.Settling.{gap_digit, digits_digit}
use Rattle.game_text.proofs.steps.add.Goals as goal

pub returns-in-Gap : goal.returns-in-Gap
returns-in-Gap c =
    gap_digit c.args.text.now c.args.i (get_or c.args.text.now c.args.i 0) c.args.token c.args.p c.add_digit.result c.in-Gap.is (search rules)
    (c.add_digit.ensures c.args.i (subst (λ t. Sane c.args.i c.args.p t) c.in-Gap.is c.requires.1) c.args.text.now)

pub returns-in-Digits : goal.returns-in-Digits
returns-in-Digits c =
    let d = subst (λ t. Sane c.args.i c.args.p t) c.in-Digits.is c.requires.1 in
    let room : Room c.args.p c.args.i = record { bytes = omega (arith, d.0.bytes); few = omega (arith, d.0.few) } in
    digits_digit c.args.text.now c.args.i (get_or c.args.text.now c.args.i 0) c.args.token c.args.p c.in-Digits.n c.add_digit-in-Digits.result c.in-Digits.is
    (c.add_digit-in-Digits.ensures c.args.i room c.args.text.now)
