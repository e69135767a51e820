use Rattle.std.proofs.Common.{length, sym, ap, ◌∙◌, arith}
use Rattle.std.proofs.lemmas.List.{length-drop}
use Rattle.wire.specs.Kinds.{kind_number}
use Rattle.printing.proofs.Heads.{number_headed, kind_headed, no_kind}
use Rattle.printing.proofs.KindNumbers.{not_num, blank_word}
use Rattle.printing.proofs.Putting.{join}
use Rattle.printing.proofs.games.put_head.Goals as goal

pub returns-in_default : goal.returns-in_default
returns-in_default c = record {
  text = λ e rest stands fits. absurd (no_kind c.in_default.ensures c.first_number-byte.ensures.number e rest stands);
  shorter = λ h. omega (arith, ap length c.first_number-byte.ensures.rest, length-drop 1 c.args.game.now);
  few = omega arith;
}

pub returns-in-Num : goal.returns-in-Num
returns-in-Num c = record {
  text =
      number_headed c.first_number-byte.ensures.rest c.from.result
      (sym c.first_number-byte.ensures.number ∙ sym c.in-Ok.ensures ∙ ap kind_number c.in-Num.is)
      (c.from.ensures ∙ c.two_bytes.ensures.lowest) c.after.ensures c.number.ensures;
  shorter =
      λ h.
      omega (arith, ap length c.after.ensures, length-drop 2 c.first_number-byte.result.1.now, ap length c.first_number-byte.ensures.rest, length-drop 1 c.args.game.now);
  few = omega arith;
}

pub returns-in_default-kind : goal.returns-in_default-kind
returns-in_default-kind c =
    let some = not_num c.in-Ok.kind c.in_default-kind.not-Num in
    let wrote = join c.word.ensures (rw c.letters_of.ensures at c.word-in_default-kind.ensures) in
    record {
      text =
          λ e rest stands fits.
          kind_headed c.first_number-byte.ensures.rest (kind_number c.in-Ok.kind) c.arity.result some
          (c.in-Ok.ensures ∙ c.first_number-byte.ensures.number) (c.arity.ensures.known some) (rw (blank_word c.in-Ok.kind c.in_default-kind.not-Num) at wrote) e rest stands;
      shorter = λ h. omega (arith, ap length c.first_number-byte.ensures.rest, length-drop 1 c.args.game.now);
      few = c.arity.ensures.few;
    }
