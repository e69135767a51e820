use Rattle.std.proofs.Common.{◌+◌, get_or, sym, ap, ◌∙◌, add-zero, arith}
use Rattle.wire.proofs.FieldLists.{word_is, lower_half}
use Rattle.wire.proofs.fields.two_bytes.Goals as goal

pub returns-clause-value : goal.returns-clause-value
returns-clause-value c =
    let e = c.from_le_bytes.ensures in
    let a = c.bytes_at.ensures 0 (omega arith) ∙ ap (λ j. get_or c.args.bytes.now j 0) (add-zero c.args.at) in
    let b = c.bytes_at.ensures 1 (omega arith) in
    omega (arith, word_is c.args.bytes.now c.args.at)

pub returns-clause-lowest : goal.returns-clause-lowest
returns-clause-lowest c =
    returns-clause-value c
    ∙ sym (lower_half c.args.bytes.now c.args.at (c.type_inv.bytes c.args.at).fits (c.type_inv.bytes (c.args.at + 1)).fits)
