use Rattle.std.proofs.Common.{get_or, ap, ◌∙◌, add-zero, arith}
use Rattle.wire.proofs.FieldLists.{field_is}
use Rattle.wire.proofs.fields.field_at.Goals as goal

pub returns : goal.returns
returns c =
    let e = c.from_le_bytes.ensures in
    let a = c.bytes_at.ensures 0 (omega arith) ∙ ap (λ j. get_or c.args.bytes.now j 0) (add-zero c.args.at) in
    let b = c.bytes_at.ensures 1 (omega arith) in
    let d = c.bytes_at.ensures 2 (omega arith) in
    let f = c.bytes_at.ensures 3 (omega arith) in
    omega (arith, field_is c.args.bytes.now c.args.at)
