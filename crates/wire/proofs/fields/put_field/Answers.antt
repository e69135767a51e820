use Rattle.std.proofs.Common.{[], ◌∷◌, get_or, ap, ◌∙◌}
use Rattle.wire.specs.Fields.{written}
use Rattle.wire.proofs.Numbers.{le_four}
use Rattle.wire.proofs.fields.put_field.Goals as goal

pub returns : goal.returns
returns c =
    c.put_bytes.ensures
    ∙ ap (λ l. written c.args.at l c.args.bytes.now)
    (ap (λ r. get_or r 0 0 ∷ get_or r 1 0 ∷ get_or r 2 0 ∷ get_or r 3 0 ∷ []) c.to_le_bytes.ensures ∙ le_four c.args.n)
