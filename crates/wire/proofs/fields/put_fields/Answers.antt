use Rattle.std.proofs.Common.{◌+◌, ◌*◌, get_or, sym, refl, ap, ◌∙◌, arith}
use Rattle.wire.specs.Fields.{fields_bytes, written}
use Rattle.wire.proofs.Numbers.{le_four}
use Rattle.wire.proofs.FieldLists.{length_fields_bytes}
use Rattle.wire.proofs.Writing.{written_none, written_nothing, fields_more}
use Rattle.wire.proofs.fields.put_fields.Goals as goal

pub returns-then-saturating_sub-numbers : goal.returns-then-saturating_sub-numbers
returns-then-saturating_sub-numbers c =
    sym (written_none c.args.at (fields_bytes c.args.numbers.now) c.args.bytes.now (omega (arith, length_fields_bytes c.args.numbers.now)))

pub loop-i-init : goal.loop-i-init
unfolding fields_bytes
loop-i-init c = sym (written_nothing c.args.at c.args.bytes.now)

pub loop-i-preserved : goal.loop-i-preserved
loop-i-preserved c =
    let at = c.args.at in
    let ns = c.args.numbers.now in
    let i = c.loop-i.i in
    let n = get_or ns i 0 in
    fields_more c.args.bytes.now ns c.loop-i.bytes c.put_bytes.new.bytes at i (at + 4 * i) (omega arith) (omega arith) refl c.loop-i.invariant
    (c.put_bytes.ensures ∙ ap (λ l. written (at + 4 * i) l c.loop-i.bytes) (c.to_le_bytes.ensures ∙ le_four n))
