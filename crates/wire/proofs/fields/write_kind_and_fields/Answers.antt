use Rattle.std.proofs.Common.{ℕ, ◌+◌, ◌*◌, List, ◌∷◌, length, sym, arith}
use Rattle.wire.specs.Fields.{fields_bytes}
use Rattle.wire.proofs.FieldLists.{length_fields_bytes}
use Rattle.wire.proofs.Writing.{written_none, no_room, room_for, after_kind}
use Rattle.wire.proofs.fields.write_kind_and_fields.Goals as goal

pub returns-then-out-size : goal.returns-then-out-size
returns-then-out-size c =
    let bs : List ℕ = c.args.kind ∷ fields_bytes c.args.fields.now in
    let long = length_fields_bytes c.args.fields.now in
    record {
      size = no_room 0 bs c.args.out.now (omega arith);
      bytes = sym (written_none 0 bs c.args.out.now (omega arith));
    }

pub returns : goal.returns
returns c =
    let bs : List ℕ = c.args.kind ∷ fields_bytes c.args.fields.now in
    let long = length_fields_bytes c.args.fields.now in
    record {
      size = room_for 0 (1 + 4 * length c.args.fields.now) bs c.args.out.now (omega arith) (omega arith);
      bytes = after_kind c.args.out.now c.args.kind c.args.fields.now c.put_fields.ensures (omega arith);
    }
