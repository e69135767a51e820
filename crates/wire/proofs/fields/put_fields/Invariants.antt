use Rattle.std.proofs.Common.{◌≡◌, take}
use Rattle.wire.specs.Fields.{fields_bytes, written}
use Rattle.wire.proofs.fields.put_fields.Given as goal

abbrev pub invariant-loop-i : goal.invariant-loop-i
invariant-loop-i l = l.bytes ≡ written l.at (fields_bytes (take l.i l.numbers)) l.initial.bytes
