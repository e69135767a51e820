use Rattle.std.proofs.Common.{sym, refl, arith}
use Rattle.wire.specs.Numbers.{number_bytes}
use Rattle.wire.specs.Fields.{fields_bytes}
use Rattle.wire.proofs.Writing.{written_none, no_room, room_for}
use Rattle.answers.specs.Answers.{moves_fields}
use Rattle.answers.specs.Writing.{moves_bytes, move_bytes}
use Rattle.answers.proofs.writing.write_move.Goals as goal

pub returns-then-saturating_sub-lt12 : goal.returns-then-saturating_sub-lt12
unfolding moves_bytes moves_fields fields_bytes number_bytes
returns-then-saturating_sub-lt12 c = record {
  size = no_room c.args.at (move_bytes c.args.played) c.args.answer.now (omega arith);
  bytes = sym (written_none c.args.at (move_bytes c.args.played) c.args.answer.now (omega arith));
}

pub returns : goal.returns
unfolding moves_bytes moves_fields fields_bytes number_bytes
returns c = record {
  size = room_for c.args.at 12 (move_bytes c.args.played) c.args.answer.now refl (omega arith);
  bytes = c.put_fields.ensures;
}
