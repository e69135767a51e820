use Rattle.std.proofs.Common.{ℕ, List, sym, ◌∙◌, arith}
use Rattle.wire.proofs.Writing.{written_none, no_room, room_for}
use Rattle.rules.specs.Calls.{shown}
use Rattle.answers.specs.Answers.{answer_kind, answer_fields, answer_bytes}
use Rattle.answers.proofs.AnswerBytes.{length_shown}
use Rattle.answers.proofs.WritingLemmas.{shown_written}
use Rattle.answers.proofs.writing.write_shown.Goals as goal

pub returns-in_err-size : goal.returns-in_err-size
returns-in_err-size c =
    let bs : List ℕ = answer_bytes (shown c.args.cells.now c.args.turn c.args.end c.args.clocks.now) in
    let long = length_shown c.args.cells.now c.args.turn c.args.end c.args.clocks.now in
    record {
      size = c.from_residual.ensures ∙ no_room 0 bs c.args.answer.now (omega (arith, c.in_err-size.ensures));
      bytes = sym (written_none 0 bs c.args.answer.now (omega (arith, c.in_err-size.ensures)));
    }

pub returns : goal.returns
unfolding answer_bytes answer_kind answer_fields
returns c =
    let bs : List ℕ = answer_bytes (shown c.args.cells.now c.args.turn c.args.end c.args.clocks.now) in
    let long = length_shown c.args.cells.now c.args.turn c.args.end c.args.clocks.now in
    let fits = c.in_ok-size.ensures in
    record {
      size = room_for 0 c.in_ok-size.size bs c.args.answer.now (long ∙ sym fits.0) (omega (arith, fits.1));
      bytes =
          shown_written c.args.answer.now c.put_field.new.bytes c.put_fields.new.bytes c.put_fields-2.new.bytes
          c.put_field-2.new.bytes c.put_fields-3.new.bytes c.args.cells.now c.args.clocks.now 2 c.args.turn c.args.end
          (omega (arith, fits.0, fits.1)) (rw c.into.ensures at c.put_field.ensures) c.put_fields.ensures c.put_fields-2.ensures
          c.put_field-2.ensures c.put_fields-3.ensures;
    }
