use Rattle.answers.specs.Answers.{answer_kind, answer_fields, answer_bytes}
use Rattle.answers.proofs.writing.write_number.Goals as goal

pub returns : goal.returns
unfolding answer_bytes answer_kind answer_fields
returns c = rw c.into.ensures at c.write_kind_and_fields.ensures
