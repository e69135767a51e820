use Rattle.answers.specs.Writing.{list_head}
use Rattle.answers.proofs.writing.write_list_head.Goals as goal

pub returns : goal.returns
unfolding list_head
returns c = rw c.into.ensures at c.write_kind_and_fields.ensures
