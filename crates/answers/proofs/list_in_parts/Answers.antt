use Rattle.answers.proofs.WritingLemmas.{list_in_parts}
use Rattle.answers.proofs.list_in_parts.Goals as goal

pub returns : goal.returns
returns c = list_in_parts
