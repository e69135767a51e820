use Rattle.std.proofs.Common.{refl}
use Rattle.tables.specs.Changes.{with_entry}
use Rattle.tables.proofs.records.put_entry.Goals as goal

pub returns : goal.returns
unfolding with_entry
returns c = refl
