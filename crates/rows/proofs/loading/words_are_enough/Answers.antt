use Rattle.rows.proofs.LoadSize.{words_are_enough}
use Rattle.rows.proofs.loading.words_are_enough.Goals as goal

pub returns : goal.returns
returns c = words_are_enough
