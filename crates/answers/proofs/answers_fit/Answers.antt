use Rattle.answers.proofs.Sizes.{answers_fit}
use Rattle.answers.proofs.answers_fit.Goals as goal

pub returns : goal.returns
returns c = answers_fit
