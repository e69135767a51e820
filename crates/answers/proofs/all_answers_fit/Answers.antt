use Rattle.answers.proofs.Sizes.{all_answers_fit}
use Rattle.answers.proofs.all_answers_fit.Goals as goal

pub returns : goal.returns
returns c = all_answers_fit
