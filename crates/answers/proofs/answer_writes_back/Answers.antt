use Rattle.answers.proofs.AnswerBytes.{writes_back}
use Rattle.answers.proofs.answer_writes_back.Goals as goal

pub returns : goal.returns
returns c = writes_back
