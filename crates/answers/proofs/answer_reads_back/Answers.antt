use Rattle.answers.proofs.AnswerBytes.{reads_back}
use Rattle.answers.proofs.answer_reads_back.Goals as goal

pub returns : goal.returns
returns c = reads_back
