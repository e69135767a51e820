use Rattle.printing.proofs.AnswerSizes.{text_fits}
use Rattle.printing.proofs.replies.answer_text_fits.Goals as goal

pub returns : goal.returns
returns c = text_fits
