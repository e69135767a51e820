use Rattle.printing.proofs.Texts.{is_text}
use Rattle.printing.proofs.games.printed_is_text.Goals as goal

pub returns : goal.returns
returns c = is_text
