use Rattle.printing.proofs.Lines.{effect_put}
use Rattle.printing.proofs.games.EffectPart.put.Goals as goal

pub returns : goal.returns
returns c = effect_put c.put_line.ensures
