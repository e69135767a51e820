use Rattle.printing.proofs.Sizes.{fits}
use Rattle.printing.proofs.games.printed_fits.Goals as goal

pub returns : goal.returns
returns c = fits
