use Rattle.commands.proofs.Refusing.{refuses_so}
use Rattle.commands.proofs.lines.refuse.Goals as goal

pub returns : goal.returns
returns c = refuses_so c.args.call c.not_done.result c.not_done.ensures.number c.not_done.ensures.place
