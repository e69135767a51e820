use Rattle.server_commands.proofs.Meaning.{read_as_said}
use Rattle.server_commands.proofs.lines.kept_is_read_as_said.Goals as goal

pub returns : goal.returns
returns c = read_as_said
