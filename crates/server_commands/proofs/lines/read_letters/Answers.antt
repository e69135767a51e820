use Rattle.std.proofs.Common.{refl, arith}
use Rattle.server_commands.proofs.Meaning.{by_bytes, by_neither}
use Rattle.server_commands.proofs.lines.read_letters.Goals as goal

pub returns-in-Ok : goal.returns-in-Ok
returns-in-Ok c =
    by_bytes c.args.letters.now c.in-Ok.raw (record { bytes = c.in-Ok.raw.bytes; count = c.min-count.result; few = omega arith })
    refl c.min-count.ensures c.in-Ok.ensures.means

pub returns-in-Err-read_call : goal.returns-in-Err-read_call
returns-in-Err-read_call c =
    by_neither c.args.letters.now c.in-Err.i c.in-Err-read_call.j c.max.result c.max.ensures c.in-Err.ensures.means
    c.in-Err-read_call.ensures.means
