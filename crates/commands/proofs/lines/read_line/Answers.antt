use Rattle.std.proofs.Common.{Ok, Err, ap, ◌∙◌}
use Rattle.commands.proofs.Meaning.{by_bytes, by_words}
use Rattle.commands.proofs.lines.read_line.Goals as goal

pub returns-in-Ok : goal.returns-in-Ok
returns-in-Ok c = let said = by_bytes c.args.line.now c.in-Ok.raw c.in-Ok.ensures.value in cc

pub returns-in-Ok-read_call : goal.returns-in-Ok-read_call
returns-in-Ok-read_call c =
    by_words c.args.line.now c.in-Err.i (Ok c.in-Ok-read_call.call) c.in-Err.ensures.value c.in-Ok-read_call.ensures.value

pub returns-in-Err-read_call : goal.returns-in-Err-read_call
returns-in-Err-read_call c =
    ap (λ n. Err n) c.max.ensures
    ∙ by_words c.args.line.now c.in-Err.i (Err c.in-Err-read_call.j) c.in-Err.ensures.value c.in-Err-read_call.ensures.value
