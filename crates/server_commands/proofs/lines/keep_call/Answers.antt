use Rattle.std.proofs.Common.{arith}
use Rattle.server_commands.proofs.Meaning.{call_kept, call_few}
use Rattle.server_commands.proofs.lines.keep_call.Goals as goal

pub invariant_of-result : goal.invariant_of-result
invariant_of-result c =
    let kept =
    call_kept c.args.call _ c.write_call.new.out c.write_call.result c.unwrap_or-count.result (omega arith) c.write_call.ensures.size
    c.write_call.ensures.bytes c.unwrap_or-count.ensures in
    record { few = omega (arith, kept.0, call_few c.args.call) }

pub returns : goal.returns
returns c =
    call_kept c.args.call _ c.write_call.new.out c.write_call.result c.unwrap_or-count.result (omega arith) c.write_call.ensures.size
    c.write_call.ensures.bytes c.unwrap_or-count.ensures
