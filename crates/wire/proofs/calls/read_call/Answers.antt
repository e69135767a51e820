use Rattle.std.proofs.Common.{◌≡◌, ◌<◌, length, get_or, arith}
use Rattle.std.proofs.lemmas.Grind.{common_steps}
use Rattle.wire.specs.CallKinds.{byte_of}
use Rattle.wire.proofs.CallBytes.{read_none, read_unknown, read_part, read_whole, kind_known}
use Rattle.wire.proofs.calls.read_call.Goals as goal

pub returns-in_err-byte : goal.returns-in_err-byte
returns-in_err-byte c = grind (arith, common_steps, read_none c.args.bytes.now)

pub returns-in_err-kind : goal.returns-in_err-kind
returns-in_err-kind c = grind (arith, common_steps, read_unknown c.args.bytes.now)

pub returns-then-bytes-wanted : goal.returns-then-bytes-wanted
returns-then-bytes-wanted c =
    let bs = c.args.bytes.now in
    let kind = c.in_ok-kind.kind in
    let some : 0 < length bs = grind (arith, common_steps) in
    let is : byte_of kind ≡ get_or bs 0 0 = grind (arith, common_steps) in
    read_part bs (byte_of kind) c.fields.result c.min.result (kind_known bs kind some is) c.fields.ensures c.if-bytes-wanted.true c.min.ensures

pub returns : goal.returns
returns c =
    let bs = c.args.bytes.now in
    let kind = c.in_ok-kind.kind in
    let some : 0 < length bs = grind (arith, common_steps) in
    let is : byte_of kind ≡ get_or bs 0 0 = grind (arith, common_steps) in
    read_whole bs (byte_of kind) c.fields.result c.call_at.result (kind_known bs kind some is) c.fields.ensures c.if-bytes-wanted.false c.call_at.ensures
