use Rattle.std.proofs.Common.{◌≡◌, Some, None, Ok, refl, ap, arith, ◌∙◌}
use Rattle.std.proofs.lemmas.Grind.{common_steps}
use Rattle.rules.specs.declared.Reason.TheVariants.{NoMemory, NoTable}
use Rattle.tables.proofs.Answering.{seat_nowhere, seat_missing, seat_there}
use Rattle.tables.proofs.Refusals.{refused_so}
use Rattle.tables.proofs.acting.find_table.Goals as goal

pub returns-in_err-server : goal.returns-in_err-server
returns-in_err-server c =
    let why : c.in_err-server.field-0.0 ≡ NoMemory = grind (arith, common_steps) in
    let none : c.read.result ≡ None = grind arith in
    refused_so c.from_residual.result why c.from_residual.ensures.1 ∙ seat_nowhere c.args.state.now c.args.table (rw none at c.read.ensures)

pub returns-in_err-record : goal.returns-in_err-record
returns-in_err-record c =
    let why : c.in_err-record.field-0.0 ≡ NoTable = grind (arith, common_steps) in
    let server : c.read.result ≡ Some c.in_ok-server.server = grind arith in
    let none : c.found_record.result ≡ None = grind arith in
    refused_so c.from_residual-in_err-record.result why c.from_residual-in_err-record.ensures.1
    ∙ seat_missing c.args.state.now c.args.table c.in_ok-server.server.plan (rw server at c.read.ensures).0 (rw none at c.found_record.ensures)

pub returns : goal.returns
returns c =
    let server : c.read.result ≡ Some c.in_ok-server.server = grind arith in
    let found : c.found_record.result ≡ Some c.in_ok-record.record = grind arith in
    let this = rw found at c.found_record.ensures in
    ap (λ q. Ok q) (c.seat.ensures ∙ rw (this.1, this.2) refl)
    ∙ seat_there c.args.state.now c.args.table c.in_ok-server.server.plan (rw server at c.read.ensures).0 this.0
