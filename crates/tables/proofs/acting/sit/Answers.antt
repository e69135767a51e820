use Rattle.std.proofs.Common.{◌≡◌, Some, None, Ok, ap, arith, ◌∙◌}
use Rattle.std.proofs.lemmas.Grind.{common_steps}
use Rattle.rules.specs.declared.Reason.TheVariants.{NoMemory, Full}
use Rattle.rows.specs.Layout.{game_at}
use Rattle.tables.proofs.Answering.{sat_nowhere, sat_full, sat_there}
use Rattle.tables.proofs.Refusals.{refused_so}
use Rattle.tables.proofs.acting.sit.Goals as goal

pub returns-in_err-server : goal.returns-in_err-server
returns-in_err-server c =
    let why : c.in_err-server.field-0.0 ≡ NoMemory = grind (arith, common_steps) in
    let none : c.read.result ≡ None = grind arith in
    let e = sat_nowhere (game_at c.args.rules.now) c.args.state.now c.args.ticks (rw none at c.read.ensures) in
    record { after = ap (λ o. o.0) e; says = refused_so c.from_residual.result why c.from_residual.ensures.1 ∙ ap (λ o. o.1) e }

pub returns-in_err-record : goal.returns-in_err-record
returns-in_err-record c =
    let why : c.in_err-record.field-0.0 ≡ Full = grind (arith, common_steps) in
    let server : c.read.result ≡ Some c.in_ok-server.server = grind arith in
    let none : c.free_record.result ≡ None = grind arith in
    let e = sat_full (game_at c.args.rules.now) c.args.state.now c.args.ticks c.in_ok-server.server.plan
    (rw server at c.read.ensures).0 (rw none at c.free_record.ensures) in
    record {
      after = ap (λ o. o.0) e;
      says = refused_so c.from_residual-in_err-record.result why c.from_residual-in_err-record.ensures.1 ∙ ap (λ o. o.1) e;
    }

pub returns : goal.returns
returns c =
    let server : c.read.result ≡ Some c.in_ok-server.server = grind arith in
    let found : c.free_record.result ≡ Some c.in_ok-record.record = grind arith in
    let this = rw found at c.free_record.ensures in
    let e = sat_there (game_at c.args.rules.now) c.args.state.now c.args.ticks c.in_ok-server.server.plan
    (rw server at c.read.ensures).0 this.0 in
    record {
      after = c.add_table.ensures.after ∙ rw this.1 (ap (λ o. o.0) e);
      says = ap (λ x. Ok x) c.add_table.ensures.says ∙ rw this.1 (ap (λ o. o.1) e);
    }
