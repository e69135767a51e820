use Rattle.std.proofs.Common.{◌≡◌, Some, None, Ok, Err, sym, ap, arith, ◌∙◌}
use Rattle.std.proofs.lemmas.Grind.{common_steps}
use Rattle.rules.specs.declared.Reason.TheVariants.{NoMemory, NoTable, Full}
use Rattle.rules.specs.Rules.{turn, is_legal}
use Rattle.rows.specs.Layout.{game_at}
use Rattle.tables.specs.Changes.{one_more}
use Rattle.tables.proofs.Answering.{cells_there, played_nowhere, no_such_table, at_end, not_their_turn, not_legal, too_many, move_there}
use Rattle.tables.proofs.Refusals.{refused_so}
use Rattle.tables.proofs.acting.play.Goals as goal

pub returns-in_err-server : goal.returns-in_err-server
returns-in_err-server c =
    let why : c.in_err-server.field-0.0 ≡ NoMemory = grind (arith, common_steps) in
    let none : c.read.result ≡ None = grind arith in
    let e = played_nowhere (game_at c.args.rules.now) c.args.state.now c.args.table c.args.player c.args.played (rw none at c.read.ensures) in
    record { after = ap (λ o. o.0) e; says = refused_so c.from_residual.result why c.from_residual.ensures.1 ∙ ap (λ o. o.1) e }

pub returns-in_err-record : goal.returns-in_err-record
returns-in_err-record c =
    let why : c.in_err-record.field-0.0 ≡ NoTable = grind (arith, common_steps) in
    let server : c.read.result ≡ Some c.in_ok-server.server = grind arith in
    let none : c.found_record.result ≡ None = grind arith in
    let e = no_such_table (game_at c.args.rules.now) c.args.state.now c.args.table c.args.player c.args.played c.in_ok-server.server.plan
    (rw server at c.read.ensures).0 (rw none at c.found_record.ensures) in
    record {
      after = ap (λ o. o.0) e;
      says = refused_so c.from_residual-in_err-record.result why c.from_residual-in_err-record.ensures.1 ∙ ap (λ o. o.1) e;
    }

pub returns-then-word-ne0 : goal.returns-then-word-ne0
returns-then-word-ne0 c =
    let server : c.read.result ≡ Some c.in_ok-server.server = grind arith in
    let found : c.found_record.result ≡ Some c.in_ok-record.record = grind arith in
    let this = rw found at c.found_record.ensures in
    let end = rw (this.1, this.2) at c.word.ensures in
    let e = at_end (game_at c.args.rules.now) c.args.state.now c.args.table c.args.player c.args.played c.in_ok-server.server.plan
    (rw server at c.read.ensures).0 this.0 (λ z. c.if-word-ne0.true (end ∙ z)) in
    record { after = ap (λ o. o.0) e; says = ap (λ y. Err y) c.into.ensures ∙ ap (λ o. o.1) e }

pub returns-then-player-turn : goal.returns-then-player-turn
returns-then-player-turn c =
    let server : c.read.result ≡ Some c.in_ok-server.server = grind arith in
    let found : c.found_record.result ≡ Some c.in_ok-record.record = grind arith in
    let this = rw found at c.found_record.ensures in
    let end = rw (this.1, this.2) at c.word.ensures in
    let whose = c.turn.ensures ∙ ap (turn (game_at c.args.rules.now)) (cells_there c.args.state.now c.in_ok-server.server.plan.cells this.2) in
    let e = not_their_turn (game_at c.args.rules.now) c.args.state.now c.args.table c.args.player c.args.played c.in_ok-server.server.plan
    (rw server at c.read.ensures).0 this.0 (sym end ∙ c.if-word-ne0.false) (λ i. c.if-player-turn.true (i ∙ sym whose)) in
    record { after = ap (λ o. o.0) e; says = ap (λ y. Err y) c.into-then-player-turn.ensures ∙ ap (λ o. o.1) e }

pub returns-then-not-is_legal : goal.returns-then-not-is_legal
returns-then-not-is_legal c =
    let server : c.read.result ≡ Some c.in_ok-server.server = grind arith in
    let found : c.found_record.result ≡ Some c.in_ok-record.record = grind arith in
    let this = rw found at c.found_record.ensures in
    let end = rw (this.1, this.2) at c.word.ensures in
    let here = cells_there c.args.state.now c.in_ok-server.server.plan.cells this.2 in
    let e = not_legal (game_at c.args.rules.now) c.args.state.now c.args.table c.args.player c.args.played c.in_ok-server.server.plan
    (rw server at c.read.ensures).0 this.0 (sym end ∙ c.if-word-ne0.false)
    (c.if-player-turn.false ∙ c.turn.ensures ∙ ap (turn (game_at c.args.rules.now)) here)
    (c.if-not-is_legal.ensures ∙ ap (λ q. is_legal (game_at c.args.rules.now) q c.args.played) here) in
    record { after = ap (λ o. o.0) e; says = ap (λ y. Err y) c.into-then-not-is_legal.ensures ∙ ap (λ o. o.1) e }

pub returns-in_err-entry : goal.returns-in_err-entry
returns-in_err-entry c =
    let why : c.in_err-entry.field-0.0 ≡ Full = grind (arith, common_steps) in
    let server : c.read.result ≡ Some c.in_ok-server.server = grind arith in
    let found : c.found_record.result ≡ Some c.in_ok-record.record = grind arith in
    let none : c.free_entry.result ≡ None = grind arith in
    let this = rw found at c.found_record.ensures in
    let end = rw (this.1, this.2) at c.word.ensures in
    let here = cells_there c.args.state.now c.in_ok-server.server.plan.cells this.2 in
    let e = too_many (game_at c.args.rules.now) c.args.state.now c.args.table c.args.player c.args.played c.in_ok-server.server.plan
    (rw server at c.read.ensures).0 this.0 (sym end ∙ c.if-word-ne0.false)
    (c.if-player-turn.false ∙ c.turn.ensures ∙ ap (turn (game_at c.args.rules.now)) here)
    (c.if-not-is_legal.ensures ∙ ap (λ q. is_legal (game_at c.args.rules.now) q c.args.played) here) (rw none at c.free_entry.ensures) in
    record {
      after = ap (λ o. o.0) e;
      says = refused_so c.from_residual-in_err-entry.result why c.from_residual-in_err-entry.ensures.1 ∙ ap (λ o. o.1) e;
    }

pub returns : goal.returns
returns c =
    let server : c.read.result ≡ Some c.in_ok-server.server = grind arith in
    let found : c.found_record.result ≡ Some c.in_ok-record.record = grind arith in
    let free : c.free_entry.result ≡ Some c.in_ok-entry.entry = grind arith in
    let this = rw found at c.found_record.ensures in
    let end = rw (this.1, this.2) at c.word.ensures in
    let count = rw (this.1, this.2) at c.word-count.ensures in
    let here = cells_there c.args.state.now c.in_ok-server.server.plan.cells this.2 in
    let e = move_there (game_at c.args.rules.now) c.args.state.now c.args.table c.args.player c.args.played c.in_ok-server.server.plan
    (rw server at c.read.ensures).0 this.0 (sym end ∙ c.if-word-ne0.false)
    (c.if-player-turn.false ∙ c.turn.ensures ∙ ap (turn (game_at c.args.rules.now)) here)
    (c.if-not-is_legal.ensures ∙ ap (λ q. is_legal (game_at c.args.rules.now) q c.args.played) here) (rw free at c.free_entry.ensures).0 in
    record {
      after = rw (this.1, this.2) at c.add_move.ensures ∙ ap (λ o. o.0) e;
      says = ap (λ n. Ok n) (c.saturating_add.ensures ∙ ap one_more count) ∙ ap (λ o. o.1) e;
    }
