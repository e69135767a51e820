use Rattle.std.proofs.Common.{sym}
use Rattle.tables.proofs.Planned.{planned}
use Rattle.tables.proofs.acting.Server.read.Goals as goal

pub invariant_of-result : goal.invariant_of-result
invariant_of-result c =
    let r = (planned c.args.state.now c.in_ok-plan.plan c.in_ok-plan.ensures).roomy in
    record {
      few_tables = r.few_tables;
      few_moves = r.few_moves;
      few_cells = r.few_cells;
      few_players = r.few_players;
      may_sit = r.may_sit;
      may_play = r.may_play;
    }

pub returns : goal.returns
returns c = (sym c.in_ok-plan.ensures, (planned c.args.state.now c.in_ok-plan.plan c.in_ok-plan.ensures).roomy.room)
