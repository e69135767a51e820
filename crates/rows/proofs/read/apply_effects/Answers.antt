use Rattle.std.proofs.Common.{sym, ◌∙◌}
use Rattle.rows.proofs.Reading.{one_more, none_left}
use Rattle.rows.proofs.read.apply_effects.Goals as goal

pub loop-i-preserved : goal.loop-i-preserved
loop-i-preserved c =
    one_more c.args.rules.now c.args.first c.args.second c.args.me c.args.row.effects_at c.loop-i.cells c.loop-i-test.true
    c.read_effect-effect.ensures.cell c.eval-cell.ensures c.read_effect-effect.ensures.value c.eval-value.ensures c.put.ensures
    ∙ c.loop-i.invariant

pub returns : goal.returns
returns c =
    sym (none_left c.args.rules.now c.args.first c.args.second c.args.me _ _ _ _ c.loop-i-test.false) ∙ c.loop-i.invariant
