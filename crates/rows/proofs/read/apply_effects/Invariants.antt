use Rattle.std.proofs.Common.{◌≡◌, ◌+◌, ◌-◌, ◌*◌}
use Rattle.rules.specs.Rules.{apply_effects}
use Rattle.rows.specs.Layout.{effects_at}
use Rattle.rows.proofs.read.apply_effects.Given as goal

-- the effects that are left give the result
abbrev pub invariant-loop-i : goal.invariant-loop-i
invariant-loop-i l =
    apply_effects (effects_at l.rules (l.row.effects_at + 2 * l.i) (l.row.effects - l.i)) l.cells l.first l.second l.me
    ≡ apply_effects (effects_at l.rules l.row.effects_at l.row.effects) l.initial.cells l.first l.second l.me
