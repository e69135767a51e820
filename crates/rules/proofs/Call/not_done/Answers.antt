use Rattle.std.proofs.Common.{sym, ap, ◌∙◌}
use Rattle.rules.specs.Calls.{refusal_place}
use Rattle.rules.proofs.Refusing.{deep_place, flat_place, other_place}
use Rattle.rules.proofs.Call.not_done.Goals as goal
use Rattle.rules.proofs.Call.not_done.Goals.{in-CanForce+then-within-gt-DEEPEST, in-CanForce+else-within-gt-DEEPEST, in_default}

pub returns-clause-place : goal.returns-clause-place
returns-clause-place c =
    ap (λ r. r.place) c.into.ensures
    ∙ elim c.match-self.branch [
      | in-CanForce+then-within-gt-DEEPEST w ↦
          w.field-is ∙ (deep_place _ _ _ _ w.if-within-gt-DEEPEST.true ∙ ap (λ x. refusal_place x 2) (sym w.in-CanForce.is))
      | in-CanForce+else-within-gt-DEEPEST w ↦
          w.field-is ∙ (flat_place _ _ _ _ w.if-within-gt-DEEPEST.false ∙ ap (λ x. refusal_place x 2) (sym w.in-CanForce.is))
      | in_default w ↦ w.field-is ∙ other_place c.args.self w.in_default.not-CanForce
    ]
