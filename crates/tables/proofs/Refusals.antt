-- What the exit of a `?` answers that names a reason.
use Rattle.std.proofs.Common.{◌≡◌, Err, Result, ap, ◌∙◌}
use Rattle.std.proofs.lemmas.Result.{err_from_is_err_and}
use Rattle.std.specs.Result.{IsErrAnd}
use Rattle.rules.specs.declared.Refusal.{Refusal}
use Rattle.rules.specs.declared.Reason.{Reason}
use Rattle.rules.specs.Reasons.{refusal_by}

pub refused_so :
    {A : Type 0} (r : Result A Refusal) {d why : Reason} → d ≡ why → IsErrAnd r (λ y. y ≡ refusal_by d) → r ≡ Err (refusal_by why)
refused_so r e h =
    let p = err_from_is_err_and r h in
    p.1 ∙ ap (λ y. Err y) (p.2 ∙ ap refusal_by e)
