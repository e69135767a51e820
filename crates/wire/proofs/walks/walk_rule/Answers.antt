use Rattle.std.proofs.Common.{◌≡◌, ◌+◌, ◌*◌, Bool, not, ◌||◌, ◌∷◌, is_some, sym, refl, ap, ◌∙◌, arith}
use Rattle.std.proofs.lemmas.Grind.{common_steps}
use Rattle.wire.specs.Exprs.{got, read_exprs}
use Rattle.wire.specs.GamesWalk.{found, as_read, behind, rule_bound, one_total}
use Rattle.wire.proofs.GamesRule.{no_first, no_second, no_guard, no_count, no_effects, second_was, rule_found}
use Rattle.wire.proofs.walks.walk_rule.Goals as goal
use Rattle.wire.proofs.walks.walk_rule.Goals.{then-is_deep, else-is_deep}

pub returns-in_err-first-clause-read : goal.returns-in_err-first-clause-read
returns-in_err-first-clause-read c =
    ap found c.from_residual.ensures ∙ sym (ap (as_read (one_total c.args.rule)) (no_first c.args.bytes.now c.in_err-first.ensures.read))

pub returns-in_err-second-clause-read : goal.returns-in_err-second-clause-read
returns-in_err-second-clause-read c =
    ap found c.from_residual-in_err-second.ensures
    ∙ sym (ap (as_read (one_total c.args.rule)) (no_second c.args.bytes.now c.in_ok-first.rest.now c.in_ok-first.first c.in_ok-first.ensures.read c.in_err-second.ensures.read))

pub returns-in_err-guard_parts-clause-read : goal.returns-in_err-guard_parts-clause-read
returns-in_err-guard_parts-clause-read c =
    ap found c.from_residual-in_err-guard_parts.ensures
    ∙ sym (ap (as_read (one_total c.args.rule)) (no_guard c.args.bytes.now c.in_ok-first.rest.now c.in_ok-first.first c.in_ok-first.ensures.read
    c.in_ok-second.guard.now c.in_ok-second.second c.in_ok-second.ensures.read c.in_err-guard_parts.ensures.read))

pub returns-in_err-count-clause-read : goal.returns-in_err-count-clause-read
returns-in_err-count-clause-read c =
    ap found c.from_residual-in_err-count.ensures
    ∙ sym (ap (as_read (one_total c.args.rule)) (no_count c.args.bytes.now c.in_ok-first.rest.now c.in_ok-first.first c.in_ok-first.ensures.read
    c.in_ok-second.guard.now c.in_ok-second.second c.in_ok-second.ensures.read c.in_ok-guard_parts.rest.now c.in_ok-guard_parts.guard_parts
    c.in_ok-guard_parts.ensures.read c.in_err-count.ensures.cases))

pub returns-in_err-effect_parts-clause-read : goal.returns-in_err-effect_parts-clause-read
returns-in_err-effect_parts-clause-read c =
    let n = c.from-values.result in
    let count = c.in_ok-count.ensures.cases.0 ∙ ap (λ x. x ∷ c.in_ok-count.effects.now) (sym c.from-values.ensures) in
    ap found c.from_residual-in_err-effect_parts.ensures
    ∙ sym (ap (as_read (one_total c.args.rule)) (no_effects c.args.bytes.now c.in_ok-first.rest.now c.in_ok-first.first c.in_ok-first.ensures.read
    c.in_ok-second.guard.now c.in_ok-second.second c.in_ok-second.ensures.read c.in_ok-guard_parts.rest.now c.in_ok-guard_parts.guard_parts
    c.in_ok-guard_parts.ensures.read c.in_ok-count.effects.now n count c.in_err-effect_parts.ensures.read))

pub returns-clause-read : goal.returns-clause-read
returns-clause-read c =
    let n = c.from-values.result in
    let r₄ = c.in_ok-count.effects.now in
    let a = c.from-first.ensures in
    let b = c.from-second.ensures in
    let g = c.in_ok-guard_parts.guard_parts in
    let x = c.in_ok-effect_parts.effect_parts in
    let count = c.in_ok-count.ensures.cases.0 ∙ ap (λ x. x ∷ r₄) (sym c.from-values.ensures) in
    let w = second_was c.args.bytes.now c.in_ok-first.rest.now c.in_ok-second.guard.now c.in_ok-first.first c.in_ok-second.second c.in_ok-first.ensures.read c.in_ok-second.ensures.read in
    let bound : c.large_bound.result ≡ rule_bound c.args.rule c.in_ok-first.first c.in_ok-second.second = grind (arith, common_steps, w) in
    let deep : Bool = not (is_some (behind 33 (read_exprs 1 c.in_ok-second.guard.now))) || not (is_some (behind 33 (read_exprs (2 * n) r₄))) in
    let is : c.if-is_deep.totals ≡ deep =
    elim c.if-is_deep.branch [ then-is_deep w ↦ grind (arith, common_steps) | else-is_deep w ↦ grind (arith, common_steps) ] in
    let effects : c.from.result ≡ n = omega (arith, c.from.ensures, c.from-values.ensures) in
    let more : c.from-2.result ≡ n = omega (arith, c.from-2.ensures, c.from-values.ensures) in
    (λ i. got (record { effects = effects i; moves = a i * b i; parts = 1 + g + more i + x; bound = bound i; deep = is i })
    c.in_ok-effect_parts.rest.now)
    ∙ rule_found c.args.bytes.now c.in_ok-first.rest.now c.in_ok-first.first c.in_ok-first.ensures.read c.in_ok-second.guard.now
    c.in_ok-second.second c.in_ok-second.ensures.read c.in_ok-guard_parts.rest.now g c.in_ok-guard_parts.ensures.read r₄ n count
    c.in_ok-effect_parts.rest.now x c.in_ok-effect_parts.ensures.read c.args.rule deep refl
