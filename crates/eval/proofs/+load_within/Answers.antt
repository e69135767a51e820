use Rattle.std.proofs.Common.{◌≡◌, ℕ, ◌-◌, ◌≤◌, length, take, [], ◌∷◌, ◌++◌, refl, sym, ap, ◌∙◌, rules, arith}
use Rattle.std.proofs.lemmas.List.{take_rest, get_or_append_left, length-take-le}
use Rattle.std.proofs.lemmas.Result.{err_from_is_err_and}
use denote.Enum.Bare.{same_true, same_false}
use Rattle.wire.specs.Kinds.{kind_number}
use Rattle.wire.specs.declared.kinds.ExprKind.TheVariants.{Num}
use Rattle.wire.specs.contracts.kinds.ExprKind.{the_type}
use Rattle.eval.proofs.Loading.{at_levels, other_kind, number, no_parts, next_part, all_parts, refuse}
use Rattle.eval.proofs.+load_within.Goals as goal

-- as many places as there are parts
slots : (n : ℕ) → n ≤ 3 → length {A = ℕ} (take n (0 ∷ 0 ∷ 0 ∷ [])) ≡ n
slots n few = length-take-le {A = ℕ} n (0 ∷ 0 ∷ 0 ∷ []) few

pub returns-in_err-kind : goal.returns-in_err-kind
returns-in_err-kind t c =
    let p = err_from_is_err_and c.from_residual.result c.from_residual.ensures.1 in
    rw (p.1, p.2, c.in_err-kind.ensures.0) (record { outcome = c.in_err-kind.ensures.1; before = λ k h. refl })

pub returns-then-eq : goal.returns-then-eq
returns-then-eq t c =
    let none : kind_number c.in_ok-kind.kind ≡ 0 = ap kind_number (same_true the_type (search rules) c.in_ok-kind.kind Num (sym c.if-eq.ensures)) in
    at_levels c.args.levels c.args.bytes.now c.args.at _ _ _ c.if-levels-eq0.false
    (number c.args.bytes.now _ c.args.at _ _ _ _ _ none (c.from-number.ensures ∙ c.two_bytes.ensures.value) c.in_ok-kind.ensures.1
    (c.in_ok-kind.ensures.2 none) (omega arith) c.put_row.ensures)

pub loop-place-init : goal.loop-place-init
loop-place-init t c = ([], no_parts c.args.bytes.now c.args.rules.now _ c.args.at _ c.in_ok-kind.ensures.0)

pub returns-in_err-part : goal.returns-in_err-part
returns-in_err-part t c =
    let bs = c.args.bytes.now in
    let p = err_from_is_err_and c.from_residual-in_err-part.result c.from_residual-in_err-part.ensures.1 in
    let known = other_kind c.in_ok-kind.kind (same_false the_type _ _ (sym c.if-eq.ensures)) in
    let arity = c.arity.ensures.known known.0 in
    rw (p.1, p.2) (at_levels c.args.levels bs c.args.at _ _ _ c.if-levels-eq0.false
    (refuse bs (kind_number c.in_ok-kind.kind - 1) c.in_ok-kind.ensures.0 (omega (arith, c.in_ok-kind.ensures.1)) (omega arith) _ _ _ _ _ _ _ _ _
    c.loop-place.invariant.1 (omega (arith, slots c.arity.result c.arity.ensures.few)) _ _ _ (take_rest bs c.loop-place.used) c.in_err-part.ensures))

pub loop-place-preserved : goal.loop-place-preserved
loop-place-preserved t c =
    let part = c.in_ok-part.ensures in (
      c.loop-place.invariant.0 ++ part.outcome.0 ∷ [],
      next_part c.args.bytes.now _ _ _ _ _ _ _ _ _ c.loop-place.invariant.1 (omega arith) _ _ _ _ part.outcome.0
          (take_rest c.args.bytes.now c.loop-place.used) part.before part.outcome.1,
    )

pub returns : goal.returns
returns t c =
    let bs = c.args.bytes.now in
    let known = other_kind c.in_ok-kind.kind (same_false the_type _ _ (sym c.if-eq.ensures)) in
    let arity = c.arity.ensures.known known.0 in
    at_levels c.args.levels bs c.args.at _ _ _ c.if-levels-eq0.false
    (all_parts bs (kind_number c.in_ok-kind.kind - 1) c.in_ok-kind.ensures.0 (omega (arith, c.in_ok-kind.ensures.1)) (omega arith) _ _ _ _ _ _ _ _ _
    c.loop-place.invariant.1 _ _ _ (omega (arith, slots c.arity.result c.arity.ensures.few))
    (λ j h. get_or_append_left c.loop-place.place-items _ 0 j (omega arith)) (rw (← c.in_ok-kind.ensures.1) at c.put_row-2.ensures))
