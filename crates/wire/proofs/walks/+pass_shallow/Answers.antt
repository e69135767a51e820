use Rattle.std.proofs.Common.{◌≡◌, ℕ, suc, ◌+◌, ◌-◌, sym, ap, ◌∙◌, arith}
use Rattle.std.specs.Prelude.{option_copied}
use Rattle.std.proofs.lemmas.Grind.{common_steps}
use Rattle.wire.specs.Exprs.{read_exprs}
use Rattle.wire.specs.GamesWalk.{within_levels, behind}
use Rattle.wire.proofs.GamesHead.{no_expression}
use Rattle.wire.proofs.GamesCheck.{below_from}
use Rattle.wire.proofs.GamesShallow.{no_level, deep_parts, past_parts, rest_below}
use Rattle.wire.proofs.walks.+pass_shallow.Goals as goal

pub loop-passed-init : goal.loop-passed-init
loop-passed-init t c = record {
  read = let all : c.args.count - 0 ≡ c.args.count = omega arith in ap (λ n. behind c.args.levels (read_exprs n c.args.bytes.now)) all;
  small = below_from c.args.bytes.now (λ i. (c.type_inv.bytes i).fits);
}

pub returns-in_err-parts : goal.returns-in_err-parts
returns-in_err-parts t c =
    let l = c.loop-passed in
    let m : ℕ = c.args.count - (l._passed + 1) in
    let more : c.args.count - l._passed ≡ suc m = omega arith in
    ap option_copied c.from_residual.ensures
    ∙ sym (ap (behind c.args.levels) (ap (λ n. read_exprs n l.rest.now) more ∙ no_expression l.rest.now m c.in_err-parts.ensures.read))
    ∙ l.invariant.read

pub returns-in_err-checked_sub : goal.returns-in_err-checked_sub
returns-in_err-checked_sub t c =
    let l = c.loop-passed in
    let m : ℕ = c.args.count - (l._passed + 1) in
    let more : suc m ≡ c.args.count - l._passed = omega arith in
    let none : 0 ≡ c.args.levels = grind (arith, common_steps) in
    ap option_copied c.from_residual-in_err-checked_sub.ensures ∙ no_level m l.rest.now
    ∙ (λ i. behind (none i) (read_exprs (more i) l.rest.now)) ∙ l.invariant.read

pub returns-in_err-rest : goal.returns-in_err-rest
returns-in_err-rest t c =
    let l = c.loop-passed in
    let m : ℕ = c.args.count - (l._passed + 1) in
    let level = c.in_ok-checked_sub.field-0 in
    let more : suc m ≡ c.args.count - l._passed = omega arith in
    let levels : suc level ≡ c.args.levels = grind (arith, common_steps) in
    ap option_copied c.from_residual-in_err-rest.ensures
    ∙ deep_parts l.rest.now c.in_ok-parts.parts c.in_ok-parts.inner.now m level l.invariant.small c.in_ok-parts.ensures.read _ _ more levels
    c.in_err-rest.ensures
    ∙ l.invariant.read

pub loop-passed-preserved : goal.loop-passed-preserved
loop-passed-preserved t c =
    let l = c.loop-passed in
    let m : ℕ = c.args.count - (l._passed + 1) in
    let level = c.in_ok-checked_sub.field-0 in
    let more : suc m ≡ c.args.count - l._passed = omega arith in
    let levels : suc level ≡ c.args.levels = grind (arith, common_steps) in
    let parts = c.in_ok-parts.parts in
    let inner = c.in_ok-parts.inner.now in
    record {
      read = past_parts l.rest.now parts inner m level l.invariant.small c.in_ok-parts.ensures.read _ _ more levels c.in_ok-rest.rest.now c.in_ok-rest.ensures ∙ l.invariant.read;
      small = rest_below l.rest.now parts inner m level l.invariant.small c.in_ok-parts.ensures.read c.in_ok-rest.rest.now c.in_ok-rest.ensures;
    }

pub returns : goal.returns
unfolding read_exprs within_levels
returns t c =
    let l = c.loop-passed in
    let none : 0 ≡ c.args.count - l._passed = omega arith in
    ap (λ n. behind c.args.levels (read_exprs n l.rest.now)) none ∙ l.invariant.read
