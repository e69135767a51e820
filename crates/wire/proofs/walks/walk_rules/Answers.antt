use Rattle.std.proofs.Common.{◌≡◌, ℕ, suc, ◌+◌, ◌-◌, sym, ap, ◌∙◌, arith}
use Rattle.wire.specs.Games.{read_rules}
use Rattle.wire.specs.GamesWalk.{found}
use Rattle.wire.proofs.GamesRules.{added, added_step, added_end, no_rule}
use Rattle.wire.proofs.walks.walk_rules.Goals as goal

pub returns-in_err-one-clause-read : goal.returns-in_err-one-clause-read
returns-in_err-one-clause-read c =
    let l = c.loop-rule in
    let rest = l.rest.now in
    let m : ℕ = c.args.count - (l.rule + 1) in
    let more : c.args.count - l.rule ≡ suc m = omega arith in
    ap found c.from_residual.ensures
    ∙ sym (ap (added l.totals l.rule) (ap (λ n. read_rules n rest) more ∙ no_rule rest l.rule m c.in_err-one.ensures.read)) ∙ l.invariant.read

pub loop-rule-preserved : goal.loop-rule-preserved
loop-rule-preserved c =
    let l = c.loop-rule in
    let rest = l.rest.now in
    let one = c.in_ok-one.one in
    let behind = c.in_ok-one.behind.now in
    let m : ℕ = c.args.count - (l.rule + 1) in
    let more : suc m ≡ c.args.count - l.rule = omega arith in
    let few = l.invariant.few in
    let step = c.in_ok-one.ensures.few in
    let sum = c.add-totals.ensures in
    record {
      read =
          ap (λ t. added t (l.rule + 1) (read_rules m behind)) sum
          ∙ sym (added_step rest l.rule m l.totals one behind c.in_ok-one.ensures.read)
          ∙ ap (λ n. added l.totals l.rule (read_rules n rest)) more ∙ l.invariant.read;
      few = record {
        effects = omega (arith, ap (λ t. t.effects) sum, few.effects, step.effects);
        moves = omega (arith, ap (λ t. t.moves) sum, few.moves, step.moves);
        parts = omega (arith, ap (λ t. t.parts) sum, few.parts, step.parts);
      };
    }

pub returns-clause-read : goal.returns-clause-read
returns-clause-read c =
    let l = c.loop-rule in
    let none : 0 ≡ c.args.count - l.rule = omega arith in
    sym (added_end l.totals l.rule l.rest.now) ∙ ap (λ n. added l.totals l.rule (read_rules n l.rest.now)) none ∙ l.invariant.read
