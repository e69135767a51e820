use Rattle.std.proofs.Common.{◌≡◌, ℕ, suc, ◌+◌, ◌-◌, sym, ap, ◌∙◌, arith, add-zero}
use Rattle.wire.specs.Exprs.{got, read_exprs}
use Rattle.wire.specs.GamesWalk.{found, exprs_parts}
use Rattle.wire.proofs.GamesHead.{no_expression}
use Rattle.wire.proofs.GamesSkip.{tallied, too_few, tallied_step}
use Rattle.wire.proofs.walks.pass_exprs.Goals as goal

pub returns-then-rest-pending-clause-read : goal.returns-then-rest-pending-clause-read
returns-then-rest-pending-clause-read c =
    let l = c.loop-pending in
    sym (ap (tallied l.parts) (too_few l.pending l.rest.now (omega arith))) ∙ l.invariant.read

pub returns-in_err-own-clause-read : goal.returns-in_err-own-clause-read
returns-in_err-own-clause-read c =
    let l = c.loop-pending in
    let more : l.pending ≡ suc (l.pending - 1) = omega arith in
    ap found c.from_residual.ensures
    ∙ sym (ap (tallied l.parts) (ap (λ n. read_exprs n l.rest.now) more ∙ no_expression l.rest.now (l.pending - 1) c.in_err-own.ensures.read))
    ∙ l.invariant.read

pub loop-pending-preserved : goal.loop-pending-preserved
loop-pending-preserved c =
    let l = c.loop-pending in
    let own = c.in_ok-own.own in
    let inner = c.in_ok-own.inner.now in
    let m : ℕ = l.pending - 1 in
    let more : l.pending ≡ suc m = omega arith in
    let order : m + own ≡ own + m = omega arith in
    let few = c.in_ok-own.ensures.few in
    record {
      read =
          ap (λ k. tallied (l.parts + 1) (read_exprs k inner)) order
          ∙ sym (tallied_step l.rest.now own inner m l.parts c.in_ok-own.ensures.read)
          ∙ ap (λ k. tallied l.parts (read_exprs k l.rest.now)) (sym more) ∙ l.invariant.read;
      few = omega (arith, few.1, l.invariant.few);
    }

pub returns-clause-read : goal.returns-clause-read
unfolding read_exprs exprs_parts
returns-clause-read c =
    let l = c.loop-pending in
    let none : 0 ≡ l.pending = omega arith in
    ap (λ n. got n l.rest.now) (sym (add-zero l.parts)) ∙ ap (λ k. tallied l.parts (read_exprs k l.rest.now)) none ∙ l.invariant.read
