use Rattle.std.proofs.Common.{◌+◌, drop, Err, sym, ap, ◌∙◌, arith, rules}
use Rattle.std.proofs.lemmas.Result.{err_from_is_err_and}
use Rattle.text.specs.Reader.{found, digits_at}
use Rattle.text.proofs.Steps.{digits_more, digits_large, digits_other, digits_end, too_large, small_enough}
use Rattle.text.proofs.Cursor.digits.Goals as goal

pub returns-in_err-n-clause-at : goal.returns-in_err-n-clause-at
returns-in_err-n-clause-at c =
    let p = err_from_is_err_and c.from_residual.result c.from_residual.ensures.1 in
    let q = too_large c.with_digit.result _ _ _ c.with_digit.ensures c.in_err-n.ensures.value in
    ap (λ r. found r c.loop-b.self.at) (p.1 ∙ ap Err (p.2 ∙ q.1))
    ∙ sym (digits_large c.rest-b-items.result.now c.loop-b.n c.loop-b.b-index c.loop-b.self.at c.loop-b-test.true (search rules) q.0) ∙ c.loop-b.invariant.2

pub loop-b-preserved : goal.loop-b-preserved
loop-b-preserved c =
    let q = small_enough c.with_digit.result _ _ _ c.with_digit.ensures c.in_ok-n.ensures.value in (
      c.loop-b.invariant.0,
      omega (arith, c.loop-b.invariant.1),
      ap (λ n. digits_at (drop (c.loop-b.b-index + 1) c.rest-b-items.result.now) n (c.loop-b.self.at + 1)) q.1
          ∙ sym (digits_more c.rest-b-items.result.now c.loop-b.n c.loop-b.b-index c.loop-b.self.at c.loop-b-test.true (search rules) q.0) ∙ c.loop-b.invariant.2,
    )

pub returns-after-loop-b-clause-at : goal.returns-after-loop-b-clause-at
returns-after-loop-b-clause-at c =
    sym (digits_end c.rest-b-items.result.now c.loop-b.n c.loop-b.b-index c.loop-b.self.at c.loop-b-test.false) ∙ c.loop-b.invariant.2

pub returns-then-not-is_ascii_digit-clause-at : goal.returns-then-not-is_ascii_digit-clause-at
returns-then-not-is_ascii_digit-clause-at c =
    sym (digits_other c.rest-b-items.result.now c.loop-b.n c.loop-b.b-index c.loop-b.self.at c.loop-b-test.true (search rules)) ∙ c.loop-b.invariant.2
