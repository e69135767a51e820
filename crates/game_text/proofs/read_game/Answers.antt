use Rattle.std.proofs.Common.{length, Ok, Err, sym, refl, ap, ◌∙◌, arith}
use Rattle.std.proofs.lemmas.Result.{err_from_is_err_and}
use Rattle.game_text.specs.Machine.{is_end, read}
use Rattle.game_text.specs.Room.{machine_of}
use Rattle.game_text.proofs.Answering.{said}
use Rattle.game_text.proofs.Loops.{or_fault, or_went, not_end, all_read, went_step, went_wrong, ended_short, ended_whole, ended_early}
use Rattle.game_text.proofs.read_game.Goals as goal

pub loop-i-init : goal.loop-i-init
unfolding read
loop-i-init c = (record { bytes = omega arith; few = omega arith }, refl)

pub loop-i-preserved : goal.loop-i-preserved
loop-i-preserved c = (
  c.in-Some.ensures.1,
  sym (went_step (machine_of c.args.text.now c.loop-i.i c.loop-i.m c.loop-i.out) _ c.args.text.now c.loop-i.i c.loop-i-test.true c.in-Some.ensures.0) ∙ c.loop-i.invariant.1,
)

pub returns-in_default : goal.returns-in_default
returns-in_default c =
    let t = said c.args.text.now c.args.out.now (record { answer = Err c.fault.result; memory = c.advance.new.out })
    ((λ j. record { answer = c.fault.ensures j; memory = c.in_default.ensures.1 j })
    ∙ sym (went_wrong (machine_of c.args.text.now c.loop-i.i c.loop-i.m c.loop-i.out) c.args.text.now c.loop-i.i c.loop-i-test.true c.in_default.ensures.0)
    ∙ c.loop-i.invariant.1) in
    record { value = t.0; means = t.1 }

pub returns-in_err-p : goal.returns-in_err-p
returns-in_err-p c =
    let p = err_from_is_err_and c.from_residual.result c.from_residual.ensures.1 in
    let e = or_fault c.settle.result c.in_err-p.field-0.0 _ c.in_err-p.ensures.value in
    let h = rw e.0 at c.settle.ensures.value in
    let t = said c.args.text.now c.args.out.now (record { answer = c.from_residual.result; memory = c.settle.new.out })
    ((λ j. record { answer = (p.1 ∙ ap Err (p.2 ∙ e.1) ∙ c.fault-2.ensures) j; memory = h.1 j })
    ∙ sym (ended_short (machine_of c.args.text.now (length c.args.text.now) c.loop-i.m c.loop-i.out) c.args.text.now (length c.args.text.now) (omega arith) h.0)
    ∙ all_read c.args.text.now c.loop-i.m c.loop-i.out c.args.out.now c.loop-i.i (omega arith) c.loop-i.invariant.1) in
    record { value = t.0; means = t.1 }

pub returns-in-End : goal.returns-in-End
returns-in-End c =
    let e = or_went c.settle.result c.in_ok-p.p _ c.in_ok-p.ensures.value in
    let h = rw e at c.settle.ensures.value in
    let t = said c.args.text.now c.args.out.now (record { answer = Ok c.in_ok-p.p.len; memory = c.settle.new.out })
    (sym (ended_whole (machine_of c.args.text.now (length c.args.text.now) c.loop-i.m c.loop-i.out) c.args.text.now (length c.args.text.now) _ (omega arith) h (ap is_end c.in-End.is)) ∙ all_read c.args.text.now c.loop-i.m c.loop-i.out c.args.out.now c.loop-i.i (omega arith) c.loop-i.invariant.1) in
    record { value = t.0; means = t.1 }

pub returns-in_default-stage : goal.returns-in_default-stage
returns-in_default-stage c =
    let e = or_went c.settle.result c.in_ok-p.p _ c.in_ok-p.ensures.value in
    let h = rw e at c.settle.ensures.value in
    let t = said c.args.text.now c.args.out.now (record { answer = Err c.fault-in_default-stage.result; memory = c.settle.new.out })
    ((λ j. record { answer = c.fault-in_default-stage.ensures j; memory = c.settle.new.out })
    ∙ sym (ended_early (machine_of c.args.text.now (length c.args.text.now) c.loop-i.m c.loop-i.out) c.args.text.now (length c.args.text.now) _ (omega arith) h (not_end c.in_ok-p.p.stage c.in_default-stage.not-End)) ∙ all_read c.args.text.now c.loop-i.m c.loop-i.out c.args.out.now c.loop-i.i (omega arith) c.loop-i.invariant.1) in
    record { value = t.0; means = t.1 }
