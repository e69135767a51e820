use Rattle.std.proofs.Common.{refl, ◌∙◌, arith, rules}
use Rattle.session.specs.Opening.{Lent, lent, SameLengths}
use Rattle.session.proofs.Served.{words_fit, left_alone, low_place, acted, misread, acts_as}
use Rattle.session.proofs.calling.call.Goals as goal
use Rattle.session.proofs.calling.call.Goals.{in-Ok, in-Err}

pub returns-then-not-is_ready : goal.returns-then-not-is_ready
returns-then-not-is_ready c =
    let m : Lent = lent c.args.rules.now c.args.state.now c.args.scratch.now c.args.answer.now in
    left_alone m c.args.call.now (words_fit m (λ i. search rules) (λ i. search rules) (λ i. search rules) (λ i. search rules))
    c.if-not-is_ready.ensures

pub overflow_cast-place : goal.overflow_cast-place
overflow_cast-place c = let low = low_place c.args.call.now c.in-Err.place c.in-Err.ensures in omega (arith, low)

pub returns : goal.returns
returns c =
    let n : Lent = lent c.args.rules.now c.match-read_call.state c.args.scratch.now c.match-read_call.answer in
    let fits = words_fit n (λ i. search rules) (λ i. search rules) (λ i. search rules) (λ i. search rules) in
    let m : Lent = lent c.args.rules.now c.args.state.now c.args.scratch.now c.args.answer.now in
    let long : SameLengths m n = record { rules = refl; state = c.match-read_call.auto.state; scratch = refl; answer = c.match-read_call.auto.answer } in
    elim c.match-read_call.branch [
      | in-Ok w ↦
          acted c.args.rules.now c.args.state.now c.args.scratch.now c.args.answer.now c.args.call.now c.match-read_call.state c.match-read_call.answer
          c.unwrap_or.result c.match-read_call.size c.unwrap_or.ensures c.if-not-is_ready.ensures long fits w.in-Ok.asked w.in-Ok.ensures
          (acts_as c.args.rules.now c.args.state.now c.args.answer.now w.in-Ok.asked w.act-size.new.state c.match-read_call.state
          w.act-size.new.answer c.match-read_call.answer w.act-size.result c.match-read_call.size w.state-is w.answer-is w.size-is
          w.act-size.ensures)
      | in-Err w ↦
          misread c.args.rules.now c.args.state.now c.args.scratch.now c.args.answer.now c.args.call.now c.match-read_call.state c.match-read_call.answer
          c.unwrap_or.result c.match-read_call.size c.unwrap_or.ensures c.if-not-is_ready.ensures long fits w.in-Err.place w.in-Err.ensures w.state-is (rw w.into.ensures at (w.size-is ∙ w.write_refusal-size.ensures.size))
          (rw w.into.ensures at (w.answer-is ∙ w.write_refusal-size.ensures.bytes))
    ]
