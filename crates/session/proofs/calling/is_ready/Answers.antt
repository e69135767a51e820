use Rattle.std.proofs.Common.{sym}
use Rattle.session.specs.Opening.{lent}
use Rattle.session.proofs.Readiness.{ready_without, short_rules, short_scratch, by_answer}
use Rattle.session.proofs.calling.is_ready.Goals as goal

pub returns-in_default : goal.returns-in_default
returns-in_default c = sym (ready_without _ c.in_default.ensures)

pub returns-then-word_at-rules : goal.returns-then-word_at-rules
returns-then-word_at-rules c =
    short_rules (lent c.args.rules.now c.args.state.now c.args.scratch.now c.args.answer.now) c.in-Some._plan c.in-Some.ensures
    c.word_at.result c.word_at.ensures c.if-word_at-rules.true

pub returns-then-word_at-scratch : goal.returns-then-word_at-scratch
returns-then-word_at-scratch c =
    short_scratch (lent c.args.rules.now c.args.state.now c.args.scratch.now c.args.answer.now) c.in-Some._plan
    c.in-Some.ensures c.word_at-2.result c.word_at-2.ensures c.if-word_at-scratch.true

pub returns : goal.returns
returns c =
    by_answer (lent c.args.rules.now c.args.state.now c.args.scratch.now c.args.answer.now) c.in-Some._plan c.in-Some.ensures
    c.word_at.result c.word_at-2.result c.word_at-3.result c.word_at.ensures c.word_at-2.ensures c.word_at-3.ensures
    c.if-word_at-rules.false c.if-word_at-scratch.false
