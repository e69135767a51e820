use Rattle.std.proofs.Common.{ap, ◌∙◌}
use Rattle.rules.specs.Calls.{refused, number, forced}
use Rattle.answers.specs.declared.kinds.AnswerKind.TheVariants.{Refused, Number, Shown, Listed, Forced}
use Rattle.answers.specs.Answers.{whole}
use Rattle.answers.proofs.ReadingLemmas.{read_whole, of_kind, of_none, of_unknown}
use Rattle.answers.proofs.reading.read_parts.Goals as goal

pub returns-in_err-first : goal.returns-in_err-first
returns-in_err-first c = rw c.from_residual.ensures (of_none c.args.bytes.now c.in_err-first.ensures.value)

pub returns-in_err-ok : goal.returns-in_err-ok
returns-in_err-ok c =
    rw c.from_residual-in_err-ok.ensures
    (of_unknown c.args.bytes.now c.in_ok-first.field-0.now c.try_from.result c.in_ok-first.ensures.value c.try_from.ensures c.in_err-ok.ensures.value)

pub returns-in-Refused : goal.returns-in-Refused
returns-in-Refused c =
    read_whole c.args.bytes.now 9 _ c.then_some.ensures
    ∙ (λ j. whole c.args.bytes.now 9 (refused (record { number = c.field_at.ensures j; place = c.field_at-in-Refused.ensures j })))
    ∙ of_kind c.args.bytes.now c.in_ok-first.field-0.now c.try_from.result Refused c.in-Refused.is c.in_ok-first.ensures.value c.try_from.ensures c.in_ok-ok.ensures.value

pub returns-in-Number : goal.returns-in-Number
returns-in-Number c =
    read_whole c.args.bytes.now 5 _ c.then_some-in-Number.ensures ∙ ap (λ n. whole c.args.bytes.now 5 (number n)) c.field_at-in-Number.ensures
    ∙ of_kind c.args.bytes.now c.in_ok-first.field-0.now c.try_from.result Number c.in-Number.is c.in_ok-first.ensures.value c.try_from.ensures c.in_ok-ok.ensures.value

pub returns-in-Shown : goal.returns-in-Shown
returns-in-Shown c =
    c.read_shown.ensures
    ∙ of_kind c.args.bytes.now c.in_ok-first.field-0.now c.try_from.result Shown c.in-Shown.is c.in_ok-first.ensures.value c.try_from.ensures c.in_ok-ok.ensures.value

pub returns-in-Listed : goal.returns-in-Listed
returns-in-Listed c =
    c.read_list.ensures
    ∙ of_kind c.args.bytes.now c.in_ok-first.field-0.now c.try_from.result Listed c.in-Listed.is c.in_ok-first.ensures.value c.try_from.ensures c.in_ok-ok.ensures.value

pub returns-in-Forced : goal.returns-in-Forced
returns-in-Forced c =
    read_whole c.args.bytes.now 5 _ c.then_some-in-Forced.ensures ∙ ap (λ n. whole c.args.bytes.now 5 (forced n)) c.field_at-in-Forced.ensures
    ∙ of_kind c.args.bytes.now c.in_ok-first.field-0.now c.try_from.result Forced c.in-Forced.is c.in_ok-first.ensures.value c.try_from.ensures c.in_ok-ok.ensures.value
