use Rattle.std.proofs.Common.{◌≡◌, sym, ap, ◌∙◌, subst, ⊎_elim, arith}
use Rattle.rules.specs.declared.Call.{Call}
use Rattle.rules.specs.Calls.{refusal_place}
use Rattle.session.specs.Inner.{Acts}
use Rattle.session.proofs.Acting.{sits, plays, changes_nothing, see_still, may_still, no_ticks, no_back, no_force}
use Rattle.session.proofs.calling.act.Goals as goal

pub returns-in-Sit : goal.returns-in-Sit
returns-in-Sit c =
    subst (λ x. Acts c.args.rules.now c.args.state.now c.args.answer.now x c.sit-told.new.state c.tell.new.answer c.tell.result) (sym c.in-Sit.is)
    (sits c.args.rules.now c.args.state.now c.args.answer.now c.sit-told.new.state c.tell.new.answer c.in-Sit.ticks c.sit-told.result c.tell.result (omega arith)
    c.sit-told.ensures.after c.sit-told.ensures.says c.tell.ensures.size c.tell.ensures.bytes)

pub returns-in-Play : goal.returns-in-Play
returns-in-Play c =
    subst (λ x. Acts c.args.rules.now c.args.state.now c.args.answer.now x c.play-told.new.state c.tell-in-Play.new.answer c.tell-in-Play.result) (sym c.in-Play.is)
    (plays c.args.rules.now c.args.state.now c.args.answer.now c.play-told.new.state c.tell-in-Play.new.answer c.in-Play.table c.in-Play.player c.in-Play.played c.play-told.result
    c.tell-in-Play.result c.play-told.ensures.after c.play-told.ensures.says c.tell-in-Play.ensures.size c.tell-in-Play.ensures.bytes)

pub returns-in-See : goal.returns-in-See
returns-in-See c =
    subst (λ x. Acts c.args.rules.now c.args.state.now c.args.answer.now x c.args.state.now c.show.new.answer c.show.result) (sym c.in-See.is)
    (changes_nothing c.args.rules.now c.args.state.now c.args.answer.now c.show.new.answer _ c.show.result (λ l s. see_still l s c.in-See.table) c.show.ensures)

pub returns-in-May : goal.returns-in-May
returns-in-May c =
    subst (λ x. Acts c.args.rules.now c.args.state.now c.args.answer.now x c.args.state.now c.list.new.answer c.list.result) (sym c.in-May.is)
    (changes_nothing c.args.rules.now c.args.state.now c.args.answer.now c.list.new.answer _ c.list.result (λ l s. may_still l s c.in-May.table) c.list.ensures)

pub returns-in-Ticks : goal.returns-in-Ticks
returns-in-Ticks c =
    let still : Call → Type 0 = λ x. Acts c.args.rules.now c.args.state.now c.args.answer.now x c.args.state.now c.write_refusal.new.answer c.write_refusal.result in
    let place = λ (x : Call) (e : c.args.call ≡ x). c.not_done.ensures.place ∙ ap (λ y. refusal_place y 2) e in
    ⊎_elim
    (λ (n, e). subst still (sym e) (no_ticks c.args.rules.now c.args.state.now c.args.answer.now c.write_refusal.new.answer c.write_refusal.result
    c.not_done.result c.not_done.ensures.number n (place _ e) c.write_refusal.ensures.size c.write_refusal.ensures.bytes))
    (⊎_elim
    (λ (t, n, e). subst still (sym e) (no_back c.args.rules.now c.args.state.now c.args.answer.now c.write_refusal.new.answer c.write_refusal.result
    c.not_done.result c.not_done.ensures.number t n (place _ e) c.write_refusal.ensures.size c.write_refusal.ensures.bytes))
    (λ (t, m, k, d, e). subst still (sym e) (no_force c.args.rules.now c.args.state.now c.args.answer.now c.write_refusal.new.answer c.write_refusal.result
    c.not_done.result c.not_done.ensures.number t m k d (place _ e) c.write_refusal.ensures.size c.write_refusal.ensures.bytes)))
    c.in-Ticks.is
