-- A server that can do no call refuses each by 2.
use Rattle.std.proofs.Common.{◌≡◌, sym, refl, ap, ◌∙◌}
use Rattle.rules.specs.declared.Limits.{Limits}
use Rattle.rules.specs.declared.Refusal.{Refusal}
use Rattle.rules.specs.declared.Call.{Call}
use Rattle.rules.specs.Calls.{State, answer, refusal, refusal_place, no_calls, refused}

pub refuses_all : (c : Call) (l : Limits) (s : State) → answer no_calls l s c ≡ refused (record { number = 2; place = refusal_place c 2 })
unfolding answer refusal
refuses_all c l s = refl

pub refuses_so : (c : Call) (f : Refusal) → f.number ≡ 2 → f.place ≡ refusal_place c 2 → (l : Limits) (s : State) → answer no_calls l s c ≡ refused f
refuses_so c f n e l s = refuses_all c l s ∙ ap (λ i. refused (record { number = 2; place = i })) (sym e) ∙ ap (λ k. refused (record { number = k; place = f.place })) (sym n)
