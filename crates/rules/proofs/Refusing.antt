-- Which field of a call a refusal by 2 is about.
use Rattle.std.proofs.Common.{◌≡◌, ℕ, ◌<◌, ◌≤◌, refl, arith}
use Rattle.std.proofs.lemmas.Bool.Decides.{nat_tests}
use Rattle.rules.specs.declared.Call.{Call}
use Rattle.rules.specs.declared.Call.TheVariants.{Sit, Play, Ticks, See, May, Back, CanForce}
use Rattle.rules.specs.Calls.{refusal_place}

pub deep_place : (t m k d : ℕ) → 64 < d → 3 ≡ refusal_place (CanForce t m k d) 2
unfolding refusal_place
deep_place t m k d h = grind (arith, nat_tests)

pub flat_place : (t m k d : ℕ) → d ≤ 64 → 0 ≡ refusal_place (CanForce t m k d) 2
unfolding refusal_place
flat_place t m k d h = grind (arith, nat_tests)

pub other_place : (c : Call) → ((t m k d : ℕ) → c ≡ CanForce t m k d → ⊥) → 0 ≡ refusal_place c 2
unfolding refusal_place
other_place (Sit n) h = refl
other_place (Play t m v) h = refl
other_place (Ticks n) h = refl
other_place (See t) h = refl
other_place (May t) h = refl
other_place (Back t n) h = refl
other_place (CanForce t m k d) h = absurd (h t m k d refl)
