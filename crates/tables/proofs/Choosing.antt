-- What an answer with or without a value says of the test that chose it.
use Rattle.std.proofs.Common.{◌≡◌, ℕ, Bool, true, false, cond, Some, None, refl, arith}

pub chosen : {A : Type 0} (b : Bool) (x y : A) → Some y ≡ cond b (Some x) None → (b ≡ true) × (y ≡ x)
chosen true x y e = (refl, cc)
chosen false x y e = let z : ◌≡◌ {A = ℕ} 0 1 = cc in absurd (omega arith)

pub not_chosen : {A : Type 0} (b : Bool) (x : A) → None ≡ cond b (Some x) None → b ≡ false
not_chosen true x e = let z : ◌≡◌ {A = ℕ} 0 1 = cc in absurd (omega arith)
not_chosen false x e = refl
