-- The numbers and the words of kinds of expressions.
use Rattle.std.proofs.Common.{◌≡◌, ◌≤◌, ◌∷◌, refl, arith}
use Rattle.wire.specs.declared.kinds.ExprKind.{ExprKind}
use Rattle.wire.specs.declared.kinds.ExprKind.TheVariants.{Num, Cell, First, Second, Me, Add, Sub, Mul, Div, Rem, Lt, Eq, If}
use Rattle.wire.specs.Kinds.{kind_number, kind_letters}
use Rattle.printing.specs.Walk.{kind_word}

-- but for that of numbers they are above 0
pub not_num : (k : ExprKind) → (k ≡ Num → ⊥) → 1 ≤ kind_number k
not_num Num h = absurd (h refl)
not_num Cell h = omega arith
not_num First h = omega arith
not_num Second h = omega arith
not_num Me h = omega arith
not_num Add h = omega arith
not_num Sub h = omega arith
not_num Mul h = omega arith
not_num Div h = omega arith
not_num Rem h = omega arith
not_num Lt h = omega arith
not_num Eq h = omega arith
not_num If h = omega arith

-- a blank and the letters of a kind
pub blank_word : (k : ExprKind) → (k ≡ Num → ⊥) → 32 ∷ kind_letters k ≡ kind_word (kind_number k)
blank_word Num h = absurd (h refl)
blank_word Cell h = refl
blank_word First h = refl
blank_word Second h = refl
blank_word Me h = refl
blank_word Add h = refl
blank_word Sub h = refl
blank_word Mul h = refl
blank_word Div h = refl
blank_word Rem h = refl
blank_word Lt h = refl
blank_word Eq h = refl
blank_word If h = refl
