-- What a row means, and what holds of the parts of an expression one after the other.
use Rattle.std.proofs.Common.{◌≡◌, ℕ, zero, suc, ◌+◌, ◌<◌, ◌≤◌, true, false, List, [], ◌∷◌, ◌++◌, get_or, refl, ap, ◌∙◌, arith}
use Rattle.std.proofs.lemmas.Bool.{and_parts, and_from, and_left, and_right, false≢true}
use Rattle.rules.specs.Rules.{Expr, Num, Cell, Add, Sub, Mul, Div, Rem, Lt, Eq, If}
use Rattle.rules.specs.Bounds.{expr_parts}
use Rattle.wire.specs.Exprs.{kind_after}
use Rattle.wire.specs.GamesWalk.{exprs_parts, within_levels}
use Rattle.eval.specs.Memory.{row_of, row_at, expr_of}
use Rattle.eval.specs.Load.{SameBetween, RowAt, fits_levels}

both : (f : Expr → Expr → Expr) {a b x y : Expr} → a ≡ x → b ≡ y → f a b ≡ f x y
both f p q = cc

all_three : {a b c x y z : Expr} → a ≡ x → b ≡ y → c ≡ z → If a b c ≡ If x y z
all_three p q r = cc

-- a row of the kind after k is the expression of that kind, if its parts are at the row's places
pub row_means :
    (k : ℕ) → k < 12 → (ps : List ℕ) (f : ℕ → Expr) (es : List Expr) → ((j : ℕ) → j < (kind_after k).arity → f (get_or ps j 0) ≡ get_or es j (Num 0))
    → expr_of (row_of (suc k) (get_or ps 0 0) (get_or ps 1 0) (get_or ps 2 0)) f ≡ (kind_after k).make es
unfolding kind_after
row_means zero lt ps f es h = ap Cell (h 0 (omega arith))
row_means (suc zero) lt ps f es h = refl
row_means (suc (suc zero)) lt ps f es h = refl
row_means (suc (suc (suc zero))) lt ps f es h = refl
row_means (suc (suc (suc (suc zero)))) lt ps f es h = both Add (h 0 (omega arith)) (h 1 (omega arith))
row_means (suc (suc (suc (suc (suc zero))))) lt ps f es h = both Sub (h 0 (omega arith)) (h 1 (omega arith))
row_means (suc (suc (suc (suc (suc (suc zero)))))) lt ps f es h = both Mul (h 0 (omega arith)) (h 1 (omega arith))
row_means (suc (suc (suc (suc (suc (suc (suc zero))))))) lt ps f es h = both Div (h 0 (omega arith)) (h 1 (omega arith))
row_means (suc (suc (suc (suc (suc (suc (suc (suc zero)))))))) lt ps f es h = both Rem (h 0 (omega arith)) (h 1 (omega arith))
row_means (suc (suc (suc (suc (suc (suc (suc (suc (suc zero))))))))) lt ps f es h = both Lt (h 0 (omega arith)) (h 1 (omega arith))
row_means (suc (suc (suc (suc (suc (suc (suc (suc (suc (suc zero)))))))))) lt ps f es h = both Eq (h 0 (omega arith)) (h 1 (omega arith))
row_means (suc (suc (suc (suc (suc (suc (suc (suc (suc (suc (suc zero))))))))))) lt ps f es h = all_three (h 0 (omega arith)) (h 1 (omega arith)) (h 2 (omega arith))
row_means (suc (suc (suc (suc (suc (suc (suc (suc (suc (suc (suc (suc k)))))))))))) lt ps f es h = absurd (omega arith)

-- a row stays where memory is the same
pub row_stays :
    (at i k : ℕ) (os ys zs : List ℕ) → RowAt ys i k os → at ≤ i → SameBetween at (i + 4) zs ys
    → row_at zs i ≡ row_of k (get_or os 0 0) (get_or os 1 0) (get_or os 2 0)
row_stays at i k os ys zs r le same =
    let p : get_or zs i 0 ≡ k = same i le (omega arith) ∙ r.kind in
    let q : get_or zs (i + 1) 0 ≡ get_or os 0 0 = same (i + 1) (omega arith) (omega arith) ∙ r.a_is in
    let u : get_or zs (i + 2) 0 ≡ get_or os 1 0 = same (i + 2) (omega arith) (omega arith) ∙ r.b_is in
    let v : get_or zs (i + 3) 0 ≡ get_or os 2 0 = same (i + 3) (omega arith) (omega arith) ∙ r.c_is in
    λ j. row_of (p j) (q j) (u j) (v j)

pub parts_append : (es fs : List Expr) → exprs_parts (es ++ fs) ≡ exprs_parts es + exprs_parts fs
unfolding exprs_parts
parts_append [] fs = omega arith
parts_append (e ∷ es) fs = let ih = parts_append es fs in omega arith

pub parts_one : (e : Expr) (fs : List Expr) → exprs_parts (e ∷ fs) ≡ expr_parts e + exprs_parts fs
unfolding exprs_parts
parts_one e fs = refl

pub parts_none : exprs_parts [] ≡ 0
unfolding exprs_parts
parts_none = refl

-- one part more that is not too deep
pub levels_push : (l : ℕ) (es : List Expr) (e : Expr) → within_levels l es ≡ true → fits_levels l e ≡ true → within_levels l (es ++ e ∷ []) ≡ true
unfolding within_levels
levels_push zero es e h g = absurd (false≢true g)
levels_push (suc l) [] e h g = and_from _ _ g refl
levels_push (suc l) (a ∷ es) e h g = let p = and_parts _ _ h in and_from _ _ p.0 (levels_push (suc l) es e p.1 g)

-- one part that is too deep
pub levels_passed : (l : ℕ) (es : List Expr) (e : Expr) (fs : List Expr) → fits_levels l e ≡ false → within_levels l (es ++ e ∷ fs) ≡ false
unfolding within_levels
levels_passed zero [] e fs g = refl
levels_passed zero (a ∷ es) e fs g = refl
levels_passed (suc l) [] e fs g = and_left _ _ g
levels_passed (suc l) (a ∷ es) e fs g = and_right _ _ (levels_passed (suc l) es e fs g)
