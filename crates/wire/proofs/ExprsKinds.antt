-- What holds of every kind of expression alike: its bytes, its parts and its depth come from those of its parts.
use Rattle.std.proofs.Common.{◌≡◌, ℕ, zero, suc, ◌+◌, ◌-◌, ◌<◌, ◌≤◌, true, false, cond, ◌&&◌, eqb, ltb, List, [], ◌∷◌, ◌++◌, length, sym, refl, ap, ◌∙◌, arith}
use Rattle.std.proofs.Math.Bool.{and-true}
use Rattle.std.proofs.lemmas.List.{append-nil}
use Rattle.rules.specs.Rules.{Expr, Cell, First, Second, Me, Add, Sub, Mul, Div, Rem, Lt, Eq, If}
use Rattle.rules.specs.Bounds.{fits_depth, expr_parts}
use Rattle.wire.specs.Exprs.{expr_bytes, expr_fits, Kind, alone, of_one, of_two, of_three, kind_after}
use Rattle.wire.specs.GamesWalk.{exprs_parts, within_levels}
use Rattle.wire.proofs.Exprs.{exprs_bytes, exprs_fit}

-- the kind in byte b
pub record Lawful (b : ℕ) (k : Kind) (es : List Expr) : Type 0 where
  pub bytes : expr_bytes (k.make es) ≡ b ∷ exprs_bytes es
  pub fits : expr_fits (k.make es) ≡ exprs_fit es
  pub parts : expr_parts (k.make es) ≡ suc (exprs_parts es)
  pub levels : (l : ℕ) → fits_depth (k.make es) l ≡ within_levels l es

alone_lawful :
    (b : ℕ) (e : Expr) → expr_bytes e ≡ b ∷ [] → expr_fits e ≡ true → expr_parts e ≡ 1 → ((l : ℕ) → fits_depth e l ≡ true) → (es : List Expr)
    → length es ≡ 0 → Lawful b (alone e) es
unfolding exprs_bytes exprs_fit exprs_parts within_levels
alone_lawful b e x y z w [] h = record { bytes = x; fits = y; parts = z; levels = λ l. w l }
alone_lawful b e x y z w (a ∷ es) h = absurd (omega arith)

-- what is said of an expression of two parts
abbrev OfTwo : ℕ → (Expr → Expr → Expr) → Type 0
OfTwo k f =
    (a b : Expr)
    → (expr_bytes (f a b) ≡ k ∷ (expr_bytes a ++ expr_bytes b)) × (expr_fits (f a b) ≡ (expr_fits a && expr_fits b))
    × (expr_parts (f a b) ≡ suc (expr_parts a + expr_parts b)) × (fits_depth (f a b) 0 ≡ false)
    × ((l : ℕ) → fits_depth (f a b) (suc l) ≡ (fits_depth a l && fits_depth b l))

two_lawful : (k : ℕ) (f : Expr → Expr → Expr) → OfTwo k f → (es : List Expr) → length es ≡ 2 → Lawful k (of_two f) es
unfolding exprs_bytes exprs_fit exprs_parts within_levels
two_lawful k f is [] h = absurd (omega arith)
two_lawful k f is (a ∷ []) h = absurd (omega arith)
two_lawful k f is (a ∷ b ∷ []) h = record {
  bytes = (is a b).0 ∙ ap (λ r. k ∷ (expr_bytes a ++ r)) (sym (append-nil (expr_bytes b)));
  fits = (is a b).1 ∙ ap (λ t. expr_fits a && t) (sym (and-true (expr_fits b)));
  parts = omega (arith, (is a b).2);
  levels = λ l. elim l as (λ m. fits_depth (f a b) m ≡ within_levels m (a ∷ b ∷ [])) [ zero ↦ (is a b).3 | suc m ↦ (is a b).4 m ∙ ap (λ t. fits_depth a m && t) (sym (and-true (fits_depth b m))) ];
}
two_lawful k f is (a ∷ b ∷ c ∷ es) h = absurd (omega arith)

cell_lawful : (es : List Expr) → length es ≡ 1 → Lawful 1 (of_one Cell) es
unfolding exprs_bytes exprs_fit exprs_parts within_levels expr_bytes expr_fits expr_parts fits_depth
cell_lawful [] h = absurd (omega arith)
cell_lawful (a ∷ []) h = record {
  bytes = ap (λ r. 1 ∷ r) (sym (append-nil (expr_bytes a)));
  fits = sym (and-true (expr_fits a));
  parts = omega arith;
  levels = λ l. elim l as (λ m. fits_depth (Cell a) m ≡ within_levels m (a ∷ [])) [ zero ↦ refl | suc m ↦ sym (and-true (fits_depth a m)) ];
}
cell_lawful (a ∷ b ∷ es) h = absurd (omega arith)

if_lawful : (es : List Expr) → length es ≡ 3 → Lawful 12 (of_three If) es
unfolding exprs_bytes exprs_fit exprs_parts within_levels expr_bytes expr_fits expr_parts fits_depth
if_lawful [] h = absurd (omega arith)
if_lawful (a ∷ []) h = absurd (omega arith)
if_lawful (a ∷ b ∷ []) h = absurd (omega arith)
if_lawful (a ∷ b ∷ c ∷ []) h = record {
  bytes = ap (λ r. 12 ∷ (expr_bytes a ++ (expr_bytes b ++ r))) (sym (append-nil (expr_bytes c)));
  fits = ap (λ t. expr_fits a && (expr_fits b && t)) (sym (and-true (expr_fits c)));
  parts = omega arith;
  levels = λ l. elim l as (λ m. fits_depth (If a b c) m ≡ within_levels m (a ∷ b ∷ c ∷ []))
      [ zero ↦ refl | suc m ↦ ap (λ t. fits_depth a m && (fits_depth b m && t)) (sym (and-true (fits_depth c m))) ];
}
if_lawful (a ∷ b ∷ c ∷ d ∷ es) h = absurd (omega arith)

pub lawful : (k : ℕ) → k < 12 → (es : List Expr) → length es ≡ (kind_after k).arity → Lawful (suc k) (kind_after k) es
unfolding kind_after expr_bytes expr_fits expr_parts fits_depth
lawful zero lt es h = cell_lawful es h
lawful (suc zero) lt es h = alone_lawful 2 First refl refl refl (λ l. refl) es h
lawful (suc (suc zero)) lt es h = alone_lawful 3 Second refl refl refl (λ l. refl) es h
lawful (suc (suc (suc zero))) lt es h = alone_lawful 4 Me refl refl refl (λ l. refl) es h
lawful (suc (suc (suc (suc zero)))) lt es h = two_lawful 5 Add (λ a b. (refl, refl, refl, refl, λ l. refl)) es h
lawful (suc (suc (suc (suc (suc zero))))) lt es h = two_lawful 6 Sub (λ a b. (refl, refl, refl, refl, λ l. refl)) es h
lawful (suc (suc (suc (suc (suc (suc zero)))))) lt es h = two_lawful 7 Mul (λ a b. (refl, refl, refl, refl, λ l. refl)) es h
lawful (suc (suc (suc (suc (suc (suc (suc zero))))))) lt es h = two_lawful 8 Div (λ a b. (refl, refl, refl, refl, λ l. refl)) es h
lawful (suc (suc (suc (suc (suc (suc (suc (suc zero)))))))) lt es h = two_lawful 9 Rem (λ a b. (refl, refl, refl, refl, λ l. refl)) es h
lawful (suc (suc (suc (suc (suc (suc (suc (suc (suc zero))))))))) lt es h = two_lawful 10 Lt (λ a b. (refl, refl, refl, refl, λ l. refl)) es h
lawful (suc (suc (suc (suc (suc (suc (suc (suc (suc (suc zero)))))))))) lt es h = two_lawful 11 Eq (λ a b. (refl, refl, refl, refl, λ l. refl)) es h
lawful (suc (suc (suc (suc (suc (suc (suc (suc (suc (suc (suc zero))))))))))) lt es h = if_lawful es h
lawful (suc (suc (suc (suc (suc (suc (suc (suc (suc (suc (suc (suc k)))))))))))) lt es h = absurd (omega arith)

-- how many parts the kind in byte b has
pub arity_table : (b : ℕ) → 1 ≤ b → b ≤ 12 → (kind_after (b - 1)).arity ≡ cond (eqb b 1) 1 (cond (ltb b 5) 0 (cond (ltb b 12) 2 3))
unfolding kind_after
arity_table zero lo hi = absurd (omega arith)
arity_table (suc zero) lo hi = refl
arity_table (suc (suc zero)) lo hi = refl
arity_table (suc (suc (suc zero))) lo hi = refl
arity_table (suc (suc (suc (suc zero)))) lo hi = refl
arity_table (suc (suc (suc (suc (suc zero))))) lo hi = refl
arity_table (suc (suc (suc (suc (suc (suc zero)))))) lo hi = refl
arity_table (suc (suc (suc (suc (suc (suc (suc zero))))))) lo hi = refl
arity_table (suc (suc (suc (suc (suc (suc (suc (suc zero)))))))) lo hi = refl
arity_table (suc (suc (suc (suc (suc (suc (suc (suc (suc zero))))))))) lo hi = refl
arity_table (suc (suc (suc (suc (suc (suc (suc (suc (suc (suc zero)))))))))) lo hi = refl
arity_table (suc (suc (suc (suc (suc (suc (suc (suc (suc (suc (suc zero))))))))))) lo hi = refl
arity_table (suc (suc (suc (suc (suc (suc (suc (suc (suc (suc (suc (suc zero)))))))))))) lo hi = refl
arity_table (suc (suc (suc (suc (suc (suc (suc (suc (suc (suc (suc (suc (suc b))))))))))))) lo hi = absurd (omega arith)
