-- The value of the expression at a place, by the row that stands there.
use Rattle.std.proofs.Common.{◌≡◌, ℕ, zero, suc, ◌+◌, ◌-◌, ◌*◌, min, cond, eqb, ltb, get_or, sym, refl, ap, ◌∙◌, sub-one, arith}
use Rattle.std.proofs.lemmas.Bool.Decides.{nat_tests}
use Rattle.rules.specs.Rules.{Expr, capped, quotient, remainder, eval}
use Rattle.wire.specs.declared.kinds.ExprKind.{ExprKind}
use Rattle.wire.specs.declared.kinds.ExprKind.TheVariants.{Num, Cell, First, Second, Me, Add, Sub, Mul, Div, Rem, Lt, Eq, If}
use Rattle.eval.specs.declared.Evaluator.{Evaluator}
use Rattle.eval.specs.declared.Row.{Row}
use Rattle.eval.specs.Memory.{row_at, made_of, expr_within}

module _ (s : Evaluator) where
  abbrev pub meant : Expr → ℕ
  meant e = eval e s.cells.now s.first s.second s.me

  -- the value of a row of a kind, by the values of its parts
  abbrev pub value : ExprKind → Row → (ℕ → ℕ) → ℕ
  value Num r f = capped r.a
  value Cell r f = get_or s.cells.now (f r.a) 0
  value First r f = s.first
  value Second r f = s.second
  value Me r f = s.me
  value Add r f = capped (f r.a + f r.b)
  value Sub r f = f r.a - f r.b
  value Mul r f = capped (f r.a * f r.b)
  value Div r f = quotient (f r.a) (f r.b)
  value Rem r f = remainder (f r.a) (f r.b)
  value Lt r f = cond (ltb (f r.a) (f r.b)) 1 0
  value Eq r f = cond (eqb (f r.a) (f r.b)) 1 0
  value If r f = cond (eqb (f r.a) 0) (f r.c) (f r.b)

  of_value : (k : ExprKind) (r : Row) (f : ℕ → Expr) → meant (made_of k r.a r.b r.c f) ≡ value k r (λ j. meant (f j))
  unfolding eval
  of_value Num r f = refl
  of_value Cell r f = refl
  of_value First r f = refl
  of_value Second r f = refl
  of_value Me r f = refl
  of_value Add r f = refl
  of_value Sub r f = refl
  of_value Mul r f = refl
  of_value Div r f = refl
  of_value Rem r f = refl
  of_value Lt r f = refl
  of_value Eq r f = refl
  of_value If r f = refl

  pub no_level : (l i : ℕ) → l ≡ 0 → 0 ≡ meant (expr_within l s.rules.now i)
  unfolding expr_within eval
  no_level l i h = rw h refl

  pub by_row :
      (l i : ℕ) (r : Row) {k : ExprKind} → r ≡ row_at s.rules.now i → (l ≡ 0 → ⊥) → r.kind ≡ k
      → meant (expr_within l s.rules.now i) ≡ value k r (λ j. meant (expr_within (l - 1) s.rules.now j))
  unfolding expr_within
  by_row zero i r e h is = absurd (h refl)
  by_row (suc l) i r {k} e h is =
      ap (λ o. meant (made_of o.kind o.a o.b o.c (expr_within l s.rules.now))) (sym e)
      ∙ ap (λ o. meant (made_of o r.a r.b r.c (expr_within l s.rules.now))) is
      ∙ rw sub-one (of_value k r (expr_within l s.rules.now))

pub min_capped : (n : ℕ) → min n 65535 ≡ capped n
min_capped n = grind (arith, nat_tests)

pub no_factor : {u a w : ℕ} (b : ℕ) → u ≡ a → u ≡ 0 → w ≡ capped (a * b) → 0 ≡ w
no_factor {u} {a} b ea z ew =
    let none : a * b ≡ 0 = omega (arith, ap (λ n. n * b) (sym ea ∙ z)) in
    sym (ew ∙ ap capped none)

-- the part that is chosen by whether u is 0
pub if_zero : (g : ℕ → ℕ) {r u n w : ℕ} (a b c : ℕ) → r ≡ g n → n ≡ c → u ≡ g a → u ≡ 0 → w ≡ cond (eqb (g a) 0) (g c) (g b) → r ≡ w
if_zero g a b c e is ea z ew = grind (arith, nat_tests, ap g is)

pub if_other : (g : ℕ → ℕ) {r u n w : ℕ} (a b c : ℕ) → r ≡ g n → n ≡ b → u ≡ g a → (u ≡ 0 → ⊥) → w ≡ cond (eqb (g a) 0) (g c) (g b) → r ≡ w
if_other g a b c e is ea z ew = grind (arith, nat_tests, ap g is)
