-- What memory is as an expression: rows of four words, the kind and up to three operands. Assumes nothing: these are definitions.
use Rattle.std.specs.Prelude.{ℕ, zero, suc, ◌+◌, List, [], ◌∷◌, Some, None, Option, slice_get, slice_index}
use Rattle.rules.specs.Rules.{Expr, Num, Cell, First, Second, Me, Add, Sub, Mul, Div, Rem, Lt, Eq, If}
use Rattle.wire.specs.declared.kinds.ExprKind.{ExprKind}
use Rattle.wire.specs.declared.kinds.ExprKind.TheVariants as kind
use Rattle.eval.specs.declared.Row.{Row}

-- the kinds by their numbers, from 0 on
abbrev pub kinds : List ExprKind
kinds =
    kind.Num ∷ kind.Cell ∷ kind.First ∷ kind.Second ∷ kind.Me ∷ kind.Add ∷ kind.Sub ∷ kind.Mul ∷ kind.Div ∷ kind.Rem ∷ kind.Lt ∷ kind.Eq
    ∷ kind.If ∷ []

abbrev pub kind_of : ℕ → Option ExprKind
kind_of k = slice_get kinds k

-- a row of a kind, if there is one: else it is that of the number 0
abbrev pub row_if : Option ExprKind → ℕ → ℕ → ℕ → Row
row_if None a b c = record { kind = kind.Num; a = 0; b = 0; c = 0 }
row_if (Some k) a b c = record { kind = k; a = a; b = b; c = c }

-- the row of four words
abbrev pub row_of : ℕ → ℕ → ℕ → ℕ → Row
row_of k a b c = row_if (kind_of k) a b c

-- the row at a place; past the end of memory every word is 0
abbrev pub row_at : List ℕ → ℕ → Row
row_at m i = row_of (slice_index m i) (slice_index m (i + 1)) (slice_index m (i + 2)) (slice_index m (i + 3))

-- the expression of a kind with the operands a, b and c, whose parts are those of the places
abbrev pub made_of : ExprKind → ℕ → ℕ → ℕ → (ℕ → Expr) → Expr
made_of kind.Num a b c f = Num a
made_of kind.Cell a b c f = Cell (f a)
made_of kind.First a b c f = First
made_of kind.Second a b c f = Second
made_of kind.Me a b c f = Me
made_of kind.Add a b c f = Add (f a) (f b)
made_of kind.Sub a b c f = Sub (f a) (f b)
made_of kind.Mul a b c f = Mul (f a) (f b)
made_of kind.Div a b c f = Div (f a) (f b)
made_of kind.Rem a b c f = Rem (f a) (f b)
made_of kind.Lt a b c f = Lt (f a) (f b)
made_of kind.Eq a b c f = Eq (f a) (f b)
made_of kind.If a b c f = If (f a) (f b) (f c)

abbrev pub expr_of : Row → (ℕ → Expr) → Expr
expr_of r f = made_of r.kind r.a r.b r.c f

-- the expression at a place, of at most so many levels: what lies deeper is the number 0
unfoldable pub expr_within : ℕ → List ℕ → ℕ → Expr
expr_within zero m i = Num 0
expr_within (suc l) m i = expr_of (row_at m i) (expr_within l m)

-- the expression at a place. An expression that is 32 deep has 33 levels
unfoldable pub expr_at : List ℕ → ℕ → Expr
expr_at m i = expr_within 33 m i
