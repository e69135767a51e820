-- Expressions as bytes: how they are written, and how they are read. Assumes nothing: these are definitions.
use Rattle.std.specs.Prelude.{ℕ, zero, suc, ◌+◌, Bool, true, cond, ◌&&◌, List, [], ◌∷◌, ◌++◌, take, drop, nat_lt, slice_index_or}
use Rattle.rules.specs.Rules.{Expr, Num, Cell, First, Second, Me, Add, Sub, Mul, Div, Rem, Lt, Eq, If}
use Rattle.wire.specs.Numbers.{number_bytes, bytes_value}

-- an expression is its kind in a byte, and then its parts
unfoldable pub expr_bytes : Expr → List ℕ
expr_bytes (Num n) = 0 ∷ number_bytes 2 n
expr_bytes (Cell a) = 1 ∷ expr_bytes a
expr_bytes First = 2 ∷ []
expr_bytes Second = 3 ∷ []
expr_bytes Me = 4 ∷ []
expr_bytes (Add a b) = 5 ∷ (expr_bytes a ++ expr_bytes b)
expr_bytes (Sub a b) = 6 ∷ (expr_bytes a ++ expr_bytes b)
expr_bytes (Mul a b) = 7 ∷ (expr_bytes a ++ expr_bytes b)
expr_bytes (Div a b) = 8 ∷ (expr_bytes a ++ expr_bytes b)
expr_bytes (Rem a b) = 9 ∷ (expr_bytes a ++ expr_bytes b)
expr_bytes (Lt a b) = 10 ∷ (expr_bytes a ++ expr_bytes b)
expr_bytes (Eq a b) = 11 ∷ (expr_bytes a ++ expr_bytes b)
expr_bytes (If a b c) = 12 ∷ (expr_bytes a ++ (expr_bytes b ++ expr_bytes c))

-- the numbers in an expression fit two bytes
unfoldable pub expr_fits : Expr → Bool
expr_fits (Num n) = nat_lt n 65536
expr_fits (Cell a) = expr_fits a
expr_fits First = true
expr_fits Second = true
expr_fits Me = true
expr_fits (Add a b) = expr_fits a && expr_fits b
expr_fits (Sub a b) = expr_fits a && expr_fits b
expr_fits (Mul a b) = expr_fits a && expr_fits b
expr_fits (Div a b) = expr_fits a && expr_fits b
expr_fits (Rem a b) = expr_fits a && expr_fits b
expr_fits (Lt a b) = expr_fits a && expr_fits b
expr_fits (Eq a b) = expr_fits a && expr_fits b
expr_fits (If a b c) = expr_fits a && (expr_fits b && expr_fits c)

-- what is read from the front of bytes, and the bytes that are left
pub data Parsed (A : Type 0) : Type 0 where
  got : A → List ℕ → Parsed A
  unreadable : Parsed A

abbrev pub and_then : {A B : Type 0} → Parsed A → (A → List ℕ → Parsed B) → Parsed B
and_then (got a r) f = f a r
and_then unreadable f = unreadable

-- a kind of expression: how many parts it has, and what is made of them
pub record Kind : Type 0 where
  pub arity : ℕ
  pub make : List Expr → Expr

-- the part with this number
abbrev pub part : List Expr → ℕ → Expr
part es i = slice_index_or es i (Num 0)

abbrev pub alone : Expr → Kind
alone e = record { arity = 0; make = λ es. e }

abbrev pub of_one : (Expr → Expr) → Kind
of_one f = record { arity = 1; make = λ es. f (part es 0) }

abbrev pub of_two : (Expr → Expr → Expr) → Kind
of_two f = record { arity = 2; make = λ es. f (part es 0) (part es 1) }

abbrev pub of_three : (Expr → Expr → Expr → Expr) → Kind
of_three f = record { arity = 3; make = λ es. f (part es 0) (part es 1) (part es 2) }

-- the kinds from 1 on
abbrev pub kinds : List Kind
kinds =
    of_one Cell ∷ alone First ∷ alone Second ∷ alone Me ∷ of_two Add ∷ of_two Sub ∷ of_two Mul ∷ of_two Div ∷ of_two Rem ∷ of_two Lt ∷ of_two Eq
    ∷ of_three If ∷ []

-- the kind of the byte after k
unfoldable pub kind_after : ℕ → Kind
kind_after k = slice_index_or kinds k (alone (Num 0))

-- of expressions that follow one another, the first ones are the parts of one of this kind
unfoldable pub join : Kind → List Expr → List Expr
join k es = k.make (take k.arity es) ∷ drop k.arity es

-- reads n expressions that follow one another: in place of an expression that has parts, so many more are to come
unfoldable pub read_exprs : ℕ → List ℕ → Parsed (List Expr)
read_exprs zero bs = got [] bs
read_exprs (suc n) [] = unreadable
read_exprs (suc n) (zero ∷ []) = unreadable
read_exprs (suc n) (zero ∷ x ∷ []) = unreadable
read_exprs (suc n) (zero ∷ x ∷ y ∷ bs) = and_then (read_exprs n bs) (λ es r. got (Num (bytes_value (x ∷ y ∷ [])) ∷ es) r)
read_exprs (suc n) (suc k ∷ bs) =
    cond (nat_lt k 12) (and_then (read_exprs ((kind_after k).arity + n) bs) (λ es r. got (join (kind_after k) es) r)) unreadable
