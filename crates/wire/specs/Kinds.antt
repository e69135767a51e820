-- The kinds of expressions as bytes, and as words of text. Assumes nothing: these are definitions.
use Rattle.std.specs.Prelude.{◌≡◌, ◌<◌, ℕ, List, [], Result, MatchResult, codes}
use Rattle.wire.specs.declared.kinds.ExprKind.{ExprKind}
use Rattle.wire.specs.declared.kinds.ExprKind.TheVariants.{Num, Cell, First, Second, Me, Add, Sub, Mul, Div, Rem, Lt, Eq, If}
use Rattle.wire.specs.declared.kinds.UnknownKind.{UnknownKind}

abbrev pub kind_number : ExprKind → ℕ
kind_number Num = 0
kind_number Cell = 1
kind_number First = 2
kind_number Second = 3
kind_number Me = 4
kind_number Add = 5
kind_number Sub = 6
kind_number Mul = 7
kind_number Div = 8
kind_number Rem = 9
kind_number Lt = 10
kind_number Eq = 11
kind_number If = 12

-- how they are written as text; of a number no letters
abbrev pub kind_letters : ExprKind → List ℕ
kind_letters Num = []
kind_letters Cell = codes "cell"
kind_letters First = codes "first"
kind_letters Second = codes "second"
kind_letters Me = codes "me"
kind_letters Add = codes "+"
kind_letters Sub = codes "-"
kind_letters Mul = codes "*"
kind_letters Div = codes "/"
kind_letters Rem = codes "rest"
kind_letters Lt = codes "below"
kind_letters Eq = codes "same"
kind_letters If = codes "if"

-- the kind of a byte, or that it is none
abbrev pub IsKind : ℕ → Result ExprKind UnknownKind → Type 0
IsKind b r = MatchResult r (λ k. kind_number k ≡ b) (λ e. 12 < b)
