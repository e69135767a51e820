-- Expressions, positions, and the rules of a game: when a move is legal, and what it does. Assumes nothing: these are definitions.
use Rattle.std.specs.Prelude.{Bool, not, ◌&&◌, cond, List, [], ◌∷◌, ℕ, ◌+◌, ◌*◌, ◌-◌, ◌/◌, ◌%◌, ltb, eqb, length, get_or, set}
use Rattle.rules.specs.declared.Move.{Move}

-- the numbers in the cells of a board, cell 0 first
abbrev pub Position : Type 0
Position = List ℕ

-- what a rule works out from a position
pub data Expr : Type 0 where
  Num : ℕ → Expr
  Cell : Expr → Expr  -- what stands in the cell with this number
  First : Expr  -- the move's first number
  Second : Expr  -- the move's second number
  Me : Expr  -- whose turn it is, or the player whose gain is worked out
  Add : Expr → Expr → Expr
  Sub : Expr → Expr → Expr
  Mul : Expr → Expr → Expr
  Div : Expr → Expr → Expr
  Rem : Expr → Expr → Expr
  Lt : Expr → Expr → Expr  -- 1 if the first is below the second, else 0
  Eq : Expr → Expr → Expr  -- 1 if both are the same, else 0
  If : Expr → Expr → Expr → Expr  -- the second if the first is not 0, else the third

-- no number is above 65,535
abbrev pub capped : ℕ → ℕ
capped n = cond (ltb n 65536) n 65535

-- division by 0 gives 0, and so does its remainder
abbrev pub quotient : ℕ → ℕ → ℕ
quotient a b = cond (eqb b 0) 0 (a / b)

abbrev pub remainder : ℕ → ℕ → ℕ
remainder a b = cond (eqb b 0) 0 (a % b)

-- the value of an expression in position p, for a move's numbers x and y and the player m.
-- A cell that is not on the board holds 0, and a difference is never below 0
unfoldable pub eval : Expr → Position → ℕ → ℕ → ℕ → ℕ
eval (Num n) p x y m = capped n
eval (Cell a) p x y m = get_or p (eval a p x y m) 0
eval First p x y m = x
eval Second p x y m = y
eval Me p x y m = m
eval (Add a b) p x y m = capped (eval a p x y m + eval b p x y m)
eval (Sub a b) p x y m = eval a p x y m - eval b p x y m
eval (Mul a b) p x y m = capped (eval a p x y m * eval b p x y m)
eval (Div a b) p x y m = quotient (eval a p x y m) (eval b p x y m)
eval (Rem a b) p x y m = remainder (eval a p x y m) (eval b p x y m)
eval (Lt a b) p x y m = cond (ltb (eval a p x y m) (eval b p x y m)) 1 0
eval (Eq a b) p x y m = cond (eqb (eval a p x y m) (eval b p x y m)) 1 0
eval (If a b c) p x y m = cond (eqb (eval a p x y m) 0) (eval c p x y m) (eval b p x y m)

-- the cell with this number gets this value; where no such cell is on the board, nothing happens
pub record Effect : Type 0 where
  pub cell : Expr
  pub value : Expr

-- a rule has a move for each two numbers below its bounds. Such a move is legal where the guard is not 0
pub record Rule : Type 0 where
  pub first_bound : ℕ
  pub second_bound : ℕ
  pub guard : Expr
  pub effects : List Effect

-- a game: how many play, the position it starts from, its rules, when it is over, and what a player has gained.
-- Cell 0 says whose turn it is
pub record Game : Type 0 where
  pub players : ℕ
  pub start : Position
  pub rules : List Rule
  pub terminal : Expr
  pub payoff : Expr

abbrev pub turn : Game → Position → ℕ
turn g p = remainder (get_or p 0 0) g.players

-- effects happen one after the other, each in the position that those before it left. Whose turn it was at first, m, stays
unfoldable pub apply_effects : List Effect → Position → ℕ → ℕ → ℕ → Position
apply_effects [] p x y m = p
apply_effects (e ∷ es) p x y m = apply_effects es (set p (eval e.cell p x y m) (eval e.value p x y m)) x y m

-- what stands for a rule that is not there: it has no moves
abbrev pub no_rule : Rule
no_rule = record { first_bound = 0; second_bound = 0; guard = Num 0; effects = [] }

abbrev pub rule_at : Game → ℕ → Rule
rule_at g r = get_or g.rules r no_rule

unfoldable pub is_legal : Game → Position → Move → Bool
is_legal g p v =
    ltb v.rule (length g.rules)
    && ((ltb v.first (rule_at g v.rule).first_bound && ltb v.second (rule_at g v.rule).second_bound)
    && not (eqb (eval (rule_at g v.rule).guard p v.first v.second (turn g p)) 0))

-- the position after a move
unfoldable pub apply : Game → Position → Move → Position
apply g p v = apply_effects (rule_at g v.rule).effects p v.first v.second (turn g p)
