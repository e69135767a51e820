-- What each kind of expression is worth, case by case, and whose turn it is. Assumes nothing: these are statements.
use Rattle.std.specs.Prelude.{◌≡◌, ℕ, ◌+◌, ◌*◌, ◌<◌, ◌≤◌, ◌≢◌, slice_index}
use Rattle.rules.specs.Rules.{Position, Expr, Num, Cell, First, Second, Me, Add, Sub, Mul, Div, Rem, Lt, Eq, If, Game, eval, turn}

-- what `value` gives to each kind of expression in position p, for a move's numbers x and y and the player m
pub record Valued (p : Position) (x y m : ℕ) (value : Expr → ℕ) : Type 0 where
  -- a number above 65,535 is taken for 65,535
  pub number : (n : ℕ) → n ≤ 65535 → value (Num n) ≡ n
  pub large_number : (n : ℕ) → 65535 < n → value (Num n) ≡ 65535
  -- what stands in a cell, and 0 where there is none
  pub cell : (a : Expr) → value (Cell a) ≡ slice_index p (value a)
  pub first : value First ≡ x
  pub second : value Second ≡ y
  pub me : value Me ≡ m
  -- sums and products stop at 65,535
  pub sum : (a b : Expr) → value a + value b ≤ 65535 → value (Add a b) ≡ value a + value b
  pub large_sum : (a b : Expr) → 65535 < value a + value b → value (Add a b) ≡ 65535
  pub product : (a b : Expr) → value a * value b ≤ 65535 → value (Mul a b) ≡ value a * value b
  pub large_product : (a b : Expr) → 65535 < value a * value b → value (Mul a b) ≡ 65535
  -- differences stop at 0
  pub difference : (a b : Expr) → value b ≤ value a → value (Sub a b) + value b ≡ value a
  pub no_difference : (a b : Expr) → value a ≤ value b → value (Sub a b) ≡ 0
  -- division leaves a remainder below what is divided by; by 0, both are 0
  pub division : (a b : Expr) → 0 < value b → value (Div a b) * value b + value (Rem a b) ≡ value a
  pub remainder_below : (a b : Expr) → 0 < value b → value (Rem a b) < value b
  pub division_by_0 : (a b : Expr) → value b ≡ 0 → value (Div a b) ≡ 0
  pub remainder_by_0 : (a b : Expr) → value b ≡ 0 → value (Rem a b) ≡ 0
  -- a test is 1 where it holds, and 0 where it does not
  pub less : (a b : Expr) → value a < value b → value (Lt a b) ≡ 1
  pub not_less : (a b : Expr) → value b ≤ value a → value (Lt a b) ≡ 0
  pub same : (a b : Expr) → value a ≡ value b → value (Eq a b) ≡ 1
  pub not_same : (a b : Expr) → value a ≢ value b → value (Eq a b) ≡ 0
  -- a choice is its second part where the first is not 0, and its third where it is
  pub chosen : (a b c : Expr) → value a ≢ 0 → value (If a b c) ≡ value b
  pub not_chosen : (a b c : Expr) → value a ≡ 0 → value (If a b c) ≡ value c

-- every expression is worth what its kind says
abbrev pub ValueOfEachKind : Type 0
ValueOfEachKind = (p : Position) (x y m : ℕ) → Valued p x y m (λ a. eval a p x y m)

-- whose turn it is in position p: t, which is a player, and what cell 0 holds after whole rounds of all players.
-- Where nobody plays, it is 0
pub record Turned (g : Game) (p : Position) (t : ℕ) : Type 0 where
  pub a_player : 0 < g.players → t < g.players
  pub rounds : 0 < g.players → (n : ℕ) × (n * g.players + t ≡ slice_index p 0)
  pub nobody : g.players ≡ 0 → t ≡ 0

-- the turn goes round the players
abbrev pub TurnGoesRound : Type 0
TurnGoesRound = (g : Game) (p : Position) → Turned g p (turn g p)
