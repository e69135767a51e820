-- The list of legal moves has each legal move once, and no other, in ascending order. Assumes nothing.
use Rattle.std.specs.Prelude.{◌≡◌, ℕ, ◌+◌, ◌<◌, Bool, true, false, cond, ◌&&◌, ◌⊎◌, List, [], ◌∷◌, ◌==◌}
use Rattle.std.specs.List.{AllByRecursion}
use Rattle.rules.specs.declared.Move.{Move}
use Rattle.rules.specs.Rules.{Position, Game, is_legal}
use Rattle.rules.specs.Play.{legal_moves, is_over}

-- something in the list equals x
abbrev pub Member : {X : Type 0} → X → List X → Type 0
Member x [] = ⊥
Member x (y ∷ ys) = (x ≡ y) ⊎ Member x ys

abbrev pub same_move : Move → Move → Bool
same_move v w = v.rule == w.rule && (v.first == w.first && v.second == w.second)

-- how often a move stands in a list
unfoldable pub times_in : List Move → Move → ℕ
times_in [] v = 0
times_in (w ∷ ws) v = cond (same_move w v) 1 0 + times_in ws v

-- a legal move stands in the list once, and any other not at all
abbrev pub ListedOnce : Type 0
ListedOnce = (g : Game) (p : Position) (v : Move) → times_in (legal_moves g p) v ≡ cond (is_legal g p v) 1 0

-- a smaller rule, or the same rule and a smaller first number, or both the same and a smaller second number
abbrev pub Before : Move → Move → Type 0
Before v w =
    (v.rule < w.rule)
    ⊎ (((v.rule ≡ w.rule) × (v.first < w.first)) ⊎ ((v.rule ≡ w.rule) × (v.first ≡ w.first) × (v.second < w.second)))

-- each move comes before every later one
abbrev pub Ascending : List Move → Type 0
Ascending [] = Unit {0}
Ascending (v ∷ vs) = AllByRecursion (Before v) vs × Ascending vs

-- the list ascends
abbrev pub ListedInOrder : Type 0
ListedInOrder = (g : Game) (p : Position) → Ascending (legal_moves g p)

-- where no move is legal, the game is over
abbrev pub NoMoveIsOver : Type 0
NoMoveIsOver = (g : Game) (p : Position) → ((v : Move) → is_legal g p v ≡ false) → is_over g p ≡ true

-- where the game is not over, some move is legal
abbrev pub GoesOnByAMove : Type 0
GoesOnByAMove = (g : Game) (p : Position) → is_over g p ≡ false → (v : Move) × (is_legal g p v ≡ true)
