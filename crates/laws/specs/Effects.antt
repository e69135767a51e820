-- What evaluating and effects mean, as laws. Assumes nothing: these are statements.
use Rattle.std.specs.Prelude.{◌≡◌, ℕ, ◌<◌, ◌≤◌, true, List, [], ◌∷◌, ◌++◌, length, ◌≢◌, slice_index}
use Rattle.rules.specs.declared.Move.{Move}
use Rattle.rules.specs.Rules.{Position, Expr, Num, Cell, Me, Effect, Game, eval, turn, rule_at, apply_effects, apply}
use Rattle.rules.specs.Bounds.{all_below}

-- a cell that is not on the board holds 0
abbrev pub OffTheBoardIs0 : Type 0
OffTheBoardIs0 = (a : Expr) (p : Position) (x y m : ℕ) → length p ≤ eval a p x y m → eval (Cell a) p x y m ≡ 0

-- an effect on a cell that is not on the board changes nothing
abbrev pub OffTheBoardChangesNothing : Type 0
OffTheBoardChangesNothing =
    (e : Effect) (p : Position) (x y m : ℕ) → length p ≤ eval e.cell p x y m → apply_effects (e ∷ []) p x y m ≡ p

-- an effect on a cell of the board gives that cell its value, and leaves the length of the board and every other cell
abbrev pub OneCellChanges : Type 0
OneCellChanges =
    (e : Effect) (p : Position) (x y m : ℕ) → eval e.cell p x y m < length p → (length (apply_effects (e ∷ []) p x y m) ≡ length p)
    × (slice_index (apply_effects (e ∷ []) p x y m) (eval e.cell p x y m) ≡ eval e.value p x y m)
    × ((i : ℕ) → (i ≢ eval e.cell p x y m) → slice_index (apply_effects (e ∷ []) p x y m) i ≡ slice_index p i)

-- the effects of two lists joined are those of the first, and then those of the second in the position that the first left
abbrev pub OneAfterTheOther : Type 0
OneAfterTheOther =
    (es fs : List Effect) (p : Position) (x y m : ℕ) → apply_effects (es ++ fs) p x y m ≡ apply_effects fs (apply_effects es p x y m) x y m

-- whose turn it is, for Me, is taken before the first effect: a last effect that writes Me writes the turn of the position before the move,
-- even if the effects before it changed cell 0
abbrev pub MeIsTakenBefore : Type 0
MeIsTakenBefore =
    (g : Game) (p : Position) (v : Move) (es : List Effect) → (rule_at g v.rule).effects ≡ es ++ (record { cell = Num 1; value = Me } ∷ [])
    → 1 < length p → slice_index (apply g p v) 1 ≡ turn g p

-- no number passes 65,535: neither the value of an expression nor a cell after a move
pub record ValuesStaySmall : Type 0 where
  pub value :
      (a : Expr) (p : Position) (x y m : ℕ) → all_below 65536 p ≡ true → x < 65536 → y < 65536 → m < 65536 → eval a p x y m < 65536
  pub cells :
      (g : Game) (p : Position) (v : Move) → all_below 65536 p ≡ true → v.first < 65536 → v.second < 65536
      → all_below 65536 (apply g p v) ≡ true
