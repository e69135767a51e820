-- All legal moves of a position, the end of a game, and what a player has gained. Assumes nothing: these are definitions.
use Rattle.std.specs.Prelude.{Bool, not, ◌||◌, cond, List, [], ◌∷◌, ◌++◌, ℕ, zero, suc, eqb, length}
use Rattle.rules.specs.declared.Move.{Move}
use Rattle.rules.specs.Rules.{Position, Rule, Game, eval, turn, is_legal, apply}

-- the legal moves of rule r with first number x, second number below the given one
unfoldable pub moves_by_second : Game → Position → ℕ → ℕ → ℕ → List Move
moves_by_second g p r x zero = []
moves_by_second g p r x (suc y) =
    moves_by_second g p r x y ++ cond (is_legal g p (record { rule = r; first = x; second = y })) (record { rule = r; first = x; second = y } ∷ []) []

-- the legal moves of rule r with first number below the given one, second number below n
unfoldable pub moves_by_first : Game → Position → ℕ → ℕ → ℕ → List Move
moves_by_first g p r zero n = []
moves_by_first g p r (suc x) n = moves_by_first g p r x n ++ moves_by_second g p r x n

-- the legal moves of the given rules, of which the first has number r
unfoldable pub moves_by_rule : Game → Position → ℕ → List Rule → List Move
moves_by_rule g p r [] = []
moves_by_rule g p r (u ∷ us) = moves_by_first g p r u.first_bound u.second_bound ++ moves_by_rule g p (suc r) us

-- all legal moves, by rule, first and second number
unfoldable pub legal_moves : Game → Position → List Move
legal_moves g p = moves_by_rule g p 0 g.rules

-- a game is over when it says so, or when no move is legal
unfoldable pub is_over : Game → Position → Bool
is_over g p = not (eqb (eval g.terminal p 0 0 (turn g p)) 0) || eqb (length (legal_moves g p)) 0

-- what player m has gained
unfoldable pub payoff : Game → Position → ℕ → ℕ
payoff g p m = eval g.payoff p 0 0 m

-- the position after several moves
unfoldable pub replay : Game → Position → List Move → Position
replay g p [] = p
replay g p (v ∷ vs) = replay g (apply g p v) vs
