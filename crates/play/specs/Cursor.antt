-- The legal moves from a given one on, in their order: by rule, first and second number. Assumes nothing: these are definitions.
use Rattle.std.specs.Prelude.{◌≡◌, ℕ, zero, suc, ◌+◌, ◌-◌, ◌<◌, cond, List, [], ◌∷◌, ◌++◌, drop, Some, None, Option}
use Rattle.rules.specs.declared.Move.{Move}
use Rattle.rules.specs.Rules.{Position, Game, rule_at, is_legal}
use Rattle.rules.specs.Play.{moves_by_rule, legal_moves}

abbrev pub move : ℕ → ℕ → ℕ → Move
move r x y = record { rule = r; first = x; second = y }

-- a move as a list, of one if it is legal
abbrev pub if_legal : Game → Position → Move → List Move
if_legal g p v = cond (is_legal g p v) (v ∷ []) []

-- the legal moves of rule r with first number x and one of the n second numbers from y on
unfoldable pub next_seconds : Game → Position → ℕ → ℕ → ℕ → ℕ → List Move
next_seconds g p r x y zero = []
next_seconds g p r x y (suc n) = if_legal g p (move r x y) ++ next_seconds g p r x (y + 1) n

-- those with any second number from y on
unfoldable pub seconds_from : Game → Position → ℕ → ℕ → ℕ → List Move
seconds_from g p r x y = next_seconds g p r x y ((rule_at g r).second_bound - y)

-- the legal moves of rule r with one of the n first numbers from x on
unfoldable pub next_firsts : Game → Position → ℕ → ℕ → ℕ → List Move
next_firsts g p r x zero = []
next_firsts g p r x (suc n) = seconds_from g p r x 0 ++ next_firsts g p r (x + 1) n

-- those with any first number from x on
unfoldable pub firsts_from : Game → Position → ℕ → ℕ → List Move
firsts_from g p r x = next_firsts g p r x ((rule_at g r).first_bound - x)

-- the legal moves of the rules from r on
unfoldable pub rules_from : Game → Position → ℕ → List Move
rules_from g p r = moves_by_rule g p r (drop r g.rules)

-- the legal moves that are not before this one: those of its rule with its first number, those with a later one, and those of later rules
unfoldable pub moves_from : Game → Position → Move → List Move
moves_from g p v = seconds_from g p v.rule v.first v.second ++ (firsts_from g p v.rule (v.first + 1) ++ rules_from g p (v.rule + 1))

-- where to go on after a move
abbrev pub after : Move → Move
after v = move v.rule v.first (v.second + 1)

-- v is the first of these moves, and the others are those after it. One can go on, since its second number is not the last that fits
pub record Begins (g : Game) (p : Position) (vs : List Move) (v : Move) : Type 0 where
  pub first : vs ≡ v ∷ moves_from g p (after v)
  pub fits : v.second < 4294967295

-- none is found exactly if the part that is looked through is empty; what is found begins the whole list
abbrev pub Finds : Game → Position → List Move → List Move → Option Move → Type 0
Finds g p part all None = part ≡ []
Finds g p part all (Some v) = Begins g p all v

-- a cursor that starts at the least move lists all legal moves
abbrev pub StartsWithAll : Type 0
StartsWithAll = (g : Game) (p : Position) → moves_from g p (move 0 0 0) ≡ legal_moves g p
