-- When a move is legal and what it makes, when a game is over, and what is gained. Assumes nothing: these are statements.
use Rattle.std.specs.Prelude.{◌≡◌, ℕ, ◌<◌, true, false, ◌≢◌, ◌⊎◌, List, ◌∷◌, ◌++◌, length}
use Rattle.rules.specs.declared.Move.{Move}
use Rattle.rules.specs.Rules.{Position, Rule, Game, eval, turn, rule_at, is_legal, apply_effects, apply}
use Rattle.rules.specs.Play.{is_over, payoff}

-- a rule is known by its place: the one behind rs has as its number how many those are
abbrev pub RulesByTheirPlace : Type 0
RulesByTheirPlace = (g : Game) (rs us : List Rule) (u : Rule) → g.rules ≡ rs ++ (u ∷ us) → rule_at g (length rs) ≡ u

-- the game has the move's rule, both numbers are below its bounds, and its guard is not 0 for the player whose turn it is
pub record Legal (g : Game) (p : Position) (v : Move) : Type 0 where
  pub rule : v.rule < length g.rules
  pub first : v.first < (rule_at g v.rule).first_bound
  pub second : v.second < (rule_at g v.rule).second_bound
  pub guard : eval (rule_at g v.rule).guard p v.first v.second (turn g p) ≢ 0

-- a move is legal just if these hold
abbrev pub LegalJustIf : Type 0
LegalJustIf = (g : Game) (p : Position) (v : Move) → (is_legal g p v ≡ true → Legal g p v) × (Legal g p v → is_legal g p v ≡ true)

-- a move makes of a position what its rule's effects do with its numbers, for the player whose turn it was
abbrev pub MadeByItsEffects : Type 0
MadeByItsEffects =
    (g : Game) (p : Position) (v : Move) → apply g p v ≡ apply_effects (rule_at g v.rule).effects p v.first v.second (turn g p)

-- the game says so for the player whose turn it is, or no move is legal
abbrev pub Over : Game → Position → Type 0
Over g p = (eval g.terminal p 0 0 (turn g p) ≢ 0) ⊎ ((v : Move) → is_legal g p v ≡ false)

-- a game is over just if that holds
abbrev pub OverJustIf : Type 0
OverJustIf = (g : Game) (p : Position) → (is_over g p ≡ true → Over g p) × (Over g p → is_over g p ≡ true)

-- a player's gain is what the game's expression for it is worth to that player, whosever turn it is
abbrev pub GainedByEach : Type 0
GainedByEach = (g : Game) (p : Position) (m : ℕ) → payoff g p m ≡ eval g.payoff p 0 0 m
