-- Games as bytes: how they are written, how they are read, and what checking bytes answers. Assumes nothing: these are definitions.
use Rattle.std.specs.Prelude.{◌≡◌, ℕ, zero, suc, ◌+◌, ◌*◌, Bool, true, cond, ◌&&◌, List, [], ◌∷◌, ◌++◌, length, take, drop, Some, None, Ok, Err, Option, Result, nat_le, nat_lt}
use Rattle.rules.specs.declared.Refusal.{Refusal}
use Rattle.rules.specs.Rules.{Expr, Effect, Rule, Game}
use Rattle.rules.specs.Bounds.{all_below, game_parts, possible_moves, good_game}
use Rattle.wire.specs.declared.games.GameSize.{GameSize}
use Rattle.wire.specs.Numbers.{number_bytes, bytes_value}
use Rattle.wire.specs.Exprs.{expr_bytes, expr_fits, Parsed, got, unreadable, and_then, part, read_exprs}

-- numbers of two bytes each
unfoldable pub cells_bytes : List ℕ → List ℕ
cells_bytes [] = []
cells_bytes (c ∷ cs) = number_bytes 2 c ++ cells_bytes cs

-- for each effect the cell's expression and the value's
unfoldable pub effects_bytes : List Effect → List ℕ
effects_bytes [] = []
effects_bytes (e ∷ es) = expr_bytes e.cell ++ (expr_bytes e.value ++ effects_bytes es)

-- a rule: its two bounds, the guard, how many effects it has, and these
unfoldable pub rule_bytes : Rule → List ℕ
rule_bytes u =
    number_bytes 2 u.first_bound
    ++ (number_bytes 2 u.second_bound ++ (expr_bytes u.guard ++ (number_bytes 1 (length u.effects) ++ effects_bytes u.effects)))

unfoldable pub rules_bytes : List Rule → List ℕ
rules_bytes [] = []
rules_bytes (u ∷ us) = rule_bytes u ++ rules_bytes us

-- a game: the players, how many cells there are and what they hold at the start, how many rules there are and these, the terminal and the payoff
unfoldable pub game_bytes : Game → List ℕ
game_bytes g =
    number_bytes 1 g.players
    ++ (number_bytes 2 (length g.start) ++ (cells_bytes g.start
    ++ (number_bytes 1 (length g.rules) ++ (rules_bytes g.rules ++ (expr_bytes g.terminal ++ expr_bytes g.payoff)))))

-- counts and numbers fit their bytes
unfoldable pub effects_fit : List Effect → Bool
effects_fit [] = true
effects_fit (e ∷ es) = expr_fits e.cell && (expr_fits e.value && effects_fit es)

unfoldable pub rule_fits : Rule → Bool
rule_fits u =
    (nat_lt u.first_bound 65536 && nat_lt u.second_bound 65536) && (expr_fits u.guard && (nat_lt (length u.effects) 256 && effects_fit u.effects))

unfoldable pub rules_fit : List Rule → Bool
rules_fit [] = true
rules_fit (u ∷ us) = rule_fits u && rules_fit us

unfoldable pub fits_bytes : Game → Bool
fits_bytes g =
    (nat_lt g.players 256 && (nat_lt (length g.start) 65536 && all_below 65536 g.start))
    && ((nat_lt (length g.rules) 256 && rules_fit g.rules) && (expr_fits g.terminal && expr_fits g.payoff))

-- reads a number of w bytes
unfoldable pub read_number : ℕ → List ℕ → Parsed ℕ
read_number w bs = cond (nat_le w (length bs)) (got (bytes_value (take w bs)) (drop w bs)) unreadable

unfoldable pub read_cells : ℕ → List ℕ → Parsed (List ℕ)
read_cells zero bs = got [] bs
read_cells (suc n) bs = and_then (read_number 2 bs) (λ c r. and_then (read_cells n r) (λ cs q. got (c ∷ cs) q))

-- expressions by twos: a cell's and a value's
unfoldable pub effects_of : List Expr → List Effect
effects_of [] = []
effects_of (c ∷ []) = []
effects_of (c ∷ v ∷ es) = record { cell = c; value = v } ∷ effects_of es

unfoldable pub read_rule : List ℕ → Parsed Rule
read_rule bs =
    and_then (read_number 2 bs) (λ a r₁. and_then (read_number 2 r₁) (λ b r₂.
    and_then (read_exprs 1 r₂) (λ es r₃. and_then (read_number 1 r₃) (λ n r₄.
    and_then (read_exprs (2 * n) r₄) (λ fs r₅.
    got (record { first_bound = a; second_bound = b; guard = part es 0; effects = effects_of fs }) r₅)))))

unfoldable pub read_rules : ℕ → List ℕ → Parsed (List Rule)
read_rules zero bs = got [] bs
read_rules (suc n) bs = and_then (read_rule bs) (λ u r. and_then (read_rules n r) (λ us q. got (u ∷ us) q))

unfoldable pub read_game : List ℕ → Parsed Game
read_game bs =
    and_then (read_number 1 bs) (λ p r₁. and_then (read_number 2 r₁) (λ n r₂.
    and_then (read_cells n r₂) (λ cs r₃. and_then (read_number 1 r₃) (λ m r₄.
    and_then (read_rules m r₄) (λ us r₅. and_then (read_exprs 2 r₅) (λ es r₆.
    got (record { players = p; start = cs; rules = us; terminal = part es 0; payoff = part es 1 }) r₆))))))

-- all bytes were read
abbrev pub whole : Parsed Game → Option Game
whole (got g []) = Some g
whole (got g (b ∷ r)) = None
whole unreadable = None

-- the game that bytes are, if they are one
unfoldable pub parse_game : List ℕ → Option Game
parse_game bs = whole (read_game bs)

-- how many effects all rules have together
unfoldable pub total_effects : List Rule → ℕ
total_effects [] = 0
total_effects (u ∷ us) = length u.effects + total_effects us

unfoldable pub size_of : Game → GameSize
size_of g = record {
  players = g.players;
  cells = length g.start;
  rules = length g.rules;
  effects = total_effects g.rules;
  moves = possible_moves g.rules;
  parts = game_parts g;
}

-- a game is refused with number 3, at place 1 if it is one but not a good one
abbrev pub checked_game : Option Game → Result GameSize Refusal
checked_game None = Err (record { number = 3; place = 0 })
checked_game (Some g) = cond (good_game g) (Ok (size_of g)) (Err (record { number = 3; place = 1 }))

unfoldable pub checked : List ℕ → Result GameSize Refusal
checked bs = checked_game (parse_game bs)

-- a game is read back from its bytes
abbrev pub GameReadsBack : Type 0
GameReadsBack = (g : Game) → fits_bytes g ≡ true → parse_game (game_bytes g) ≡ Some g

-- bytes that are read as a game are the bytes of just this game
abbrev pub GameWritesBack : Type 0
GameWritesBack =
    (bs : List ℕ) (g : Game) → all_below 256 bs ≡ true → parse_game bs ≡ Some g → (bs ≡ game_bytes g) × (fits_bytes g ≡ true)

-- every good game can be written as bytes
abbrev pub GoodGamesFit : Type 0
GoodGamesFit = (g : Game) → good_game g ≡ true → fits_bytes g ≡ true
