-- Every game as memory: words that mean it. Nobody has to believe these: they are there to show that such words exist.
use Rattle.std.specs.Prelude.{◌≡◌, ℕ, ◌+◌, ◌-◌, ◌*◌, true, List, [], ◌∷◌, ◌++◌, length}
use Rattle.rules.specs.Rules.{Expr, Num, Cell, First, Second, Me, Add, Sub, Mul, Div, Rem, Lt, Eq, If, Effect, Rule, Game}
use Rattle.rules.specs.Bounds.{expr_parts, good_game, all_below}
use Rattle.wire.specs.Games.{size_of}
use Rattle.rows.specs.Layout.{game_at, words_needed}
use Rattle.rows.specs.Load.{rule_words, rules_words}

-- the rows of an expression from a place on: first those of its parts, and its own last. Where they end, and where the last one is
abbrev pub after : ℕ → Expr → ℕ
after at e = at + 4 * expr_parts e

abbrev pub root : ℕ → Expr → ℕ
root at e = after at e - 4

abbrev pub row : ℕ → ℕ → ℕ → ℕ → List ℕ
row k a b c = k ∷ a ∷ b ∷ c ∷ []

unfoldable pub expr_rows : ℕ → Expr → List ℕ
expr_rows at (Num n) = row 0 n 0 0
expr_rows at (Cell a) = expr_rows at a ++ row 1 (root at a) 0 0
expr_rows at First = row 2 0 0 0
expr_rows at Second = row 3 0 0 0
expr_rows at Me = row 4 0 0 0
expr_rows at (Add a b) = expr_rows at a ++ (expr_rows (after at a) b ++ row 5 (root at a) (root (after at a) b) 0)
expr_rows at (Sub a b) = expr_rows at a ++ (expr_rows (after at a) b ++ row 6 (root at a) (root (after at a) b) 0)
expr_rows at (Mul a b) = expr_rows at a ++ (expr_rows (after at a) b ++ row 7 (root at a) (root (after at a) b) 0)
expr_rows at (Div a b) = expr_rows at a ++ (expr_rows (after at a) b ++ row 8 (root at a) (root (after at a) b) 0)
expr_rows at (Rem a b) = expr_rows at a ++ (expr_rows (after at a) b ++ row 9 (root at a) (root (after at a) b) 0)
expr_rows at (Lt a b) = expr_rows at a ++ (expr_rows (after at a) b ++ row 10 (root at a) (root (after at a) b) 0)
expr_rows at (Eq a b) = expr_rows at a ++ (expr_rows (after at a) b ++ row 11 (root at a) (root (after at a) b) 0)
expr_rows at (If a b c) =
    expr_rows at a
    ++ (expr_rows (after at a) b
    ++ (expr_rows (after (after at a) b) c ++ row 12 (root at a) (root (after at a) b) (root (after (after at a) b) c)))

-- of effects whose expressions begin at a place: where these are, and their rows
unfoldable pub effects_table : ℕ → List Effect → List ℕ
effects_table at [] = []
effects_table at (e ∷ es) =
    root at e.cell ∷ root (after at e.cell) e.value ∷ effects_table (after (after at e.cell) e.value) es

unfoldable pub effects_rows : ℕ → List Effect → List ℕ
effects_rows at [] = []
effects_rows at (e ∷ es) =
    expr_rows at e.cell ++ (expr_rows (after at e.cell) e.value ++ effects_rows (after (after at e.cell) e.value) es)

-- a rule's words from a place on: the table of its effects, its guard, and its effects
abbrev pub guard_place : ℕ → Rule → ℕ
guard_place at u = at + 2 * length u.effects

abbrev pub effects_place : ℕ → Rule → ℕ
effects_place at u = after (guard_place at u) u.guard

abbrev pub rule_body : ℕ → Rule → List ℕ
rule_body at u =
    effects_table (effects_place at u) u.effects
    ++ (expr_rows (guard_place at u) u.guard ++ effects_rows (effects_place at u) u.effects)

abbrev pub rule_row : ℕ → Rule → List ℕ
rule_row at u = u.first_bound ∷ u.second_bound ∷ root (guard_place at u) u.guard ∷ length u.effects ∷ at ∷ []

-- of rules whose words begin at a place: the five of each, and the others
unfoldable pub rules_table : ℕ → List Rule → List ℕ
rules_table at [] = []
rules_table at (u ∷ us) = rule_row at u ++ rules_table (at + rule_words u) us

unfoldable pub rules_bodies : ℕ → List Rule → List ℕ
rules_bodies at [] = []
rules_bodies at (u ∷ us) = rule_body at u ++ rules_bodies (at + rule_words u) us

-- where the rules' words, the terminal and the payoff begin
abbrev pub bodies_place : Game → ℕ
bodies_place g = 5 + length g.start + 5 * length g.rules

abbrev pub terminal_place : Game → ℕ
terminal_place g = bodies_place g + rules_words g.rules

abbrev pub payoff_place : Game → ℕ
payoff_place g = after (terminal_place g) g.terminal

abbrev pub encoded_header : Game → List ℕ
encoded_header g =
    g.players ∷ length g.start ∷ length g.rules ∷ root (terminal_place g) g.terminal ∷ root (payoff_place g) g.payoff ∷ []

unfoldable pub encoded : Game → List ℕ
encoded g =
    encoded_header g
    ++ (g.start ++ (rules_table (bodies_place g) g.rules ++ (rules_bodies (bodies_place g) g.rules
    ++ (expr_rows (terminal_place g) g.terminal ++ expr_rows (payoff_place g) g.payoff))))

-- these words mean the game, are just as many as are asked for, and have four bytes each
abbrev pub EveryGameHasMemory : Type 0
EveryGameHasMemory =
    (g : Game) → good_game g ≡ true
    → (game_at (encoded g) ≡ g) × (length (encoded g) ≡ words_needed (size_of g)) × (all_below 4294967296 (encoded g) ≡ true)
