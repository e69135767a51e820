-- The games and limits that a server may be opened with, and the calls that bytes can carry. Assumes nothing: these are definitions.
use Rattle.std.specs.Prelude.{Bool, true, false, ◌&&◌, List, [], ◌∷◌, ℕ, zero, suc, ◌+◌, ◌*◌, ltb, leb, length}
use Rattle.rules.specs.declared.Limits.{Limits}
use Rattle.rules.specs.declared.Limit.{Limit}
use Rattle.rules.specs.declared.Limit.TheVariants.{Tables, Moves, Positions}
use Rattle.rules.specs.declared.Call.{Call}
use Rattle.rules.specs.declared.Call.TheVariants.{Sit, Play, Ticks, See, May, Back, CanForce}
use Rattle.rules.specs.Rules.{Expr, Num, Cell, First, Second, Me, Add, Sub, Mul, Div, Rem, Lt, Eq, If, Effect, Rule, Game}

-- an expression is at most d deep, where what is made of nothing is 0 deep, and its numbers are at most 65,535
unfoldable pub fits_depth : Expr → ℕ → Bool
fits_depth (Num n) d = ltb n 65536
fits_depth (Cell a) zero = false
fits_depth (Cell a) (suc d) = fits_depth a d
fits_depth First d = true
fits_depth Second d = true
fits_depth Me d = true
fits_depth (Add a b) zero = false
fits_depth (Add a b) (suc d) = fits_depth a d && fits_depth b d
fits_depth (Sub a b) zero = false
fits_depth (Sub a b) (suc d) = fits_depth a d && fits_depth b d
fits_depth (Mul a b) zero = false
fits_depth (Mul a b) (suc d) = fits_depth a d && fits_depth b d
fits_depth (Div a b) zero = false
fits_depth (Div a b) (suc d) = fits_depth a d && fits_depth b d
fits_depth (Rem a b) zero = false
fits_depth (Rem a b) (suc d) = fits_depth a d && fits_depth b d
fits_depth (Lt a b) zero = false
fits_depth (Lt a b) (suc d) = fits_depth a d && fits_depth b d
fits_depth (Eq a b) zero = false
fits_depth (Eq a b) (suc d) = fits_depth a d && fits_depth b d
fits_depth (If a b c) zero = false
fits_depth (If a b c) (suc d) = fits_depth a d && (fits_depth b d && fits_depth c d)

-- how many parts an expression has; rules and effects count one each besides
unfoldable pub expr_parts : Expr → ℕ
expr_parts (Num n) = 1
expr_parts (Cell a) = suc (expr_parts a)
expr_parts First = 1
expr_parts Second = 1
expr_parts Me = 1
expr_parts (Add a b) = suc (expr_parts a + expr_parts b)
expr_parts (Sub a b) = suc (expr_parts a + expr_parts b)
expr_parts (Mul a b) = suc (expr_parts a + expr_parts b)
expr_parts (Div a b) = suc (expr_parts a + expr_parts b)
expr_parts (Rem a b) = suc (expr_parts a + expr_parts b)
expr_parts (Lt a b) = suc (expr_parts a + expr_parts b)
expr_parts (Eq a b) = suc (expr_parts a + expr_parts b)
expr_parts (If a b c) = suc (expr_parts a + expr_parts b + expr_parts c)

unfoldable pub effect_parts : List Effect → ℕ
effect_parts [] = 0
effect_parts (e ∷ es) = 1 + expr_parts e.cell + expr_parts e.value + effect_parts es

unfoldable pub rule_parts : List Rule → ℕ
rule_parts [] = 0
rule_parts (r ∷ rs) = 1 + expr_parts r.guard + effect_parts r.effects + rule_parts rs

unfoldable pub game_parts : Game → ℕ
game_parts g = rule_parts g.rules + expr_parts g.terminal + expr_parts g.payoff

-- how many moves there could be in a position: one for each rule and two numbers below its bounds
unfoldable pub possible_moves : List Rule → ℕ
possible_moves [] = 0
possible_moves (r ∷ rs) = r.first_bound * r.second_bound + possible_moves rs

unfoldable pub good_effects : List Effect → Bool
good_effects [] = true
good_effects (e ∷ es) = fits_depth e.cell 32 && (fits_depth e.value 32 && good_effects es)

-- the count of a rule's effects has one byte
unfoldable pub good_rules : List Rule → Bool
good_rules [] = true
good_rules (r ∷ rs) =
    ((leb r.first_bound 256 && leb r.second_bound 256) && leb (length r.effects) 255)
    && (fits_depth r.guard 32 && (good_effects r.effects && good_rules rs))

unfoldable pub all_below : ℕ → List ℕ → Bool
all_below b [] = true
all_below b (x ∷ xs) = ltb x b && all_below b xs

unfoldable pub good_game : Game → Bool
good_game g =
    ((leb 1 g.players && leb g.players 4) && ((leb 1 (length g.start) && leb (length g.start) 256) && all_below 65536 g.start))
    && ((leb (length g.rules) 64 && good_rules g.rules) && ((leb (possible_moves g.rules) 4096 && leb (game_parts g) 16384)
    && (fits_depth g.terminal 32 && fits_depth g.payoff 32)))

unfoldable pub good_limits : Limits → Bool
good_limits l = leb l.tables 1024 && (leb l.moves 1000000 && leb l.positions 8192)

-- the same limits but for one of them
abbrev pub with_limit : Limits → Limit → ℕ → Limits
with_limit l Tables n = record { tables = n; moves = l.moves; positions = l.positions }
with_limit l Moves n = record { tables = l.tables; moves = n; positions = l.positions }
with_limit l Positions n = record { tables = l.tables; moves = l.moves; positions = n }

-- those of a server for which none are given
abbrev pub usual_limits : Limits
usual_limits = record { tables = 16; moves = 1000; positions = 256 }

-- a number that a field of four bytes can carry
abbrev pub fits_field : ℕ → Bool
fits_field n = ltb n 4294967296

unfoldable pub readable : Call → Bool
readable (Sit n) = fits_field n
readable (Play t m v) = (fits_field t && fits_field m) && (fits_field v.rule && (fits_field v.first && fits_field v.second))
readable (Ticks n) = fits_field n
readable (See t) = fits_field t
readable (May t) = fits_field t
readable (Back t n) = fits_field t && fits_field n
readable (CanForce t m k d) = (fits_field t && fits_field m) && (fits_field k && fits_field d)

unfoldable pub all_readable : List Call → Bool
all_readable [] = true
all_readable (c ∷ cs) = readable c && all_readable cs
