-- Which limit of a good game a game breaks. Assumes nothing: these are definitions.
use Rattle.std.specs.Prelude.{◌≡◌, ℕ, ◌+◌, Bool, true, false, cond, ◌&&◌, ◌||◌, List, [], ◌∷◌, length, Some, None, Option, nat_lt}
use Rattle.rules.specs.Rules.{Rule, Game}
use Rattle.rules.specs.Bounds.{fits_depth, game_parts, possible_moves, good_effects, good_game}
use Rattle.wire.specs.Games.{fits_bytes}
use Rattle.wire.specs.declared.excesses.Excess.{Excess}
use Rattle.wire.specs.declared.excesses.Excess.TheVariants.{Players, Cells, Rules, Moves, Parts, FirstBound, SecondBound, Deep}

-- the first count that is outside its limits: 1 to 4 players, 1 to 256 cells, at most 64 rules, 4,096 possible moves and 16,384 parts
unfoldable pub count_excess : ℕ → ℕ → ℕ → ℕ → ℕ → Option Excess
count_excess players cells rules moves parts =
    cond (nat_lt players 1 || nat_lt 4 players) (Some (Players players))
    (cond (nat_lt cells 1 || nat_lt 256 cells) (Some (Cells cells))
    (cond (nat_lt 64 rules) (Some (Rules rules))
    (cond (nat_lt 4096 moves) (Some (Moves moves))
    (cond (nat_lt 16384 parts) (Some (Parts parts)) None))))

-- the first bound above 256 of rules, the first of which has the number n
unfoldable pub bound_excess : ℕ → List Rule → Option Excess
bound_excess n [] = None
bound_excess n (u ∷ us) =
    cond (nat_lt 256 u.first_bound) (Some (FirstBound n u.first_bound))
    (cond (nat_lt 256 u.second_bound) (Some (SecondBound n u.second_bound)) (bound_excess (n + 1) us))

abbrev pub or_else : Option Excess → Excess → Excess
or_else None e = e
or_else (Some d) e = d

-- what a game that is not good has too much of: a count, else a bound of a rule, else an expression is more than 32 deep
unfoldable pub excess : Game → Excess
excess g =
    or_else (count_excess g.players (length g.start) (length g.rules) (possible_moves g.rules) (game_parts g))
    (or_else (bound_excess 0 g.rules) Deep)

-- there is nothing to tell of bytes that are no game, nor of a good game
unfoldable pub excess_of : Option Game → Option Excess
excess_of None = None
excess_of (Some g) = cond (good_game g) None (Some (excess g))

-- no expression of rules, and none of a game, is more than 32 deep; their numbers are at most 65,535, as those of all bytes are
unfoldable pub shallow_rules : List Rule → Bool
shallow_rules [] = true
shallow_rules (u ∷ us) = (fits_depth u.guard 32 && good_effects u.effects) && shallow_rules us

unfoldable pub shallow : Game → Bool
shallow g = shallow_rules g.rules && (fits_depth g.terminal 32 && fits_depth g.payoff 32)

-- of a game whose numbers fit it is told that an expression is too deep only if one is
abbrev pub DeepIsDeep : Type 0
DeepIsDeep = (g : Game) → fits_bytes g ≡ true → excess_of (Some g) ≡ Some Deep → shallow g ≡ false
