-- What a player can force, and how many positions that is to look through. Assumes nothing: these are definitions.
use Rattle.std.specs.Prelude.{Bool, true, false, ◌&&◌, ◌||◌, cond, List, [], ◌∷◌, ◌++◌, ℕ, zero, suc, ◌+◌, leb, eqb, length}
use Rattle.rules.specs.declared.Move.{Move}
use Rattle.rules.specs.Rules.{Position, Game, turn, apply}
use Rattle.rules.specs.Play.{legal_moves, is_over, payoff}

-- whether f holds after some move of the list, or after every one
unfoldable pub after_some : (Position → Bool) → Game → Position → List Move → Bool
after_some f g p [] = false
after_some f g p (v ∷ vs) = f (apply g p v) || after_some f g p vs

unfoldable pub after_every : (Position → Bool) → Game → Position → List Move → Bool
after_every f g p [] = true
after_every f g p (v ∷ vs) = f (apply g p v) && after_every f g p vs

-- player m can bring the game to an end within d moves with a gain of at least k, whatever the others do
unfoldable pub can_force : Game → ℕ → ℕ → ℕ → Position → Bool
can_force g m k zero p = is_over g p && leb k (payoff g p m)
can_force g m k (suc d) p =
    cond (is_over g p) (leb k (payoff g p m))
    (cond (eqb (turn g p) m) (after_some (can_force g m k d) g p (legal_moves g p)) (after_every (can_force g m k d) g p (legal_moves g p)))

-- two positions are the same if all their cells are
unfoldable pub same_position : Position → Position → Bool
same_position [] [] = true
same_position [] (b ∷ bs) = false
same_position (a ∷ xs) [] = false
same_position (a ∷ xs) (b ∷ bs) = eqb a b && same_position xs bs

unfoldable pub is_among : Position → List Position → Bool
is_among p [] = false
is_among p (q ∷ qs) = same_position p q || is_among p qs

-- a layer is a list of positions, each in it once
abbrev pub add_once : Position → List Position → List Position
add_once p qs = cond (is_among p qs) qs (qs ++ (p ∷ []))

-- qs, and what the moves lead to from p
unfoldable pub add_after : Game → Position → List Move → List Position → List Position
add_after g p [] qs = qs
add_after g p (v ∷ vs) qs = add_after g p vs (add_once (apply g p v) qs)

-- qs, and what one move leads to from those positions of a layer that are not over
unfoldable pub next_layer : Game → List Position → List Position → List Position
next_layer g [] qs = qs
next_layer g (p ∷ ps) qs = next_layer g ps (cond (is_over g p) qs (add_after g p (legal_moves g p) qs))

-- how many positions a layer and the d layers after it have together
unfoldable pub layer_total : Game → ℕ → List Position → ℕ
layer_total g zero ps = length ps
layer_total g (suc d) ps = length ps + layer_total g d (next_layer g ps [])
