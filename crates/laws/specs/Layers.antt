-- What the layers of positions are that a search counts. Assumes nothing.
use Rattle.std.specs.Prelude.{◌≡◌, ℕ, zero, suc, ◌+◌, ◌≤◌, true, false, List, [], ◌∷◌, length, ◌≢◌}
use Rattle.rules.specs.declared.Move.{Move}
use Rattle.rules.specs.Rules.{Position, Game, is_legal, apply}
use Rattle.rules.specs.Play.{is_over}
use Rattle.rules.specs.Force.{next_layer, layer_total}
use Rattle.laws.specs.Listing.{Member}

-- the layer d moves after ps
unfoldable pub layer : Game → ℕ → List Position → List Position
layer g zero ps = ps
layer g (suc d) ps = next_layer g (layer g d ps) []

-- f 0 + f 1 + .. + f d
unfoldable pub sum_to : ℕ → (ℕ → ℕ) → ℕ
sum_to zero f = f 0
sum_to (suc d) f = sum_to d f + f (suc d)

-- the total is the sum of the lengths of layers 0 to d
abbrev pub TotalIsExact : Type 0
TotalIsExact = (g : Game) (d : ℕ) (ps : List Position) → layer_total g d ps ≡ sum_to d (λ i. length (layer g i ps))

-- more layers have no fewer positions
abbrev pub MoreLayers : Type 0
MoreLayers = (g : Game) (d e : ℕ) (ps : List Position) → layer_total g d ps ≤ layer_total g (d + e) ps

-- no position equals a later one
abbrev pub Distinct : List Position → Type 0
Distinct [] = Unit {0}
Distinct (p ∷ ps) = ((q : Position) → Member q ps → p ≢ q) × Distinct ps

-- a next layer has no position twice
abbrev pub NoPositionTwice : Type 0
NoPositionTwice = (g : Game) (ps : List Position) → Distinct (next_layer g ps [])

-- q is what a legal move makes of some position in ps that is not over
abbrev pub Follows : Game → List Position → Position → Type 0
Follows g ps q =
    (p : Position) × Member p ps × (is_over g p ≡ false) × ((v : Move) × (is_legal g p v ≡ true) × (q ≡ apply g p v))

-- a next layer has just the positions that a legal move leads to from a position that is not over
abbrev pub JustThoseReached : Type 0
JustThoseReached =
    (g : Game) (ps : List Position) (q : Position) → (Member q (next_layer g ps []) → Follows g ps q) × (Follows g ps q → Member q (next_layer g ps []))
