-- Which files are games in byte form, and which games are served. Assumes nothing: these are definitions.
use Rattle.std.specs.Prelude.{◌≡◌, ℕ, Bool, true, ◌&&◌, ◌||◌, List, length, Ok, nat_le, nat_lt, slice_index}
use Rattle.wire.specs.declared.games.GameSize.{GameSize}
use Rattle.wire.specs.Games.{checked}

-- a file whose first byte is below 9, which begins no text
abbrev pub in_bytes : List ℕ → Bool
in_bytes file = nat_lt 0 (length file) && nat_lt (slice_index file 0) 9

-- at most 16 cells and 256 possible moves, unless large games are asked for
abbrev pub small_enough : Bool → GameSize → Bool
small_enough large z = large || (nat_le z.cells 16 && nat_le z.moves 256)

-- the bytes of a good game that is small enough
abbrev pub Served : Bool → List ℕ → Type 0
Served large bs = (z : GameSize) × (checked bs ≡ Ok z) × (small_enough large z ≡ true)
