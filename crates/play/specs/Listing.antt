-- What listing moves leaves in an answer: move k of a list stands from place 5 + 12 * k on. Assumes nothing: these are definitions.
use Rattle.std.specs.Prelude.{◌≡◌, ℕ, ◌+◌, ◌-◌, ◌*◌, ◌/◌, ◌<◌, ◌≤◌, List, length, take, Some, None, Option}
use Rattle.rules.specs.declared.Move.{Move}
use Rattle.wire.specs.Fields.{written}
use Rattle.answers.specs.Writing.{moves_bytes}

-- how many moves have room in an answer
abbrev pub most_moves : List ℕ → ℕ
most_moves old = (length old - 5) / 12

-- an answer that has too little room for a list of moves, when that shows: those that have room are written, and no head
unfoldable pub part_listed : List Move → List ℕ → List ℕ
part_listed vs old = written 5 (moves_bytes (take (most_moves old) vs)) old

-- What the steps of listing leave. No reader has to believe this: the contract of the whole does not name it.

-- the moves vs stand in the answer after n others, which makes k
pub record AllListed (vs : List Move) (n : ℕ) (old new : List ℕ) (k : ℕ) : Type 0 where
  pub count : k ≡ n + length vs
  pub fits : 5 + 12 * k ≤ length old
  pub bytes : new ≡ written (5 + 12 * n) (moves_bytes vs) old

-- they have no room after n others, and those that have are written
pub record SomeListed (vs : List Move) (n : ℕ) (old new : List ℕ) : Type 0 where
  pub too_many : length old < 5 + 12 * (n + length vs)
  pub bytes : new ≡ written (5 + 12 * n) (moves_bytes (take (most_moves old - n) vs)) old

-- listing them answers how many there are then, or None where they have no room
abbrev pub Lists : List Move → ℕ → List ℕ → List ℕ → Option ℕ → Type 0
Lists vs n old new None = SomeListed vs n old new
Lists vs n old new (Some k) = AllListed vs n old new k
