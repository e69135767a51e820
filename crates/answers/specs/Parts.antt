-- What is read from the bytes of an answer, as parts of them. Assumes nothing: these are definitions.
use Rattle.std.specs.Prelude.{ℕ, List, map, Option}
use Rattle.std.specs.Int.{w32, from_le_bytes}
use Rattle.std.specs.Option.{option_map}
use Rattle.rules.specs.declared.Move.{Move}
use Rattle.rules.specs.Calls.{Answer, refused, number, shown, listed, forced}
use Rattle.wire.specs.Fields.{field_at}
use Rattle.answers.specs.declared.Parts.{Parts}
use Rattle.answers.specs.declared.Parts.TheVariants.{Refused, Number, Shown, Listed, Forced}

-- numbers, of four bytes each
abbrev pub numbers_in : List (List ℕ) → List ℕ
numbers_in = map (from_le_bytes w32)

-- a move of twelve bytes, and moves
abbrev pub move_in : List ℕ → Move
move_in c = record { rule = field_at c 0; first = field_at c 4; second = field_at c 8 }

abbrev pub moves_in : List (List ℕ) → List Move
moves_in = map move_in

-- the answer that parts are
abbrev pub parts_answer : Parts → Answer
parts_answer (Refused r) = refused r
parts_answer (Number n) = number n
parts_answer (Shown cells t e clocks) = shown (numbers_in cells.now) t e (numbers_in clocks.now)
parts_answer (Listed moves) = listed (moves_in moves.now)
parts_answer (Forced n) = forced n

abbrev pub parts_read : Option Parts → Option Answer
parts_read = option_map parts_answer
