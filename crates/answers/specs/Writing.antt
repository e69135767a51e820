-- What the writers of answers say. Assumes nothing: these are definitions.
use Rattle.std.specs.Prelude.{◌≡◌, ℕ, ◌+◌, ◌*◌, ◌≤◌, List, [], ◌∷◌, ◌++◌, length}
use Rattle.rules.specs.declared.Move.{Move}
use Rattle.rules.specs.Calls.{listed}
use Rattle.wire.specs.Fields.{fields_bytes, written}
use Rattle.answers.specs.Answers.{moves_fields, answer_bytes}

-- a list of moves in parts: what stands before n moves, the moves, and a single move
unfoldable pub list_head : ℕ → List ℕ
list_head n = 3 ∷ fields_bytes (n ∷ [])

unfoldable pub moves_bytes : List Move → List ℕ
moves_bytes vs = fields_bytes (moves_fields vs)

abbrev pub move_bytes : Move → List ℕ
move_bytes v = moves_bytes (v ∷ [])

-- moves that are written one after the other stand there together, and with what stands before them, written last, they are the whole list
abbrev pub ListInParts : Type 0
ListInParts =
    ((old : List ℕ) (at : ℕ) (vs : List Move) (v : Move) → at + 12 * length vs + 12 ≤ length old
    → written (at + 12 * length vs) (move_bytes v) (written at (moves_bytes vs) old) ≡ written at (moves_bytes (vs ++ (v ∷ []))) old)
    × ((old : List ℕ) (vs : List Move) → 5 + 12 * length vs ≤ length old
    → written 0 (list_head (length vs)) (written 5 (moves_bytes vs) old) ≡ written 0 (answer_bytes (listed vs)) old)
