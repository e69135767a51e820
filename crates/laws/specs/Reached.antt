-- A table stands where its moves lead, and each of them was legal. Assumes nothing.
use Rattle.std.specs.Prelude.{◌≡◌, ℕ, ◌<◌, Bool, true, not, ◌&&◌, List, [], ◌∷◌, length}
use Rattle.rules.specs.declared.Move.{Move}
use Rattle.rules.specs.declared.Limits.{Limits}
use Rattle.rules.specs.declared.Call.{Call}
use Rattle.rules.specs.Rules.{Position, Game, is_legal, apply}
use Rattle.rules.specs.Play.{is_over, replay}
use Rattle.rules.specs.Calls.{Stage, Table, table_at, opened, run}

-- each move was legal in the position that those before it led to, where the game was not over
unfoldable pub all_were_legal : Game → Position → List Move → Bool
all_were_legal g p [] = true
all_were_legal g p (v ∷ vs) = (is_legal g p v && not (is_over g p)) && all_were_legal g (apply g p v) vs

-- after any calls, every table holds the position that its moves lead to from the start, and all of them were legal
abbrev pub ReachedByItsMoves : Type 0
ReachedByItsMoves =
    (can : Stage) (l : Limits) (g : Game) (cs : List Call) (t : ℕ) → t < length (run can l (opened g) cs).tables →
    let u : Table = table_at (run can l (opened g) cs) t in
    (replay g g.start u.played ≡ u.cells) × (all_were_legal g g.start u.played ≡ true)
