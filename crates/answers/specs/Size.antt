-- How many bytes the answers to a game need. Assumes nothing: these are definitions.
use Rattle.std.specs.Prelude.{◌≡◌, ℕ, ◌+◌, ◌*◌, ◌≤◌, Bool, true, ◌&&◌, List, [], ◌∷◌, length, ◌==◌}
use Rattle.rules.specs.declared.Limits.{Limits}
use Rattle.rules.specs.declared.Call.{Call}
use Rattle.rules.specs.Rules.{Game}
use Rattle.rules.specs.Calls.{Table, State, Stage, answer, opened, run}
use Rattle.rules.specs.Bounds.{good_game, possible_moves}
use Rattle.answers.specs.Answers.{answer_bytes}

-- a table has as many cells as the start of the game, and a clock for each player
unfoldable pub table_sized : Game → Table → Bool
table_sized g t = length t.cells == length g.start && length t.clocks == g.players

unfoldable pub tables_sized : Game → List Table → Bool
tables_sized g [] = true
tables_sized g (t ∷ ts) = table_sized g t && tables_sized g ts

-- as many bytes as an answer can have
abbrev pub answer_room : Game → ℕ
answer_room g = 12 * possible_moves g.rules + 4096

-- in a state whose tables have the sizes of its game, every answer has room
abbrev pub AnswersFit : Type 0
AnswersFit =
    (can : Stage) (l : Limits) (s : State) (c : Call) → good_game s.game ≡ true → tables_sized s.game s.tables ≡ true
    → length (answer_bytes (answer can l s c)) ≤ answer_room s.game

-- the tables have these sizes after any calls to a server that was opened with the game, so every answer that it gives has room
abbrev pub AllAnswersFit : Type 0
AllAnswersFit =
    (can : Stage) (l : Limits) (g : Game) (cs : List Call) (c : Call) → good_game g ≡ true
    → length (answer_bytes (answer can l (run can l (opened g) cs) c)) ≤ answer_room g
