-- The line and the column of a place in a text. Assumes nothing: these are definitions.
use Rattle.std.specs.Prelude.{ℕ, ◌+◌, cond, List, [], ◌∷◌, take, ◌==◌}

-- where bytes lead to from a line and a column: each LF to the first column of the next line, each other byte to the next column
unfoldable pub moved_by : List ℕ → ℕ → ℕ → ℕ × ℕ
moved_by [] line column = (line, column)
moved_by (b ∷ bs) line column = cond (b == 10) (moved_by bs (line + 1) 1) (moved_by bs line (column + 1))

-- both from 1
abbrev pub position : List ℕ → ℕ → ℕ × ℕ
position text i = moved_by (take i text) 1 1
