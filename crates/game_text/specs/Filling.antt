-- Bytes put into lent memory as far as there is room. Assumes nothing: these are definitions.
use Rattle.std.specs.Prelude.{ℕ, List, ◌++◌, length, take, drop}

-- memory that held `old`, once bs are put there from its start: those that have room, and past them what was there
unfoldable pub filled : List ℕ → List ℕ → List ℕ
filled bs old = take (length old) bs ++ drop (length bs) old
