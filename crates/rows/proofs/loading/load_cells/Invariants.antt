use Rattle.std.proofs.Common.{◌≡◌, ℕ, ◌+◌, ◌*◌, ◌<◌, get_or}
use Rattle.wire.specs.GamesWalk.{word_at}
use Rattle.rows.proofs.loading.load_cells.Given as goal

-- the cells so far
abbrev pub invariant-loop-k : goal.invariant-loop-k
invariant-loop-k l = (j : ℕ) → j < l.k → get_or l.cells j 0 ≡ word_at l.bytes (3 + 2 * j)
