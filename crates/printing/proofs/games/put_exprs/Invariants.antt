use Rattle.std.proofs.Common.{◌≡◌, ◌≤◌, ℕ, true, List, ◌++◌, length}
use Rattle.rules.specs.Rules.{Expr}
use Rattle.printing.specs.Walk.{exprs_bytes, exprs_fit, exprs_text}
use Rattle.printing.proofs.Rows.{Left}
use Rattle.printing.proofs.games.put_exprs.Given as goal

abbrev pub invariant-loop-pending : goal.invariant-loop-pending
invariant-loop-pending l =
    (length l.rest ≤ length l.game)
    × ((es : List Expr) (rest : List ℕ) → l.game ≡ exprs_bytes es ++ rest → exprs_fit es ≡ true → length es ≡ l.count →
    Left exprs_bytes exprs_fit exprs_text l.rest l.pending l.initial.writer l.writer es rest)

abbrev pub decreases-loop-pending : goal.decreases-loop-pending
decreases-loop-pending l = length l.rest
