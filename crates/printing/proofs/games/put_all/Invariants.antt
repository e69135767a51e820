use Rattle.std.proofs.Common.{◌≡◌, ℕ, ◌-◌, true, List, ◌++◌, length}
use Rattle.printing.proofs.Rows.{Left}
use Rattle.printing.proofs.games.put_all.Given as goal

abbrev pub invariant-loop : goal.invariant-loop
invariant-loop g l =
    let s = g.P.Part.sort in
    (xs : List s.0) (rest : List ℕ) → l.game ≡ s.1.all_bytes xs ++ rest → s.1.all_fit xs ≡ true → length xs ≡ l.count →
    Left s.1.all_bytes s.1.all_fit s.1.all_text l.rest (l.count - l.counter) l.initial.writer l.writer xs rest
