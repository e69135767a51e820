use Rattle.std.proofs.Common.{◌≡◌, ◌+◌, drop}
use Rattle.text.specs.Reader.{digits_at}
use Rattle.text.proofs.Cursor.digits.Given as goal

abbrev pub invariant-loop-b : goal.invariant-loop-b
invariant-loop-b l =
    (l.self.line ≡ l.initial.self.line) × (l.self.at ≡ l.initial.self.at + l.b-index)
    × (digits_at (drop l.b-index l.b-items) l.n l.self.at ≡ digits_at (drop l.initial.self.at l.initial.self.line.now) 0 l.initial.self.at)
