-- The kinds of answers as bytes. Assumes nothing: these are definitions.
use Rattle.std.specs.Prelude.{◌≡◌, ◌<◌, ℕ, Result, MatchResult}
use Rattle.answers.specs.declared.kinds.AnswerKind.{AnswerKind}
use Rattle.answers.specs.declared.kinds.AnswerKind.TheVariants.{Refused, Number, Shown, Listed, Forced}
use Rattle.wire.specs.declared.kinds.UnknownKind.{UnknownKind}

abbrev pub kind_number : AnswerKind → ℕ
kind_number Refused = 0
kind_number Number = 1
kind_number Shown = 2
kind_number Listed = 3
kind_number Forced = 4

-- the kind of a byte, or that it is none
abbrev pub IsKind : ℕ → Result AnswerKind UnknownKind → Type 0
IsKind b r = MatchResult r (λ k. kind_number k ≡ b) (λ e. 4 < b)
