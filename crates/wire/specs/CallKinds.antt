-- The kinds of calls as bytes. Assumes nothing: these are definitions.
use Rattle.std.specs.Prelude.{◌≡◌, ℕ, ◌<◌, Result, MatchResult}
use Rattle.wire.specs.declared.calls.CallKind.{CallKind}
use Rattle.wire.specs.declared.calls.CallKind.TheVariants.{Sit, Play, Ticks, See, May, Back, CanForce}
use Rattle.wire.specs.declared.kinds.UnknownKind.{UnknownKind}

abbrev pub byte_of : CallKind → ℕ
byte_of Sit = 0
byte_of Play = 1
byte_of Ticks = 2
byte_of See = 3
byte_of May = 4
byte_of Back = 5
byte_of CanForce = 6

-- the kind of a byte, or that it is none
abbrev pub IsCallKind : ℕ → Result CallKind UnknownKind → Type 0
IsCallKind b r = MatchResult r (λ k. byte_of k ≡ b) (λ e. 6 < b)
