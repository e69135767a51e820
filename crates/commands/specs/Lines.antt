-- What is answered to a line of a calls file. Assumes nothing: these are definitions.
use Rattle.std.specs.Prelude.{◌≡◌, ℕ, max, ◌⊎◌, List, Ok, Err, MatchBool, Result, MatchResult}
use Rattle.rules.specs.declared.Limits.{Limits}
use Rattle.rules.specs.Calls.{State, Answer, refused, no_calls, answer}
use Rattle.rules.specs.declared.Call.{Call}
use Rattle.rules.specs.declared.Refusal.{Refusal}
use Rattle.wire.specs.Calls.{parse_call}
use Rattle.text.specs.Endings.{letters}
use Rattle.text.specs.Grammar.{IsLine, ReadsAs, passed_over}
use Rattle.text.specs.Reader.{call_of}
use Rattle.text.specs.Raw.{IsRaw, IsEither}
use Rattle.text.specs.RawReader.{raw_of}
use Rattle.commands.specs.declared.lines.Line.{Line}
use Rattle.commands.specs.declared.lines.Line.TheVariants as lines

-- the call that a line stands for: the one that the bytes are which it says, or its own. Where there is none: the place in the bytes that ceases to be a call,
-- or, of a line that says no bytes either, the larger of the two places
abbrev pub stands_for : Result (List ℕ) ℕ → Result Call ℕ → Result Call ℕ
stands_for (Ok bs) call = parse_call bs
stands_for (Err m) (Ok c) = Ok c
stands_for (Err m) (Err n) = Err (max m n)

unfoldable pub line_call : List ℕ → Result Call ℕ
line_call line = stands_for (raw_of line) (call_of line)

-- what the line of a call, or of bytes that are one, is; or else: bytes that cease to be a call at n, or a line of neither sort, n being the length of its longest
-- front that some line of either sort begins with
abbrev pub Means : List ℕ → Result Call ℕ → Type 0
Means line (Ok c) = IsLine c line ⊎ ((bs : List ℕ) × IsRaw bs line × (parse_call bs ≡ Ok c))
Means line (Err n) = ((bs : List ℕ) × IsRaw bs line × (parse_call bs ≡ Err n)) ⊎ ReadsAs IsEither line (Err n)

-- the call that a line stands for is so by the grammar, and so is the place where there is none
abbrev pub LineCallMeans : Type 0
LineCallMeans = (line : List ℕ) → Means line (line_call line)

-- the reply gives this answer
abbrev pub Gives : Line Refusal → Answer → Type 0
Gives lines.Nothing a = ⊥
Gives (lines.NoCall i) a = ⊥
Gives (lines.Call x) a = a ≡ refused x

-- nothing to a line that is passed over; to one that stands for a call the answer of a server that can do none; else the place
abbrev pub Replies : Limits → State → List ℕ → Line Refusal → Type 0
Replies l s line r =
    MatchBool (passed_over (letters line)) (r ≡ lines.Nothing) (MatchResult (line_call (letters line)) (λ c. Gives r (answer no_calls l s c)) (λ i. r ≡ lines.NoCall i))
