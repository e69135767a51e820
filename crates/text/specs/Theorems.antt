-- What is proved of the grammar. The functions of the same names have these as their contracts.
use Rattle.std.specs.Prelude.{◌≡◌, ℕ, max, true, List, Ok, Err}
use Rattle.rules.specs.Bounds.{readable}
use Rattle.rules.specs.declared.Call.{Call}
use Rattle.text.specs.Grammar.{IsLine, ReadsAs, Reads, printed}
use Rattle.text.specs.Raw.{IsRaw, IsEither, RawReads}
use Rattle.text.specs.Reader.{call_of}

-- no line is the line of two calls
abbrev pub OneCallALine : Type 0
OneCallALine = (c d : Call) (line : List ℕ) → IsLine c line → IsLine d line → c ≡ d

-- a call whose numbers fit is printed as a line of its own, which is read back as that call
abbrev pub PrintedReadsBack : Type 0
PrintedReadsBack = (c : Call) → readable c ≡ true → IsLine c (printed c) × (call_of (printed c) ≡ Ok c)

-- no line says two lists of bytes
abbrev pub OneBytesALine : Type 0
OneBytesALine = (bs cs line : List ℕ) → IsRaw bs line → IsRaw cs line → bs ≡ cs

-- no line is the line of a call and says bytes
abbrev pub NoLineIsBoth : Type 0
NoLineIsBoth = (c : Call) (bs line : List ℕ) → IsLine c line → IsRaw bs line → ⊥

-- where a line is of neither sort, the larger of the two places is the length of its longest front that some line of either sort begins with
abbrev pub LongestFrontOfBoth : Type 0
LongestFrontOfBoth = (line : List ℕ) (m n : ℕ) → RawReads line (Err m) → Reads line (Err n) → ReadsAs IsEither line (Err (max m n))
