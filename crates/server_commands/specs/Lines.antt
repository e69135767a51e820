-- What a line of a calls file asks. Assumes nothing: these are definitions.
use Rattle.std.specs.Prelude.{◌≡◌, ℕ, ◌-◌, ◌≤◌, cond, ◌&&◌, ◌⊎◌, List, length, take, Ok, Err, MatchBool, ◌==◌, nat_le, slice_index}
use Rattle.rules.specs.declared.Call.{Call}
use Rattle.wire.specs.Calls.{call_bytes, parse_call}
use Rattle.text.specs.Endings.{letters}
use Rattle.text.specs.Grammar.{IsLine, ReadsAs, passed_over}
use Rattle.text.specs.Raw.{IsRaw, IsEither}
use Rattle.server_commands.specs.declared.kept.CallBytes.{CallBytes}
use Rattle.commands.specs.declared.lines.Line.{Line}
use Rattle.commands.specs.declared.lines.Line.TheVariants as lines

-- the bytes that are kept
abbrev pub held : CallBytes → List ℕ
held k = take k.count k.bytes

-- bs are kept, all of them and no more
abbrev pub Holds : List ℕ → CallBytes → Type 0
Holds bs k = (k.count ≡ length bs) × (held k ≡ bs)

-- what letters ask that are not passed over: the bytes of their call, or the first 22 of the bytes that they say; or, of a line of neither sort, nothing but the
-- length of its longest front that some line of either sort begins with
abbrev pub Says : List ℕ → Line CallBytes → Type 0
Says s lines.Nothing = ⊥
Says s (lines.NoCall n) = ReadsAs IsEither s (Err n)
Says s (lines.Call k) = ((c : Call) × IsLine c s × Holds (call_bytes c) k) ⊎ ((bs : List ℕ) × IsRaw bs s × Holds (take 22 bs) k)

-- what a line asks: nothing if it is passed over
abbrev pub Asks : List ℕ → Line CallBytes → Type 0
Asks line r = MatchBool (passed_over (letters line)) (r ≡ lines.Nothing) (Says (letters line) r)

-- what is kept of a line is read as the line's call, or as the bytes are that the line says
abbrev pub ReadAsSaid : Type 0
ReadAsSaid =
    (s : List ℕ) (k : CallBytes) → Says s (lines.Call k)
    → ((c : Call) → IsLine c s → parse_call (held k) ≡ Ok c) × ((bs : List ℕ) → IsRaw bs s → parse_call (held k) ≡ parse_call bs)
