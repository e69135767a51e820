-- What is read from the bytes of an answer. Assumes nothing: these are definitions.
use Rattle.std.specs.Prelude.{ℕ, ◌+◌, ◌*◌, ◌≤◌, List, length, Some, None, Option}
use Rattle.rules.specs.Calls.{Answer, refused, number, shown, listed, forced}
use Rattle.wire.specs.Fields.{fields_at}
use Rattle.answers.specs.declared.Reply.{Reply}
use Rattle.answers.specs.declared.Reply.TheVariants.{Refused, Number, Shown, Listed, Forced}
use Rattle.answers.specs.Answers.{moves_at}

-- the answer that a reply is, given the bytes that it was read from
abbrev pub answer_of : List ℕ → Reply → Answer
answer_of bs (Refused r) = refused r
answer_of bs (Number n) = number n
answer_of bs (Shown cells t e clocks) = shown (fields_at bs cells.at cells.count) t e (fields_at bs clocks.at clocks.count)
answer_of bs (Listed moves) = listed (moves_at bs moves.at moves.count)
answer_of bs (Forced n) = forced n

abbrev pub answer_read : List ℕ → Option Reply → Option Answer
answer_read bs None = None
answer_read bs (Some r) = Some (answer_of bs r)

-- what a reply points to stands within the bytes
abbrev pub Inside : List ℕ → Reply → Type 0
Inside bs (Refused r) = Unit {0}
Inside bs (Number n) = Unit {0}
Inside bs (Shown cells t e clocks) = (cells.at + 4 * cells.count ≤ length bs) × (clocks.at + 4 * clocks.count ≤ length bs)
Inside bs (Listed moves) = moves.at + 12 * moves.count ≤ length bs
Inside bs (Forced n) = Unit {0}

abbrev pub InsideRead : List ℕ → Option Reply → Type 0
InsideRead bs None = Unit {0}
InsideRead bs (Some r) = Inside bs r
