-- How a line that says bytes is read, as a function. What it answers is said in Raw: nobody has to believe this one.
use Rattle.std.specs.Prelude.{◌≡◌, ℕ, ◌+◌, ◌*◌, ◌<◌, cond, List, [], ◌∷◌, drop, Some, None, Ok, Err, codes, Option, Result}
use Rattle.text.specs.Grammar.{blank}
use Rattle.text.specs.Reader.{and_then, word_at}
use Rattle.text.specs.Raw.{hex_value, Keeps}
use Rattle.text.specs.declared.raw.Awaits.{Awaits}
use Rattle.text.specs.declared.raw.Awaits.TheVariants.{Gap, Digit, Second}
use Rattle.text.specs.declared.raw.Step.{Step}
use Rattle.text.specs.declared.raw.Step.TheVariants.{Blank, First, Pair}

abbrev pub by_digit : Option ℕ → (ℕ → Step) → Option Step
by_digit (Some n) f = Some (f n)
by_digit None f = None

-- what the next byte is, if it can come here
unfoldable pub step_of : Awaits → ℕ → Option Step
step_of Gap b = cond (blank b) (Some Blank) None
step_of Digit b = cond (blank b) (Some Blank) (by_digit (hex_value b) First)
step_of (Second h) b = by_digit (hex_value b) (λ l. Pair (h * 16 + l))

-- the value of a digit is below 16
abbrev pub Small : Awaits → Type 0
Small Gap = Unit {0}
Small Digit = Unit {0}
Small (Second h) = h < 16

abbrev pub SmallStep : Step → Type 0
SmallStep (First h) = h < 16
SmallStep (Pair v) = Unit {0}
SmallStep Blank = Unit {0}

abbrev pub pushed : ℕ → Result (List ℕ) ℕ → Result (List ℕ) ℕ
pushed b r = and_then r (λ bs. Ok (b ∷ bs))

-- the answer after a step at place i, by the answers that there are for what is left
abbrev pub after : Option Step → (Awaits → Result (List ℕ) ℕ) → ℕ → Result (List ℕ) ℕ
after (Some Blank) left i = left Digit
after (Some (First h)) left i = left (Second h)
after (Some (Pair b)) left i = pushed b (left Gap)
after None left i = Err i

-- the bytes that are said from place i on, or the place of the first byte that doesn't fit
unfoldable pub pairs_at : Awaits → List ℕ → ℕ → Result (List ℕ) ℕ
pairs_at Gap [] i = Ok []
pairs_at Digit [] i = Ok []
pairs_at (Second h) [] i = Err i
pairs_at a (b ∷ bs) i = after (step_of a b) (λ s. pairs_at s bs (i + 1)) i

abbrev pub pairs_from : List ℕ → ℕ → Result (List ℕ) ℕ
pairs_from line i = pairs_at Gap (drop i line) i

unfoldable pub raw_of : List ℕ → Result (List ℕ) ℕ
raw_of line = and_then (word_at (codes "bytes") 0 line 0) (pairs_from line)

-- what the loop over the pairs leaves: the count, and the bytes that there was room for
abbrev pub Filled : Result (List ℕ) ℕ → ℕ → List ℕ → Result ℕ ℕ → Type 0
Filled (Ok bs) room kept (Ok n) = Keeps bs room kept n
Filled (Ok bs) room kept (Err n) = ⊥
Filled (Err n) room kept (Ok m) = ⊥
Filled (Err n) room kept (Err m) = m ≡ n
