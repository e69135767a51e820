-- What a call looks like as a line of text, and what reading a line answers. Assumes nothing: these are definitions.
-- A line is a list of bytes, any bytes, without the end of the line.
use Rattle.std.specs.Prelude.{◌≡◌, ℕ, ◌+◌, ◌-◌, ◌*◌, ◌<◌, ◌≤◌, Bool, true, cond, ◌&&◌, ◌||◌, List, [], ◌∷◌, ◌++◌, length, take, Some, None, Ok, Err, codes, decimal, Option, Result, ◌==◌, nat_le, nat_lt}
use Rattle.rules.specs.declared.Call.{Call}
use Rattle.rules.specs.declared.Call.TheVariants.{Sit, Play, Ticks, See, May, Back, CanForce}

pub data Piece : Type 0 where
  word : List ℕ → Piece
  number : ℕ → Piece

-- what the line of a call is made of
unfoldable pub pieces : Call → List Piece
pieces (Sit n) = word (codes "sit") ∷ number n ∷ []
pieces (Play t m v) = word (codes "play") ∷ number t ∷ number m ∷ number v.rule ∷ number v.first ∷ number v.second ∷ []
pieces (Ticks n) = word (codes "ticks") ∷ number n ∷ []
pieces (See t) = word (codes "see") ∷ number t ∷ []
pieces (May t) = word (codes "may") ∷ number t ∷ []
pieces (Back t n) = word (codes "back") ∷ number t ∷ number n ∷ []
pieces (CanForce t m k d) = word (codes "can") ∷ word (codes "force") ∷ number t ∷ number m ∷ number k ∷ number d ∷ []

-- white space is blanks and tabs
abbrev pub blank : ℕ → Bool
blank b = b == 32 || b == 9

abbrev pub digit : ℕ → Bool
digit b = nat_le 48 b && nat_le b 57

-- every byte of a list passes a test
unfoldable pub all : (ℕ → Bool) → List ℕ → Bool
all p [] = true
all p (b ∷ bs) = p b && all p bs

-- the number that digits come to, n being what the digits before them come to
unfoldable pub value_from : ℕ → List ℕ → ℕ
value_from n [] = n
value_from n (b ∷ bs) = value_from (n * 10 + (b - 48)) bs

-- how a piece may be written: a word as it is, a number in decimal digits, with any zeros in front, where it fits four bytes
abbrev pub Spells : Piece → List ℕ → Type 0
Spells (word w) bs = bs ≡ w
Spells (number n) bs = (0 < length bs) × (all digit bs ≡ true) × (value_from 0 bs ≡ n) × (n < 4294967296)

-- the number that a word by itself is, if it is one
unfoldable pub number_of : List ℕ → Option ℕ
number_of bs = cond (nat_lt 0 (length bs) && (all digit bs && nat_lt (value_from 0 bs) 4294967296)) (Some (value_from 0 bs)) None

-- how pieces may be written one after the other: with at least so much white space in front of the first, with some in front of each later one,
-- and with any at the end
pub data Written : ℕ → List Piece → List ℕ → Type 0 where
  end : {least : ℕ} (bs : List ℕ) → all blank bs ≡ true → Written least [] bs
  piece :
      {least : ℕ} {p : Piece} {ps : List Piece} (gap bs rest : List ℕ) → least ≤ length gap → all blank gap ≡ true → Spells p bs → Written 1 ps rest →
      Written least (p ∷ ps) (gap ++ (bs ++ rest))

-- a line is the line of a call if it is its pieces, so written
abbrev pub IsLine : Call → List ℕ → Type 0
IsLine c line = Written 0 (pieces c) line

-- reading lines of one sort, L x being how x may be written
module _ {X : Type 0} (L : X → List ℕ → Type 0) where
  -- some line of the sort begins so
  abbrev pub FrontOf : List ℕ → Type 0
  FrontOf s = (x : X) × (rest : List ℕ) × L x (s ++ rest)

  -- what reading answers: what is written in the line; or, where that is nothing, the length of its longest front that some line of the sort begins with
  abbrev pub ReadsAs : List ℕ → Result X ℕ → Type 0
  ReadsAs line (Ok x) = L x line
  ReadsAs line (Err n) =
      ((x : X) → L x line → ⊥) × (n ≤ length line) × FrontOf (take n line) × ((m : ℕ) → n < m → m ≤ length line → FrontOf (take m line) → ⊥)

-- what reading the line of a call answers
abbrev pub Reads : List ℕ → Result Call ℕ → Type 0
Reads = ReadsAs IsLine

-- a line of white space only, or whose first letter is '#', is passed over
unfoldable pub passed_over : List ℕ → Bool
passed_over [] = true
passed_over (b ∷ bs) = cond (blank b) (passed_over bs) (b == 35)

-- a call as it is printed: one blank between its pieces, and no zeros in front of its numbers
abbrev pub printed_piece : Piece → List ℕ
printed_piece (word w) = w
printed_piece (number n) = decimal n

unfoldable pub printed_pieces : List Piece → List ℕ
printed_pieces [] = []
printed_pieces (p ∷ []) = printed_piece p
printed_pieces (p ∷ q ∷ ps) = printed_piece p ++ (32 ∷ printed_pieces (q ∷ ps))

unfoldable pub printed : Call → List ℕ
printed c = printed_pieces (pieces c)
