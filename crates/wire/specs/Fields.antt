-- Fields: numbers of four bytes each, one after the other, and bytes written over others. Assumes nothing: these are definitions.
use Rattle.std.specs.Prelude.{ℕ, zero, suc, ◌+◌, cond, List, [], ◌∷◌, ◌++◌, length, take, drop, Some, None, Option, nat_le}
use Rattle.wire.specs.Numbers.{number_bytes, bytes_value}

-- the bytes of numbers, four each
unfoldable pub fields_bytes : List ℕ → List ℕ
fields_bytes [] = []
fields_bytes (n ∷ ns) = number_bytes 4 n ++ fields_bytes ns

-- the number in the four bytes from place i on; bytes that are not there count as 0
unfoldable pub field_at : List ℕ → ℕ → ℕ
field_at bs i = bytes_value (take 4 (drop i bs))

-- the number in the two bytes from place i on; bytes that are not there count as 0
abbrev pub word_at : List ℕ → ℕ → ℕ
word_at bs i = bytes_value (take 2 (drop i bs))

-- the n numbers that stand from place i on
unfoldable pub fields_at : List ℕ → ℕ → ℕ → List ℕ
fields_at bs i zero = []
fields_at bs i (suc n) = field_at bs i ∷ fields_at bs (i + 4) n

-- bs written over what stands from place i on, if there is room for all of it
unfoldable pub written : ℕ → List ℕ → List ℕ → List ℕ
written i bs old = cond (nat_le (i + length bs) (length old)) (take i old ++ (bs ++ drop (i + length bs) old)) old

-- how many bytes bs are, if there is room for them from place i on
unfoldable pub room : ℕ → List ℕ → List ℕ → Option ℕ
room i bs old = cond (nat_le (i + length bs) (length old)) (Some (length bs)) None
