-- Lines that say bytes in hexadecimal, for tests: any bytes at all may be said. Assumes nothing: these are definitions.
use Rattle.std.specs.Prelude.{◌≡◌, ℕ, ◌+◌, ◌-◌, ◌*◌, ◌≤◌, true, cond, ◌&&◌, ◌⊎◌, List, [], ◌∷◌, ◌++◌, length, take, Some, None, Ok, Err, codes, Option, Result, nat_le}
use Rattle.std.proofs.Common.{inl, inr}
use Rattle.rules.specs.declared.Call.{Call}
use Rattle.text.specs.Grammar.{blank, digit, all, IsLine, ReadsAs}
use Rattle.text.specs.declared.raw.Raw.{Raw}

-- the value of a hexadecimal digit: 0 to 9, a to f or A to F
unfoldable pub hex_value : ℕ → Option ℕ
hex_value b =
    cond (digit b) (Some (b - 48)) (cond (nat_le 97 b && nat_le b 102) (Some (b - 87)) (cond (nat_le 65 b && nat_le b 70) (Some (b - 55)) None))

-- how bytes may be written one after the other: two hexadecimal digits each, with at least so much white space in front of the first, with some in front
-- of each later one, and with any at the end
pub data Pairs : ℕ → List ℕ → List ℕ → Type 0 where
  end : {least : ℕ} (xs : List ℕ) → all blank xs ≡ true → Pairs least [] xs
  pair :
      {least : ℕ} {bs : List ℕ} (gap : List ℕ) (x y high low : ℕ) (rest : List ℕ) → least ≤ length gap → all blank gap ≡ true →
      hex_value x ≡ Some high → hex_value y ≡ Some low → Pairs 1 bs rest → Pairs least ((high * 16 + low) ∷ bs) (gap ++ (x ∷ y ∷ rest))

-- a line says these bytes: any white space, the word, and the bytes
abbrev pub IsRaw : List ℕ → List ℕ → Type 0
IsRaw bs line = (gap : List ℕ) × (rest : List ℕ) × (line ≡ gap ++ (codes "bytes" ++ rest)) × (all blank gap ≡ true) × Pairs 1 bs rest

-- what reading such a line answers: the bytes that it says; or, where it says none, the length of its longest front that some such line begins with
abbrev pub RawReads : List ℕ → Result (List ℕ) ℕ → Type 0
RawReads = ReadsAs IsRaw

-- a line of either sort: of a call, or of bytes
abbrev pub IsEither : Call ⊎ List ℕ → List ℕ → Type 0
IsEither (inl c) line = IsLine c line
IsEither (inr bs) line = IsRaw bs line

-- the count of bytes, and as many of them as there is room for
abbrev pub Keeps : List ℕ → ℕ → List ℕ → ℕ → Type 0
Keeps bs room kept count = (count ≡ length bs) × (take count kept ≡ take room bs)

-- the code keeps the first 22 bytes
abbrev pub Kept : Result (List ℕ) ℕ → Result Raw ℕ → Type 0
Kept (Ok bs) (Ok raw) = Keeps bs 22 raw.bytes raw.count
Kept (Ok bs) (Err n) = ⊥
Kept (Err n) (Ok raw) = ⊥
Kept (Err n) (Err m) = m ≡ n
