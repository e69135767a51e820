-- A number comes back from its bytes, and bytes from their number, at every width.
use Rattle.std.proofs.Common.{◌≡◌, ℕ, zero, suc, ◌+◌, ◌*◌, ◌/◌, ◌%◌, ◌^◌, ◌<◌, true, ltb, List, [], ◌∷◌, length, refl, ap, arith}
use native.Mathlib.Nat.{pow-succ', pow-zero}
use Rattle.std.proofs.lemmas.Bool.{and_parts, ltb-true}
use Rattle.std.specs.Int.{bytes_low_first}
use Rattle.rules.specs.Bounds.{all_below}
use Rattle.wire.specs.Numbers.{number_bytes, bytes_value}

pub length_bytes : (w n : ℕ) → length (number_bytes w n) ≡ w
unfolding number_bytes
length_bytes zero n = refl
length_bytes (suc w) n = ap suc (length_bytes w (n / 256))

pub value_of_bytes : (w n : ℕ) → n < 256 ^ w → bytes_value (number_bytes w n) ≡ n
unfolding number_bytes bytes_value
value_of_bytes zero n h = omega (arith, pow-zero 256)
value_of_bytes (suc w) n h =
    let p : 256 ^ suc w ≡ 256 * 256 ^ w = pow-succ' 256 w in
    let low : n / 256 < 256 ^ w = omega arith in
    let e : bytes_value (number_bytes w (n / 256)) ≡ n / 256 = value_of_bytes w (n / 256) low in
    omega arith

pub bytes_of_value : (bs : List ℕ) → all_below 256 bs ≡ true → number_bytes (length bs) (bytes_value bs) ≡ bs
unfolding number_bytes bytes_value all_below
bytes_of_value [] h = refl
bytes_of_value (b ∷ bs) h =
    let p = and_parts (ltb b 256) (all_below 256 bs) h in
    let l : b < 256 = ltb-true b 256 p.0 in
    let low : (b + 256 * bytes_value bs) % 256 ≡ b = omega arith in
    let high : (b + 256 * bytes_value bs) / 256 ≡ bytes_value bs = omega arith in
    rw (low, high) (ap (λ l. b ∷ l) (bytes_of_value bs p.1))

-- the bytes of a number as the library has them
pub le_four : (n : ℕ) → bytes_low_first 0 4 n ≡ number_bytes 4 n
unfolding number_bytes
le_four n =
    let b : n / 65536 % 256 ≡ n / 256 / 256 % 256 = omega arith in
    let c : n / 16777216 % 256 ≡ n / 256 / 256 / 256 % 256 = omega arith in
    λ i. n % 256 ∷ n / 256 % 256 ∷ b i ∷ c i ∷ []
