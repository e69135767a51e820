-- How large the number is that bytes are.
use Rattle.std.proofs.Common.{◌≡◌, ℕ, suc, ◌*◌, ◌^◌, ◌<◌, true, ltb, List, [], ◌∷◌, length, arith}
use native.Mathlib.Nat.{pow-succ', pow-zero}
use Rattle.std.proofs.lemmas.Bool.{and_parts, ltb-true}
use Rattle.rules.specs.Bounds.{all_below}
use Rattle.wire.specs.Numbers.{bytes_value}

pub value_below : (bs : List ℕ) → all_below 256 bs ≡ true → bytes_value bs < 256 ^ length bs
unfolding bytes_value all_below
value_below [] h = omega (arith, pow-zero 256)
value_below (b ∷ bs) h =
    let p = and_parts (ltb b 256) (all_below 256 bs) h in
    let l : b < 256 = ltb-true b 256 p.0 in
    let low : bytes_value bs < 256 ^ length bs = value_below bs p.1 in
    let q : 256 ^ suc (length bs) ≡ 256 * 256 ^ length bs = pow-succ' 256 (length bs) in
    omega arith
