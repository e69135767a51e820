-- What bytes begin with.
use Rattle.std.proofs.Common.{◌≡◌, ℕ, ◌%◌, ◌<◌, List, [], ◌∷◌, ◌++◌, length, get_or, take, drop, ap, ◌∙◌, arith}
use Rattle.std.proofs.lemmas.List.{drop_at}
use Rattle.wire.specs.Numbers.{number_bytes, bytes_value}
use Rattle.wire.specs.Fields.{field_at}

module _ {bs : List ℕ} where
  pub rest_at : (n : ℕ) (xs : List ℕ) {rest left : List ℕ} → left ≡ drop n bs → bs ≡ xs ++ rest → length xs ≡ n → left ≡ rest
  rest_at n xs {rest} is e l = is ∙ ap (drop n) e ∙ drop_at xs rest n l

  -- a number of two bytes, and one of one
  pub two_at : (n : ℕ) (rest : List ℕ) → n < 65536 → bs ≡ number_bytes 2 n ++ rest → field_at bs 0 % 65536 ≡ n
  unfolding number_bytes bytes_value field_at
  two_at n [] l e = ap (λ (xs : List ℕ). bytes_value (take 4 xs) % 65536) e ∙ omega arith
  two_at n (x ∷ []) l e = ap (λ (xs : List ℕ). bytes_value (take 4 xs) % 65536) e ∙ omega arith
  two_at n (x ∷ y ∷ rest) l e = ap (λ (xs : List ℕ). bytes_value (take 4 xs) % 65536) e ∙ omega arith

  pub byte_at : (n : ℕ) (rest : List ℕ) → n < 256 → bs ≡ number_bytes 1 n ++ rest → get_or bs 0 0 ≡ n
  unfolding number_bytes
  byte_at n rest l e = ap (λ (xs : List ℕ). get_or xs 0 0) e ∙ omega arith
