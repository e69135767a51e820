-- What is read as parts is what is read as an answer.
use Rattle.std.proofs.Common.{◌≡◌, ℕ, zero, suc, ◌+◌, ◌-◌, ◌*◌, ◌/◌, ◌<◌, ◌≤◌, eqb, true, false, List, [], ◌∷◌, length, take, drop, Some, None, Option, cond, Result, Ok, Err, sym, refl, add-zero, ap, ap₂, ◌∙◌, arith}
use Rattle.std.specs.Bool.{then_some}
use Rattle.std.specs.Int.{w32, from_le_bytes}
use Rattle.std.specs.List.{slice_get}
use Rattle.std.specs.Result.{result_ok}
use Rattle.std.specs.Simd.{first_chunks}
use Rattle.std.proofs.Math.Nat.{mul_comm, mul-div_cancel_left}
use Rattle.std.proofs.lemmas.Bool.{cond-false, ne_eqb}
use Rattle.std.proofs.lemmas.List.{take-take, drop-take, drop-drop, length-take-le, length-drop}
use Rattle.wire.specs.Numbers.{bytes_value}
use Rattle.wire.specs.Fields.{field_at, fields_at}
use Rattle.answers.specs.declared.kinds.AnswerKind.{AnswerKind}
use Rattle.wire.specs.declared.kinds.UnknownKind.{UnknownKind}
use Rattle.answers.specs.declared.Parts.{Parts}
use Rattle.answers.specs.Answers.{moves_at, whole, parse_as, parse_answer}
use Rattle.answers.specs.Kinds.{kind_number, IsKind}
use Rattle.answers.specs.Parts.{numbers_in, move_in, moves_in, parts_answer, parts_read}

-- parts that are made just of as many bytes as they want
pub read_whole : (bs : List ℕ) (n : ℕ) (x : Parts) {r : Option Parts} → r ≡ then_some (eqb (length bs) n) x → parts_read r ≡ whole bs n (parts_answer x)
read_whole bs n x {r} is =
    ap parts_read is
    ∙ elim (eqb (length bs) n) as (λ b. parts_read (then_some b x) ≡ cond b (Some (parts_answer x)) None) [ true ↦ refl | false ↦ refl ]

-- the numbers in the four bytes each, and the moves in the twelve, that stand from place i on
four : (xs : List ℕ) → from_le_bytes w32 (take 4 xs) ≡ bytes_value (take 4 xs)
unfolding bytes_value
four [] = refl
four (a ∷ []) = omega arith
four (a ∷ b ∷ []) = omega arith
four (a ∷ b ∷ c ∷ []) = omega arith
four (a ∷ b ∷ c ∷ d ∷ xs) = omega arith

chunks_front : (k n m : ℕ) (xs : List ℕ) → k * n ≤ m → first_chunks n k (take m xs) ≡ first_chunks n k xs
chunks_front zero n m xs h = refl
chunks_front (suc k) n m xs h =
    let cut : drop n (take m xs) ≡ take (m - n) (drop n xs) = ap (λ j. drop n (take j xs)) (omega arith) ∙ drop-take n (m - n) xs in
    ap₂ ◌∷◌ (take-take n m xs (omega arith)) (ap (first_chunks n k) cut ∙ chunks_front k n (m - n) (drop n xs) (omega arith))

-- of m bytes, as many chunks as they are
chunks_are : (s n m : ℕ) (xs : List ℕ) → 0 < s → m ≡ s * n → m ≤ length xs → first_chunks s (length (take m xs) / s) (take m xs) ≡ first_chunks s n xs
chunks_are s n m xs some is fits =
    ap (λ k. first_chunks s k (take m xs)) (ap (λ k. k / s) (length-take-le m xs fits ∙ is) ∙ mul-div_cancel_left n some)
    ∙ chunks_front n s m xs (omega (arith, mul_comm n s))

numbers_from : (bs : List ℕ) (i n : ℕ) → numbers_in (first_chunks 4 n (drop i bs)) ≡ fields_at bs i n
unfolding fields_at field_at
numbers_from bs i zero = refl
numbers_from bs i (suc n) =
    ap₂ ◌∷◌ (four (drop i bs)) (ap (λ xs. numbers_in (first_chunks 4 n xs)) (drop-drop 4 i bs) ∙ numbers_from bs (i + 4) n)

move_from : (xs : List ℕ) → move_in (take 12 xs) ≡ record { rule = field_at xs 0; first = field_at xs 4; second = field_at xs 8 }
unfolding field_at
move_from xs =
    let part : (i : ℕ) → i + 4 ≤ 12 → bytes_value (take 4 (drop i (take 12 xs))) ≡ bytes_value (take 4 (drop i xs)) =
    λ i h. ap (λ (j : ℕ). bytes_value (take 4 (drop i (take j xs)))) {x = 12} {y = i + (12 - i)} (omega arith) ∙ ap (λ ys. bytes_value (take 4 ys)) (drop-take i (12 - i) xs)
    ∙ ap bytes_value (take-take 4 (12 - i) (drop i xs) (omega arith))
    in
    λ j. record { rule = part 0 (omega arith) j; first = part 4 (omega arith) j; second = part 8 (omega arith) j }

moves_from : (bs : List ℕ) (i n : ℕ) → moves_in (first_chunks 12 n (drop i bs)) ≡ moves_at bs i n
unfolding moves_at field_at
moves_from bs i zero = refl
moves_from bs i (suc n) =
    let part : (k : ℕ) → field_at (drop i bs) k ≡ field_at bs (i + k) = λ k. ap (λ xs. bytes_value (take 4 xs)) (drop-drop k i bs) in
    ap₂ ◌∷◌ (move_from (drop i bs) ∙ (λ j. record { rule = (part 0 ∙ ap (field_at bs) (add-zero i)) j; first = part 4 j; second = part 8 j }))
    (ap (λ xs. moves_in (first_chunks 12 n xs)) (drop-drop 12 i bs) ∙ moves_from bs (i + 12) n)

module _ (bs : List ℕ) (i n m : ℕ) {cs : List (List ℕ)} where
  pub numbers_read :
      m ≡ 4 * n → i + m ≤ length bs → cs ≡ first_chunks 4 (length (take m (drop i bs)) / 4) (take m (drop i bs)) → numbers_in cs ≡ fields_at bs i n
  numbers_read e fits is =
      ap numbers_in (is ∙ chunks_are 4 n m (drop i bs) (omega arith) e (omega (arith, length-drop i bs))) ∙ numbers_from bs i n

  pub moves_read :
      m ≡ 12 * n → i + m ≤ length bs → cs ≡ first_chunks 12 (length (take m (drop i bs)) / 12) (take m (drop i bs)) → moves_in cs ≡ moves_at bs i n
  moves_read e fits is =
      ap moves_in (is ∙ chunks_are 12 n m (drop i bs) (omega arith) e (omega (arith, length-drop i bs))) ∙ moves_from bs i n

-- reading by the first byte
some_is : {x y : ℕ} → Some x ≡ Some y → x ≡ y
some_is e = cc

pub of_kind :
    (bs : List ℕ) (b : ℕ) (r : Result AnswerKind UnknownKind) (k : AnswerKind) {l : AnswerKind} → l ≡ k → Some b ≡ slice_get bs 0 → IsKind b r → Some l ≡ result_ok r
    → parse_as (kind_number k) bs ≡ parse_answer bs
unfolding parse_answer
of_kind (b ∷ bs) x (Ok n) k same first kind is = ap (λ j. parse_as j (b ∷ bs)) {x = kind_number k} {y = b} (cc (same, kind, first, is))
of_kind (b ∷ bs) x (Err e) k same first kind is = absurd (cc (is))
of_kind [] x r k same first kind is = absurd (cc (first))

pub of_none : (bs : List ℕ) → None ≡ slice_get bs 0 → None ≡ parse_answer bs
unfolding parse_answer
of_none [] h = refl
of_none (b ∷ bs) h = absurd (cc (h))

pub of_unknown : (bs : List ℕ) (b : ℕ) (r : Result AnswerKind UnknownKind) → Some b ≡ slice_get bs 0 → IsKind b r → None ≡ result_ok r → None ≡ parse_answer bs
unfolding parse_answer
of_unknown [] x r first kind is = absurd (cc (first))
of_unknown (b ∷ bs) x (Ok k) first kind is = absurd (cc (is))
of_unknown (b ∷ bs) x (Err e) first kind is =
    let large : 4 < b = rw (some_is first) at kind in
    sym
    (cond-false (eqb b 0) _ _ (ne_eqb b 0 (λ e. omega arith)) ∙ cond-false (eqb b 1) _ _ (ne_eqb b 1 (λ e. omega arith))
    ∙ cond-false (eqb b 2) _ _ (ne_eqb b 2 (λ e. omega arith)) ∙ cond-false (eqb b 3) _ _ (ne_eqb b 3 (λ e. omega arith))
    ∙ cond-false (eqb b 4) _ _ (ne_eqb b 4 (λ e. omega arith)))
