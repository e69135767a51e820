-- A word by itself is the number that its digits come to, if the digits are all of it.
use Rattle.std.proofs.Common.{◌≡◌, ℕ, ◌+◌, ◌<◌, ◌≤◌, Bool, true, false, ◌&&◌, ltb, List, [], ◌∷◌, ◌++◌, length, Some, None, Ok, Err, Result, sym, ap, ◌∙◌, subst, inl, inr, append-nil, arith}
use Rattle.std.proofs.lemmas.List.{append_assoc, length-append, nil_from_length}
use Rattle.std.proofs.lemmas.Bool.{cases_Bool, cases_lt, cond-true, cond-false, and_from, and_left, and_right, lt-ltb, le-ltb}
use Rattle.text.specs.Grammar.{digit, all, value_from, number_of}
use Rattle.std.specs.Result.{result_ok}
use Rattle.text.specs.Reader.{found, digits_at}
use Rattle.text.proofs.Splits.{all_right, all_none, value_append, value_grows}
use Rattle.text.proofs.Scans.{SomeDigits, TooLarge, Digits, digits_splits}

digits_said : (bs : List ℕ) (r : Result (ℕ × ℕ) ℕ) → r ≡ digits_at bs 0 0 → Digits bs 0 0 r
digits_said bs r e = subst (Digits bs 0 0) (sym e) (digits_splits bs 0 0 (omega arith))

-- the tests that a word must pass
abbrev passes : List ℕ → Bool
passes bs = ltb 0 (length bs) && (all digit bs && ltb (value_from 0 bs) 4294967296)

fails : (bs : List ℕ) → passes bs ≡ false → None ≡ number_of bs
unfolding number_of
fails bs e = sym (cond-false (passes bs) (Some (value_from 0 bs)) None e)

number_whole : (bs : List ℕ) (v j : ℕ) → SomeDigits bs 0 0 v j → 0 < j → length bs ≤ j → Some v ≡ number_of bs
unfolding number_of
number_whole bs v j h l w =
    let n : length bs ≡ length h.ds + length h.left = ap length h.cut ∙ length-append h.ds h.left in
    let e : h.left ≡ [] = nil_from_length h.left (omega (arith, h.place)) in
    let whole : bs ≡ h.ds = h.cut ∙ ap (λ xs. h.ds ++ xs) e ∙ append-nil h.ds in
    let value : value_from 0 bs ≡ v = ap (value_from 0) whole ∙ h.value in
    let digits : all digit bs ≡ true = ap (all digit) whole ∙ h.digits in
    let some : ltb 0 (length bs) ≡ true = lt-ltb 0 (length bs) (omega (arith, h.place)) in
    let small : ltb (value_from 0 bs) 4294967296 ≡ true = lt-ltb (value_from 0 bs) 4294967296 (omega (arith, h.fits)) in
    ap (λ x. Some x) (sym value)
    ∙ sym (cond-true (passes bs) (Some (value_from 0 bs)) None (and_from (ltb 0 (length bs)) _ some (and_from (all digit bs) _ digits small)))

-- a byte that is no digit is left
number_cut : (bs : List ℕ) (v j : ℕ) → SomeDigits bs 0 0 v j → (j ≡ length bs → ⊥) → None ≡ number_of bs
number_cut bs v j h l =
    let n : length bs ≡ length h.ds + length h.left = ap length h.cut ∙ length-append h.ds h.left in
    let other : all digit bs ≡ false =
    elim (cases_Bool (all digit bs)) [
      | inl e ↦
          let none : h.left ≡ [] = all_none digit h.left (all_right digit h.ds h.left (sym (ap (all digit) h.cut) ∙ e)) h.ends in
          absurd (l (omega (arith, h.place, ap length none)))
      | inr e ↦ e
    ]
    in
    fails bs (and_right (ltb 0 (length bs)) _ (and_left (all digit bs) (ltb (value_from 0 bs) 4294967296) other))

-- there is no digit
number_none : (bs : List ℕ) (v j : ℕ) → SomeDigits bs 0 0 v j → j ≡ 0 → None ≡ number_of bs
number_none bs v j h e =
    elim (cases_lt 0 (length bs)) [
      | inl l ↦ number_cut bs v j h (λ w. omega arith)
      | inr l ↦ fails bs (and_left (ltb 0 (length bs)) (all digit bs && ltb (value_from 0 bs) 4294967296) (le-ltb 0 (length bs) l))
    ]

number_large : (bs : List ℕ) (j : ℕ) → TooLarge bs 0 0 j → None ≡ number_of bs
number_large bs j h =
    let front : List ℕ = h.front ++ (h.one ∷ []) in
    let value : value_from 0 bs ≡ value_from (value_from 0 front) h.left =
    ap (value_from 0) (h.cut ∙ sym (append_assoc h.front (h.one ∷ []) h.left)) ∙ value_append 0 front h.left
    in
    let large : 4294967296 ≤ value_from 0 bs = omega (arith, h.large, value_grows (value_from 0 front) h.left) in
    fails bs (and_right (ltb 0 (length bs)) _ (and_right (all digit bs) _ (le-ltb (value_from 0 bs) 4294967296 large)))

-- by what reading its digits answers, and where they end
module _ (bs : List ℕ) where
  pub number_missing : (r : Result ℕ ℕ) (j : ℕ) → found r j ≡ digits_at bs 0 0 → result_ok r ≡ None → None ≡ number_of bs
  number_missing (Ok n) j e h = cc
  number_missing (Err i) j e h = number_large bs i (digits_said bs (Err i) e)

  pub number_read : (r : Result ℕ ℕ) (n j : ℕ) → found r j ≡ digits_at bs 0 0 → result_ok r ≡ Some n → 0 < j → j ≡ length bs → Some n ≡ number_of bs
  number_read (Ok m) n j e h l w = sym h ∙ number_whole bs m j (digits_said bs (Ok (m, j)) e) l (omega arith)
  number_read (Err i) n j e h l w = cc

  pub number_left :
      (r : Result ℕ ℕ) (n j : ℕ) → found r j ≡ digits_at bs 0 0 → result_ok r ≡ Some n → (0 < j → j ≡ length bs → ⊥) → None ≡ number_of bs
  number_left (Ok m) n j e h other =
      let d = digits_said bs (Ok (m, j)) e in
      elim (cases_lt 0 j) [
        | inl l ↦ number_cut bs m j d (other l)
        | inr l ↦ number_none bs m j d (omega arith)
      ]
  number_left (Err i) n j e h other = cc
