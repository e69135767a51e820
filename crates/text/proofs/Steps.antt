-- One byte more of a line, for the loops.
use Rattle.std.proofs.Common.{[], suc, eqb, sym, arith, inl, inr, ◌≡◌, ℕ, ◌+◌, ◌-◌, ◌*◌, ◌<◌, ◌≤◌, Bool, true, false, cond, ltb, List, ◌∷◌, length, get_or, drop, Ok, Err, Some, None, Option, Result, ap, ◌∙◌}
use Rattle.std.proofs.lemmas.List.{at_drop_more, at_drop_all}
use Rattle.std.specs.List.{zip, prefix_len}
use Rattle.std.specs.Option.{SomeIff, ok_or}
use Rattle.std.proofs.lemmas.Bool.{cases_Bool, lt-ltb, le-ltb}
use Rattle.text.specs.Grammar.{blank, digit}
use Rattle.text.specs.Reader.{past, letters_at, digits_at}

pub past_counted : (bs : List ℕ) (i : ℕ) → i + prefix_len blank bs ≡ past bs i
unfolding past
past_counted [] i = omega arith
past_counted (b ∷ bs) i =
    elim (cases_Bool (blank b)) [
      | inl e ↦ rw e (omega (arith, past_counted bs (i + 1)))
      | inr e ↦ rw e (omega arith)
    ]

-- how many letters in front are those of a word
abbrev pub alike : List ℕ → List ℕ → ℕ
alike bs ws = prefix_len (λ (p : ℕ × ℕ). eqb p.0 p.1) (zip bs ws)

-- all n letters of a word are there, or k of them
abbrev Counted : ℕ → ℕ → ℕ → Result ℕ ℕ → Type 0
Counted k n i (Ok j) = (n ≤ k) × (j ≡ i + k)
Counted k n i (Err j) = (k < n) × (j ≡ i + k)

one_more : (k n i : ℕ) (r : Result ℕ ℕ) → Counted k n (i + 1) r → Counted (1 + k) (suc n) i r
one_more k n i (Ok j) h = (omega arith, omega (arith, h.1))
one_more k n i (Err j) h = (omega arith, omega (arith, h.1))

letters_counted : (ws bs : List ℕ) (i : ℕ) → Counted (alike bs ws) (length ws) i (letters_at ws bs i)
unfolding letters_at
letters_counted [] [] i = (omega arith, omega arith)
letters_counted [] (b ∷ bs) i = (omega arith, omega arith)
letters_counted (w ∷ ws) [] i = (omega arith, omega arith)
letters_counted (w ∷ ws) (b ∷ bs) i =
    elim (cases_Bool (eqb b w)) [
      | inl e ↦ rw e (one_more (alike bs ws) (length ws) i (letters_at ws bs (i + 1)) (letters_counted ws bs (i + 1)))
      | inr e ↦ rw e (omega arith, omega arith)
    ]

counted_all : (k n i : ℕ) (r : Result ℕ ℕ) → Counted k n i r → n ≤ k → r ≡ Ok (i + k)
counted_all k n i (Ok j) h l = ap Ok h.1
counted_all k n i (Err j) h l = absurd (omega arith)

counted_few : (k n i : ℕ) (r : Result ℕ ℕ) → Counted k n i r → k < n → r ≡ Err (i + k)
counted_few k n i (Ok j) h l = absurd (omega arith)
counted_few k n i (Err j) h l = ap Err h.1

pub letters_same : (ws bs : List ℕ) (i : ℕ) → length ws ≤ alike bs ws → Ok (i + alike bs ws) ≡ letters_at ws bs i
letters_same ws bs i h = sym (counted_all (alike bs ws) (length ws) i (letters_at ws bs i) (letters_counted ws bs i) h)

pub letters_differ : (ws bs : List ℕ) (i : ℕ) → alike bs ws < length ws → Err (i + alike bs ws) ≡ letters_at ws bs i
letters_differ ws bs i h = sym (counted_few (alike bs ws) (length ws) i (letters_at ws bs i) (letters_counted ws bs i) h)

-- digits after those that come to n
module _ (line : List ℕ) (n k i : ℕ) where
  abbrev with_digit : ℕ
  with_digit = n * 10 + (get_or line k 0 - 48)

  abbrev at_byte : Bool → Bool → Result (ℕ × ℕ) ℕ
  at_byte is_digit fits = cond is_digit (cond fits (digits_at (drop (k + 1) line) with_digit (i + 1)) (Err i)) (Ok (n, i))

  at_step : k < length line → digits_at (drop k line) n i ≡ at_byte (digit (get_or line k 0)) (ltb with_digit 4294967296)
  unfolding digits_at
  at_step h = at_drop_more (λ xs. digits_at xs n i) line k 0 h

  pub digits_more :
      k < length line → digit (get_or line k 0) ≡ true → with_digit < 4294967296 → digits_at (drop k line) n i ≡ digits_at (drop (k + 1) line) with_digit (i + 1)
  digits_more h e l = at_step h ∙ ap (λ b. at_byte b (ltb with_digit 4294967296)) e ∙ ap (at_byte true) (lt-ltb with_digit 4294967296 l)

  pub digits_large : k < length line → digit (get_or line k 0) ≡ true → 4294967296 ≤ with_digit → digits_at (drop k line) n i ≡ Err i
  digits_large h e l = at_step h ∙ ap (λ b. at_byte b (ltb with_digit 4294967296)) e ∙ ap (at_byte true) (le-ltb with_digit 4294967296 l)

  pub digits_other : k < length line → digit (get_or line k 0) ≡ false → digits_at (drop k line) n i ≡ Ok (n, i)
  digits_other h e = at_step h ∙ ap (λ b. at_byte b (ltb with_digit 4294967296)) e

  pub digits_end : length line ≤ k → digits_at (drop k line) n i ≡ Ok (n, i)
  unfolding digits_at
  digits_end h = at_drop_all (λ xs. digits_at xs n i) line k h

-- what adding a digit answers
pub too_large : (r : Option ℕ) (v e i : ℕ) → SomeIff r (v < 4294967296) v → Err e ≡ ok_or r i → (4294967296 ≤ v) × (e ≡ i)
too_large None v e i h q = (omega (arith, h), cc)
too_large (Some x) v e i h q = cc

pub small_enough : (r : Option ℕ) (v n i : ℕ) → SomeIff r (v < 4294967296) v → Ok n ≡ ok_or r i → (v < 4294967296) × (n ≡ v)
small_enough None v n i h q = cc
small_enough (Some x) v n i h q = let e : n ≡ x = cc in (h.0, e ∙ h.1)
