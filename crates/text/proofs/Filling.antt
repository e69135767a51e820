-- The loop over the pairs: what was said so far, and what is left gives the answer.
use Rattle.std.proofs.Common.{◌≡◌, ℕ, zero, suc, ◌+◌, ◌<◌, ◌≤◌, List, [], ◌∷◌, ◌++◌, length, get_or, take, drop, set, Some, None, Ok, Err, Option, Result, sym, refl, ap, ◌∙◌, subst, arith}
use Rattle.std.proofs.lemmas.List.{append_assoc, append-nil, at_drop_more, at_drop_all, length_push, take_all, take-append-le, take_more_set}
use Rattle.text.specs.Reader.{and_then}
use Rattle.text.specs.Raw.{Keeps}
use Rattle.text.specs.RawReader.{step_of, Small, after, pushed, pairs_at, pairs_from, Filled}
use Rattle.text.specs.declared.raw.Awaits.{Awaits}
use Rattle.text.specs.declared.raw.Awaits.TheVariants.{Gap, Digit, Second}
use Rattle.text.specs.declared.raw.Step.{Step}
use Rattle.text.specs.declared.raw.Step.TheVariants.{Blank, First, Pair}

-- bytes in front of those that are still to be read
abbrev with_said : List ℕ → Result (List ℕ) ℕ → Result (List ℕ) ℕ
with_said said r = and_then r (λ bs. Ok (said ++ bs))

-- where the loop is: at index k of what is left of the line, and so at place i
pub record SoFar (xs : List ℕ) (from room : ℕ) (kept : List ℕ) (a : Awaits) (count k i : ℕ) : Type 0 where
  pub said : List ℕ
  pub keeps : Keeps said room kept count
  pub small : Small a
  pub few : count ≤ k
  pub place : i ≡ from + k
  pub left : with_said said (pairs_at a (drop k xs) i) ≡ pairs_at Gap xs from

none_said : (r : Result (List ℕ) ℕ) → with_said [] r ≡ r
none_said (Ok bs) = refl
none_said (Err n) = refl

one_said : (said : List ℕ) (b : ℕ) (r : Result (List ℕ) ℕ) → with_said said (pushed b r) ≡ with_said (said ++ (b ∷ [])) r
one_said said b (Ok bs) = ap Ok (sym (append_assoc said (b ∷ []) bs))
one_said said b (Err n) = refl

take_none : (n : ℕ) → take {A = ℕ} n [] ≡ []
take_none zero = refl
take_none (suc n) = refl

pub start : (xs : List ℕ) (from room : ℕ) (kept : List ℕ) → SoFar xs from room kept Gap 0 0 from
start xs from room kept = record {
  said = [];
  keeps = (refl, sym (take_none room));
  small = tt;
  few = omega arith;
  place = omega arith;
  left = none_said (pairs_at Gap xs from);
}

-- the same place, by other names
pub moved :
    (xs : List ℕ) (from room : ℕ) (kept kept' : List ℕ) (a a' : Awaits) (count count' k i : ℕ) → kept' ≡ kept → a' ≡ a → count' ≡ count →
    SoFar xs from room kept a count k i → SoFar xs from room kept' a' count' k i
moved xs from room kept kept' a a' count count' k i p q r h =
    subst (λ l. SoFar xs from room l a' count' k i) (sym p)
    (subst (λ b. SoFar xs from room kept b count' k i) (sym q) (subst (λ n. SoFar xs from room kept a n k i) (sym r) h))

-- one byte
pairs_step : (a : Awaits) (b : ℕ) (bs : List ℕ) (i : ℕ) → pairs_at a (b ∷ bs) i ≡ after (step_of a b) (λ s. pairs_at s bs (i + 1)) i
unfolding pairs_at
pairs_step Gap b bs i = refl
pairs_step Digit b bs i = refl
pairs_step (Second h) b bs i = refl

module _ (xs : List ℕ) (from room : ℕ) (kept : List ℕ) (a : Awaits) (count k i : ℕ) (now : SoFar xs from room kept a count k i) where
  -- what the next byte does
  step_at :
      (s : Option Step) → k < length xs → s ≡ step_of a (get_or xs k 0) → with_said now.said (after s (λ t. pairs_at t (drop (k + 1) xs) (i + 1)) i) ≡ pairs_at Gap xs from
  step_at s l e =
      ap (λ t. with_said now.said (after t (λ u. pairs_at u (drop (k + 1) xs) (i + 1)) i)) e
      ∙ ap (with_said now.said) (sym (at_drop_more (λ xs. pairs_at a xs i) xs k 0 l ∙ pairs_step a (get_or xs k 0) (drop (k + 1) xs) i)) ∙ now.left

  pub after_blank : k < length xs → Some Blank ≡ step_of a (get_or xs k 0) → SoFar xs from room kept Digit count (k + 1) (i + 1)
  after_blank l e = record {
    said = now.said;
    keeps = now.keeps;
    small = tt;
    few = omega (arith, now.few);
    place = omega (arith, now.place);
    left = step_at (Some Blank) l e;
  }

  pub after_first : (h : ℕ) → h < 16 → k < length xs → Some (First h) ≡ step_of a (get_or xs k 0) → SoFar xs from room kept (Second h) count (k + 1) (i + 1)
  after_first h low l e = record {
    said = now.said;
    keeps = now.keeps;
    small = low;
    few = omega (arith, now.few);
    place = omega (arith, now.place);
    left = step_at (Some (First h)) l e;
  }

  after_pair :
      (b : ℕ) (kept' : List ℕ) → take (count + 1) kept' ≡ take room (now.said ++ (b ∷ [])) → k < length xs → Some (Pair b) ≡ step_of a (get_or xs k 0) →
      SoFar xs from room kept' Gap (count + 1) (k + 1) (i + 1)
  after_pair b kept' same l e = record {
    said = now.said ++ (b ∷ []);
    keeps = (ap (λ n. n + 1) now.keeps.0 ∙ sym (length_push now.said b), same);
    small = tt;
    few = omega (arith, now.few);
    place = omega (arith, now.place);
    left = sym (one_said now.said b (pairs_at Gap (drop (k + 1) xs) (i + 1))) ∙ step_at (Some (Pair b)) l e;
  }

  -- there is room for the byte, or not
  pub after_kept :
      (b : ℕ) → length kept ≡ room → count < length kept → k < length xs → Some (Pair b) ≡ step_of a (get_or xs k 0) →
      SoFar xs from room (set kept count b) Gap (count + 1) (k + 1) (i + 1)
  after_kept b long few l e =
      after_pair b (set kept count b)
      (take_more_set kept count b few ∙ ap (λ xs. xs ++ (b ∷ [])) (now.keeps.1 ∙ take_all room now.said (omega (arith, now.keeps.0)))
      ∙ sym (take_all room (now.said ++ (b ∷ [])) (omega (arith, now.keeps.0, length_push now.said b)))) l e

  pub after_full :
      (b : ℕ) → length kept ≡ room → length kept ≤ count → k < length xs → Some (Pair b) ≡ step_of a (get_or xs k 0) →
      SoFar xs from room kept Gap (count + 1) (k + 1) (i + 1)
  after_full b long many l e =
      after_pair b kept
      (take_all (count + 1) kept (omega arith) ∙ sym (take_all count kept many) ∙ now.keeps.1
      ∙ sym (take-append-le room now.said (b ∷ []) (omega (arith, now.keeps.0)))) l e

  pub after_wrong : k < length xs → None ≡ step_of a (get_or xs k 0) → Filled (pairs_at Gap xs from) room kept (Err i)
  after_wrong l e = subst (λ r. Filled r room kept (Err i)) (step_at None l e) refl

  -- the end of the line
  end_at : length xs ≤ k → with_said now.said (pairs_at a [] i) ≡ pairs_at Gap xs from
  end_at l = ap (with_said now.said) (sym (at_drop_all (λ xs. pairs_at a xs i) xs k l)) ∙ now.left

pub end_half :
    (xs : List ℕ) (from room : ℕ) (kept : List ℕ) (a : Awaits) (count k i : ℕ) (h : ℕ) → SoFar xs from room kept a count k i → a ≡ Second h → length xs ≤ k →
    Filled (pairs_at Gap xs from) room kept (Err i)
unfolding pairs_at
end_half xs from room kept Gap count k i h now e l = cc
end_half xs from room kept Digit count k i h now e l = cc
end_half xs from room kept (Second j) count k i h now e l =
    subst (λ r. Filled r room kept (Err i)) (end_at xs from room kept (Second j) count k i now l) refl

end_said :
    (xs : List ℕ) (from room : ℕ) (kept : List ℕ) (a : Awaits) (count k i : ℕ) (now : SoFar xs from room kept a count k i) → pairs_at a [] i ≡ Ok [] →
    length xs ≤ k → Filled (pairs_at Gap xs from) room kept (Ok count)
end_said xs from room kept a count k i now e l =
    subst (λ r. Filled r room kept (Ok count)) (ap Ok (sym (append-nil now.said)) ∙ ap (with_said now.said) (sym e) ∙ end_at xs from room kept a count k i now l)
    now.keeps

pub end_whole :
    (xs : List ℕ) (from room : ℕ) (kept : List ℕ) (a : Awaits) (count k i : ℕ) → SoFar xs from room kept a count k i → ((h : ℕ) → a ≡ Second h → ⊥) →
    length xs ≤ k → Filled (pairs_at Gap xs from) room kept (Ok count)
unfolding pairs_at
end_whole xs from room kept Gap count k i now e l = end_said xs from room kept Gap count k i now refl l
end_whole xs from room kept Digit count k i now e l = end_said xs from room kept Digit count k i now refl l
end_whole xs from room kept (Second h) count k i now e l = absurd (e h refl)

-- what is said of what is left, said of the line
pub on_line :
    (xs line kept : List ℕ) (from room : ℕ) (r s : Result ℕ ℕ) → xs ≡ drop from line → r ≡ s → Filled (pairs_at Gap xs from) room kept s →
    Filled (pairs_from line from) room kept r
on_line xs line kept from room r s e q h =
    subst (λ t. Filled (pairs_from line from) room kept t) (sym q) (subst (λ ys. Filled (pairs_at Gap ys from) room kept s) e h)
