-- One word more of a command line. A word is what f gives of an element.
use Rattle.std.proofs.Common.{◌≡◌, ℕ, ◌+◌, ◌<◌, ◌≤◌, List, [], map, length, get_or, drop, Ok, Err, Result, sym, ap, ◌∙◌, arith}
use lib.ListN.{length-map}
use Rattle.std.proofs.lemmas.List.{at_drop_more, at_drop_all, get_or-map}
use Rattle.commands.specs.declared.options.Fault.{Fault}
use Rattle.commands.specs.Faults.{and_then, taken}

module _ {X Y : Type 0} (with : Y → List ℕ → ℕ → Result Y Fault) (f : X → List ℕ) (g : Y) (xs : List X) (i : ℕ) where
  words_step :
      (x : X) → i < length xs → x ≡ get_or xs i x →
      taken with g (drop i (map f xs)) i ≡ and_then (with g (f x) i) (λ h. taken with h (drop (i + 1) (map f xs)) (i + 1))
  unfolding taken
  words_step x l e =
      at_drop_more (λ vs. taken with g vs i) (map f xs) i [] (simp length-map (omega arith))
      ∙ ap (λ w. and_then (with g w i) (λ h. taken with h (drop (i + 1) (map f xs)) (i + 1))) (get_or-map f xs i x [] l ∙ ap f (sym e))

  pub words_more :
      (h : Y) (x : X) → i < length xs → x ≡ get_or xs i x → Ok h ≡ with g (f x) i →
      taken with g (drop i (map f xs)) i ≡ taken with h (drop (i + 1) (map f xs)) (i + 1)
  words_more h x l e o = words_step x l e ∙ ap (λ r. and_then r (λ y. taken with y (drop (i + 1) (map f xs)) (i + 1))) (sym o)

  pub words_fault : (u : Fault) (x : X) → i < length xs → x ≡ get_or xs i x → Err u ≡ with g (f x) i → taken with g (drop i (map f xs)) i ≡ Err u
  words_fault u x l e o = words_step x l e ∙ ap (λ r. and_then r (λ y. taken with y (drop (i + 1) (map f xs)) (i + 1))) (sym o)

  pub words_end : length xs ≤ i → taken with g (drop i (map f xs)) i ≡ Ok g
  unfolding taken
  words_end l = at_drop_all (λ vs. taken with g vs i) (map f xs) i (simp length-map (omega arith))
