-- Bytes beside words: where they agree, and which word is found.
use Rattle.std.proofs.Common.{◌≡◌, ℕ, Bool, true, false, not, ◌&&◌, ◌||◌, eqb, List, [], ◌∷◌, All, length, map, inl, inr, sym, refl, ap}
use Rattle.std.specs.List.{find, starts_with}
use Rattle.std.specs.Option.{option_map}
use Rattle.std.proofs.lemmas.List.Elements.{All-head, All-tail}
use Rattle.std.proofs.lemmas.Bool.{and_left, cases_Bool}
use Rattle.game_text.specs.declared.words.Spelled.{Spelled}
use Rattle.game_text.specs.Machine.{is_front, agrees, look, spelling}

-- a front, as the library tests it
pub starts_front : (l w : List ℕ) → starts_with eqb w l ≡ is_front l w
unfolding is_front
starts_front [] [] = refl
starts_front [] (c ∷ w) = refl
starts_front (b ∷ l) [] = refl
starts_front (b ∷ l) (c ∷ w) = ap (λ t. eqb b c && t) (starts_front l w)

pub disagrees : (whole : Bool) (l w : List ℕ) → is_front l w ≡ false → false ≡ agrees whole l w
unfolding agrees
disagrees whole l w e = sym (and_left (is_front l w) (not whole || eqb (length l) (length w)) e)

pub agrees_by : (whole : Bool) (l w : List ℕ) → is_front l w ≡ true → (not whole || eqb (length l) (length w)) ≡ agrees whole l w
unfolding agrees
agrees_by whole l w e = ap (λ t. t && (not whole || eqb (length l) (length w))) (sym e)

-- the letters beside a word are how it is written
abbrev IsSpelled : Spelled → Type 0
IsSpelled s = s.letters.now ≡ spelling s.word

-- the first word that agrees, as the library finds it by the letters
pub look_found : (whole : Bool) (ss : List Spelled) (l : List ℕ) → All IsSpelled ss
    → option_map (λ s. s.word) (find (λ s. agrees whole l s.letters.now) ss) ≡ look whole (map (λ s. s.word) ss) l
look_found whole [] l a = refl
look_found whole (s ∷ ss) l a =
    let e : s.letters.now ≡ spelling s.word = All-head IsSpelled s ss a in
    rw e elim (cases_Bool (agrees whole l (spelling s.word))) [
      | inl t ↦ rw t refl
      | inr t ↦ rw t (look_found whole ss l (All-tail IsSpelled s ss a))
    ]
