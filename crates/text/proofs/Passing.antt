-- A line that may be passed over, by its first letter that is no white space.
use denote.Ref.{Bor}
use Rattle.std.proofs.Common.{◌≡◌, ℕ, Bool, true, not, eqb, List, [], ◌∷◌, Some, None, Option, inl, inr, refl}
use Rattle.std.specs.Bool.{IsTrue}
use Rattle.std.specs.List.{find}
use Rattle.std.specs.Option.{MatchOption, option_map}
use Rattle.std.proofs.lemmas.Bool.{cases_Bool}
use Rattle.text.specs.Grammar.{blank, passed_over}

abbrev pub none_or_hash : Option ℕ → Bool
none_or_hash None = true
none_or_hash (Some b) = eqb b 35

pub passed_found : (line : List ℕ) → passed_over line ≡ none_or_hash (find (λ b. not (blank b)) line)
unfolding passed_over
passed_found [] = refl
passed_found (b ∷ line) =
    elim (cases_Bool (blank b)) [
      | inl e ↦ rw e (passed_found line)
      | inr e ↦ rw e refl
    ]

pub by_letter :
    (r : Option (Bor ℕ)) (b : Bool) (P : Bor ℕ → Type 0) → MatchOption r (IsTrue b) P → ((x : Bor ℕ) → P x → b ≡ eqb x.now 35) →
    b ≡ none_or_hash (option_map (λ x. x.now) r)
by_letter None b P h k = h
by_letter (Some x) b P h k = k x h
