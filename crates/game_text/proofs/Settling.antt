-- The piece that ends before a place: what the code takes is what the machine takes.
use Rattle.std.proofs.Common.{◌≡◌, ℕ, ◌+◌, ◌-◌, ◌<◌, ◌≤◌, Bool, true, false, cond, ltb, List, [], ◌∷◌, ◌++◌, length, get_or, take, drop, Some, None, Option, sym, refl, ap, ◌∙◌, subst, arith}
use Rattle.std.proofs.lemmas.List.{take_more, length-drop, get_or-drop}
use Rattle.std.proofs.lemmas.Bool.{cond_both, cond-true, cond-false, ltb-true}
use Rattle.game_text.specs.declared.progress.Stage.{Stage}
use Rattle.game_text.specs.declared.progress.Stage.TheVariants.{PlayersWord, PlayersNumber, CellsWord, Values, FirstBound, SecondBound, MayWord, Expr, Sets, GainWord, End}
use Rattle.game_text.specs.declared.progress.Word.{Word}
use Rattle.game_text.specs.declared.progress.Word.TheVariants.{Rule, Set, Over}
use Rattle.game_text.specs.declared.progress.Progress.{Progress}
use Rattle.game_text.specs.declared.progress.Token.{Token}
use Rattle.game_text.specs.declared.progress.Token.TheVariants.{Gap, Digits, Letters}
use Rattle.text.specs.Grammar.{digit}
use Rattle.game_text.specs.Machine.{State, letters, more_letters, more_digits, added, settled, number_taken, word_taken, awaited, look, agrees, spelling, and_then}
use Rattle.game_text.specs.Room.{Fine, Room, Sane, lexer_of, SameLexer}
use Rattle.game_text.proofs.Growing.{number_grew, word_grew, room_after}

abbrev AllFine : List Word → Progress → Type 0
AllFine [] p = Unit {0}
AllFine (w ∷ ws) p = Fine w p × AllFine ws p

found_fine : (whole : Bool) (ws : List Word) (l : List ℕ) (p : Progress) (w : Word) → AllFine ws p → Some w ≡ look whole ws l → Fine w p
found_fine whole [] l p w f e = let z : ◌≡◌ {A = ℕ} 0 1 = cc in absurd (omega arith)
found_fine whole (v ∷ ws) l p w f e = go (agrees whole l (spelling v)) e (found_fine whole ws l p w f.1)
  where
    go : (b : Bool) → Some w ≡ cond b (Some v) (look whole ws l) → (Some w ≡ look whole ws l → Fine w p) → Fine w p
    go true e r = let s : v ≡ w = cc in subst (λ x. Fine x p) s f.0
    go false e r = r e

rules_fine : (p : Progress) → AllFine (cond (ltb p.rules 255) (Rule ∷ []) [] ++ (Over ∷ [])) p
rules_fine p = cond_both (ltb p.rules 255) (Rule ∷ []) [] (λ ws. AllFine (ws ++ (Over ∷ [])) p) (λ e. (ltb-true p.rules 255 e, (tt, tt))) (λ e. (tt, tt))

all_fine : (s : Stage) (p : Progress) → AllFine (awaited s p) p
all_fine PlayersWord p = (tt, tt)
all_fine PlayersNumber p = tt
all_fine CellsWord p = (tt, tt)
all_fine Values p = rules_fine p
all_fine FirstBound p = tt
all_fine SecondBound p = tt
all_fine MayWord p = (tt, tt)
all_fine Expr p = (
  omega arith,
  (
    omega arith,
    (
      omega arith,
      (
        omega arith,
        (
          omega arith,
          (
            omega arith,
            (
              omega arith,
              (
                omega arith,
                (
                  omega arith,
                  (
                    omega arith,
                    (omega arith, (omega arith, tt)),
                  ),
                ),
              ),
            ),
          ),
        ),
      ),
    ),
  ),
)
all_fine Sets p =
    cond_both (ltb p.sets 255) (Set ∷ []) [] (λ ws. AllFine (ws ++ (cond (ltb p.rules 255) (Rule ∷ []) [] ++ (Over ∷ []))) p)
    (λ e. (ltb-true p.sets 255 e, rules_fine p)) (λ e. rules_fine p)
all_fine GainWord p = (tt, tt)
all_fine End p = tt

-- a word that was found may be taken
pub look_fine : (whole : Bool) (p : Progress) (l : List ℕ) (w : Word) → Some w ≡ look whole (awaited p.stage p) l → Fine w p
look_fine whole p l w e = found_fine whole (awaited p.stage p) l p w (all_fine p.stage p) e

pub digits_settled :
    (text : List ℕ) (i : ℕ) (t : Token) (p : Progress) (n : ℕ) (memory : List ℕ) (s : State) → t ≡ Digits n → Sane i p t → s ≡ number_taken p.stage n p memory
    → (settled (lexer_of text i t) p memory ≡ Some s) × Room s.at (i + 1)
digits_settled text i t p n memory s e sane h =
    let d = subst (λ x. Sane i p x) e sane in (
      ap (λ x. settled (lexer_of text i x) p memory) e ∙ ap (λ x. Some x) (sym h),
      subst (λ (x : State). Room x.at (i + 1)) (sym h) (room_after i p _ d.0 d.1 (number_grew p.stage n p memory refl d.2)),
    )

pub letters_settled :
    (text : List ℕ) (i : ℕ) (t : Token) (p : Progress) (from : ℕ) (memory : List ℕ) (w : Word) (s : State) → t ≡ Letters from → Sane i p t
    → Some w ≡ look true (awaited p.stage p) (take (i - from) (drop from text)) → s ≡ word_taken w p memory
    → (settled (lexer_of text i t) p memory ≡ Some s) × Room s.at (i + 1)
letters_settled text i t p from memory w s e sane f h =
    let d = subst (λ x. Sane i p x) e sane in (
      ap (λ x. settled (lexer_of text i x) p memory) e ∙ ap (λ x. and_then x (λ v. Some (word_taken v p memory))) (sym f) ∙ ap (λ x. Some x) (sym h),
      subst (λ (x : State). Room x.at (i + 1)) (sym h)
          (room_after i p _ d.0 (omega (arith, d.1)) (word_grew w p memory (look_fine true p _ w f))),
    )

-- one more letter
letter_more :
    (text : List ℕ) (from i : ℕ) → i < length text → from ≤ i
    → take (i + 1 - from) (drop from text) ≡ take (i - from) (drop from text) ++ (get_or text i 0 ∷ [])
letter_more text from i h l =
    let n : i + 1 - from ≡ i - from + 1 = omega arith in
    let m : from + (i - from) ≡ i = omega arith in
    ap (λ k. take k (drop from text)) n ∙ take_more (drop from text) (i - from) 0 (omega (arith, length-drop from text))
    ∙ ap (λ b. take (i - from) (drop from text) ++ (b ∷ [])) (get_or-drop from text (i - from) 0 ∙ ap (λ k. get_or text k 0) m)

pub letter_added :
    (text : List ℕ) (from i : ℕ) (p : Progress) (w : Word) → i < length text → from ≤ i → Room p i
    → Some w ≡ look false (awaited p.stage p) (take (i + 1 - from) (drop from text))
    → SameLexer (more_letters (take (i - from) (drop from text)) (get_or text i 0) p) text (i + 1) p (Some (Letters from))
letter_added text from i p w h l r e =
    let m = letter_more text from i h l in
    let one : i + 1 - 1 ≡ i = omega arith in (
      ap (λ x. and_then (look false (awaited p.stage p) x) (λ v. Some (letters x))) (sym m)
          ∙ ap (λ x. and_then x (λ v. Some (letters (take (i + 1 - from) (drop from text))))) (sym e),
      (subst (λ k. Room p k) (sym one) r, omega arith),
    )

pub letter_wrong :
    (text : List ℕ) (from i : ℕ) (p : Progress) → i < length text → from ≤ i
    → None ≡ look false (awaited p.stage p) (take (i + 1 - from) (drop from text))
    → more_letters (take (i - from) (drop from text)) (get_or text i 0) p ≡ None
letter_wrong text from i p h l e =
    ap (λ x. and_then (look false (awaited p.stage p) x) (λ v. Some (letters x))) (sym (letter_more text from i h l))
    ∙ ap (λ x. and_then x (λ v. Some (letters (take (i + 1 - from) (drop from text))))) (sym e)

-- a byte that ends nothing, by what it may belong to
pub gap_digit :
    (text : List ℕ) (i b : ℕ) (t : Token) (p : Progress) (r : Option Token) → t ≡ Gap → digit b ≡ true → SameLexer (more_digits 0 b p) text (i + 1) p r
    → SameLexer (added (lexer_of text i t) b p) text (i + 1) p r
gap_digit text i b t p r e d h =
    subst (λ x. SameLexer x text (i + 1) p r)
    (sym (ap (λ x. added (lexer_of text i x) b p) e ∙ cond-true (digit b) (more_digits 0 b p) (more_letters [] b p) d)) h

pub gap_letter :
    (text : List ℕ) (i b : ℕ) (t : Token) (p : Progress) (r : Option Token) → t ≡ Gap → digit b ≡ false
    → SameLexer (more_letters (take (i - i) (drop i text)) b p) text (i + 1) p r → SameLexer (added (lexer_of text i t) b p) text (i + 1) p r
gap_letter text i b t p r e d h =
    let z : i - i ≡ 0 = omega arith in
    subst (λ x. SameLexer x text (i + 1) p r)
    (ap (λ k. more_letters (take k (drop i text)) b p) z
    ∙ sym (ap (λ x. added (lexer_of text i x) b p) e ∙ cond-false (digit b) (more_digits 0 b p) (more_letters [] b p) d)) h

pub digits_digit :
    (text : List ℕ) (i b : ℕ) (t : Token) (p : Progress) (n : ℕ) (r : Option Token) → t ≡ Digits n → SameLexer (more_digits n b p) text (i + 1) p r
    → SameLexer (added (lexer_of text i t) b p) text (i + 1) p r
digits_digit text i b t p n r e h = subst (λ x. SameLexer x text (i + 1) p r) (sym (ap (λ x. added (lexer_of text i x) b p) e)) h
