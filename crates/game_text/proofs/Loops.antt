-- The loop over a text's bytes: what is left to read gives the outcome.
use Rattle.std.proofs.Common.{◌≡◌, ℕ, ◌+◌, ◌<◌, ◌≤◌, true, false, List, length, get_or, drop, Some, None, Ok, Err, Option, Result, refl, ap, subst, ◌∙◌}
use Rattle.std.proofs.lemmas.List.{drop_more, drop_all}
use Rattle.std.proofs.lemmas.Bool.{cond-true, cond-false}
use Rattle.std.specs.Option.{ok_or}
use Rattle.game_text.specs.declared.progress.Fault.{Fault}
use Rattle.game_text.specs.declared.progress.Stage.{Stage}
use Rattle.game_text.specs.declared.progress.Stage.TheVariants.{PlayersWord, PlayersNumber, CellsWord, Values, FirstBound, SecondBound, MayWord, Expr, Sets, GainWord, End}
use Rattle.game_text.specs.Machine.{State, Machine, step, settled, went_on, at_end, is_end, failed, reading, read}
use Rattle.game_text.specs.Room.{machine_of}
use Rattle.game_text.specs.declared.progress.Reader.{Reader}

-- what the code knows where a step has failed, and where not
pub or_fault : {A : Type 0} (o : Option A) (e f : Fault) → ◌≡◌ {A = Result A Fault} (Err e) (ok_or o f) → (o ≡ None) × (e ≡ f)
or_fault None e f h = (refl, cc)
or_fault (Some x) e f h = cc

pub or_went : {A : Type 0} (o : Option A) (y : A) (f : Fault) → ◌≡◌ {A = Result A Fault} (Ok y) (ok_or o f) → o ≡ Some y
or_went None y f h = cc
or_went (Some x) y f h = cc

pub not_end : (s : Stage) → (s ≡ End → ⊥) → is_end s ≡ false
not_end PlayersWord h = refl
not_end PlayersNumber h = refl
not_end CellsWord h = refl
not_end Values h = refl
not_end FirstBound h = refl
not_end SecondBound h = refl
not_end MayWord h = refl
not_end Expr h = refl
not_end Sets h = refl
not_end GainWord h = refl
not_end End h = absurd (h refl)

-- a byte that fits
pub went_step :
    (m n : Machine) (text : List ℕ) (i : ℕ) → i < length text → step m (get_or text i 0) ≡ Some n
    → reading m (drop i text) i ≡ reading n (drop (i + 1) text) (i + 1)
unfolding reading
went_step m n text i h e =
    ap (λ bs. reading m bs i) (drop_more text i 0 h) ∙ ap (λ x. went_on m x (λ k. reading k (drop (i + 1) text) (i + 1)) i) e

-- a byte that doesn't fit
pub went_wrong :
    (m : Machine) (text : List ℕ) (i : ℕ) → i < length text → step m (get_or text i 0) ≡ None → reading m (drop i text) i ≡ failed i m.at m.memory
unfolding reading
went_wrong m text i h e =
    ap (λ bs. reading m bs i) (drop_more text i 0 h) ∙ ap (λ x. went_on m x (λ k. reading k (drop (i + 1) text) (i + 1)) i) e

-- the end
ended : (m : Machine) (text : List ℕ) (i : ℕ) → length text ≤ i → reading m (drop i text) i ≡ at_end m (settled m.lexer m.at m.memory) i
unfolding reading
ended m text i h = ap (λ bs. reading m bs i) (drop_all i text h)

pub ended_short :
    (m : Machine) (text : List ℕ) (i : ℕ) → length text ≤ i → settled m.lexer m.at m.memory ≡ None → reading m (drop i text) i ≡ failed i m.at m.memory
ended_short m text i h e = ended m text i h ∙ ap (λ x. at_end m x i) e

pub ended_whole :
    (m : Machine) (text : List ℕ) (i : ℕ) (s : State) → length text ≤ i → settled m.lexer m.at m.memory ≡ Some s → is_end s.at.stage ≡ true
    → reading m (drop i text) i ≡ record { answer = Ok s.at.len; memory = s.memory }
ended_whole m text i s h e t = ended m text i h ∙ ap (λ x. at_end m x i) e ∙ cond-true (is_end s.at.stage) _ _ t

pub ended_early :
    (m : Machine) (text : List ℕ) (i : ℕ) (s : State) → length text ≤ i → settled m.lexer m.at m.memory ≡ Some s → is_end s.at.stage ≡ false
    → reading m (drop i text) i ≡ failed i s.at s.memory
ended_early m text i s h e t = ended m text i h ∙ ap (λ x. at_end m x i) e ∙ cond-false (is_end s.at.stage) _ _ t

-- where all bytes were read
pub all_read :
    (text : List ℕ) (m : Reader) (out entry : List ℕ) (i : ℕ) → i ≡ length text → reading (machine_of text i m out) (drop i text) i ≡ read text entry
    → reading (machine_of text (length text) m out) (drop (length text) text) (length text) ≡ read text entry
all_read text m out entry i e h = subst (λ j. reading (machine_of text j m out) (drop j text) j ≡ read text entry) e h
