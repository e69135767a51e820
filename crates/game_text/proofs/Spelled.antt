-- A word that is found is spelled so, and its letters are neither digits at its front nor white space anywhere.
use Rattle.std.proofs.Common.{◌≡◌, ℕ, Bool, true, false, cond, not, ◌&&◌, eqb, ltb, List, [], ◌∷◌, ◌++◌, length, Some, sym, refl, ap, ◌∙◌, subst, arith}
use Rattle.std.proofs.lemmas.List.{append-nil}
use Rattle.std.proofs.lemmas.Bool.{and_parts, and_from, cond_both, eqb-true, eq-eqb}
use Rattle.text.specs.Grammar.{digit, all}
use Rattle.game_text.specs.declared.progress.Stage.{Stage}
use Rattle.game_text.specs.declared.progress.Stage.TheVariants.{PlayersWord, PlayersNumber, CellsWord, Values, FirstBound, SecondBound, MayWord, Expr, Sets, GainWord, End}
use Rattle.game_text.specs.declared.progress.Word.{Word}
use Rattle.game_text.specs.declared.progress.Word.TheVariants.{Rule, Set, Over}
use Rattle.game_text.specs.declared.progress.Progress.{Progress}
use Rattle.game_text.specs.Machine.{is_front, agrees, look, spelling, awaited, ends}

pub front_same : (l w : List ℕ) → is_front l w ≡ true → length l ≡ length w → l ≡ w
unfolding is_front
front_same [] [] e n = refl
front_same [] (c ∷ w) e n = absurd (omega arith)
front_same (b ∷ l) [] e n = absurd (omega arith)
front_same (b ∷ l) (c ∷ w) e n =
    let f = and_parts (eqb b c) (is_front l w) e in λ i. eqb-true b c f.0 i ∷ front_same l w f.1 (omega arith) i

pub front_of_more : (l r : List ℕ) → is_front l (l ++ r) ≡ true
unfolding is_front
front_of_more [] r = refl
front_of_more (b ∷ l) r = and_from (eqb b b) (is_front l (l ++ r)) (eq-eqb b b refl) (front_of_more l r)

pub front_rest : (l w : List ℕ) → is_front l w ≡ true → (r : List ℕ) × (w ≡ l ++ r)
unfolding is_front
front_rest [] w e = (w, refl)
front_rest (b ∷ l) [] e = let z : ◌≡◌ {A = ℕ} 0 1 = cc in absurd (omega arith)
front_rest (b ∷ l) (c ∷ w) e =
    let f = and_parts (eqb b c) (is_front l w) e in
    let r = front_rest l w f.1 in
    (r.0, λ i. sym (eqb-true b c f.0) i ∷ r.1 i)

-- the whole word agrees only with itself
pub agrees_same : (l w : List ℕ) → agrees true l w ≡ true → l ≡ w
unfolding agrees
agrees_same l w e = let f = and_parts (is_front l w) (eqb (length l) (length w)) e in front_same l w f.0 (eqb-true (length l) (length w) f.1)

-- a front of it agrees with it
agrees_front : (l r w : List ℕ) → agrees true (l ++ r) w ≡ true → agrees false l w ≡ true
unfolding agrees
agrees_front l r w e =
    and_from (is_front l w) true (subst (λ x. is_front l x ≡ true) (agrees_same (l ++ r) w e) (front_of_more l r)) refl

agrees_rest : (l w : List ℕ) → agrees false l w ≡ true → (r : List ℕ) × (agrees true (l ++ r) w ≡ true)
unfolding agrees
agrees_rest l w e =
    let f = front_rest l w (and_parts (is_front l w) true e).0 in
    let nil : w ≡ w ++ [] = sym (append-nil w) in
    let self : is_front w w ≡ true = subst (λ x. is_front w x ≡ true) (sym nil) (front_of_more w []) in
    (f.0, subst (λ x. (is_front x w && eqb (length x) (length w)) ≡ true) f.1 (and_from (is_front w w) (eqb (length w) (length w)) self (eq-eqb (length w) (length w) refl)))

-- what is said of the word that is found
pub found_cases :
    (whole : Bool) (v : Word) (ws : List Word) (l : List ℕ) (w : Word) (X : Type 0) → look whole (v ∷ ws) l ≡ Some w
    → (agrees whole l (spelling v) ≡ true → v ≡ w → X) → (look whole ws l ≡ Some w → X) → X
found_cases whole v ws l w X e f g = go (agrees whole l (spelling v)) refl e
  where
    go : (b : Bool) → agrees whole l (spelling v) ≡ b → cond b (Some v) (look whole ws l) ≡ Some w → X
    go true t e = f t (let s : v ≡ w = cc in s)
    go false t e = g e

pub look_same : (ws : List Word) (l : List ℕ) (w : Word) → look true ws l ≡ Some w → l ≡ spelling w
look_same [] l w e = let z : ◌≡◌ {A = ℕ} 0 1 = cc in absurd (omega arith)
look_same (v ∷ ws) l w e =
    found_cases true v ws l w (l ≡ spelling w) e (λ t s. agrees_same l (spelling v) t ∙ ap spelling s) (look_same ws l w)

-- a word that is there is found, and so is each front of it
pub look_front : (ws : List Word) (l r : List ℕ) (w : Word) → look true ws (l ++ r) ≡ Some w → (v : Word) × (look false ws l ≡ Some v)
look_front [] l r w e = let z : ◌≡◌ {A = ℕ} 0 1 = cc in absurd (omega arith)
look_front (v ∷ ws) l r w e =
    found_cases true v ws (l ++ r) w ((u : Word) × (look false (v ∷ ws) l ≡ Some u)) e
    (λ t s. (v, ap (λ b. cond b (Some v) (look false ws l)) (agrees_front l r (spelling v) t)))
    (λ h. let k = look_front ws l r w h in
    cond_both (agrees false l (spelling v)) (Some v) (look false ws l) (λ x. (u : Word) × (x ≡ Some u)) (λ t. (v, refl)) (λ t. k))

-- and each front is the front of a word that is there
pub look_whole : (ws : List Word) (l : List ℕ) (w : Word) → look false ws l ≡ Some w → (r : List ℕ) × (v : Word) × (look true ws (l ++ r) ≡ Some v)
look_whole [] l w e = let z : ◌≡◌ {A = ℕ} 0 1 = cc in absurd (omega arith)
look_whole (v ∷ ws) l w e =
    found_cases false v ws l w ((r : List ℕ) × (u : Word) × (look true (v ∷ ws) (l ++ r) ≡ Some u)) e
    (λ t s. let f = agrees_rest l (spelling v) t in (f.0, v, ap (λ b. cond b (Some v) (look true ws (l ++ f.0))) f.1))
    (λ h. let k = look_whole ws l w h in
    let y : (u : Word) × (look true (v ∷ ws) (l ++ k.0) ≡ Some u) =
    cond_both (agrees true (l ++ k.0) (spelling v)) (Some v) (look true ws (l ++ k.0)) (λ x. (u : Word) × (x ≡ Some u)) (λ t. (v, refl)) (λ t. (k.1, k.2))
    in
    (k.0, y.0, y.1))

-- letters that are no white space, the first no digit
abbrev pub plain : List ℕ → Bool
plain [] = false
plain (b ∷ l) = not (digit b) && all (λ x. not (ends x)) (b ∷ l)

abbrev AllPlain : List Word → Type 0
AllPlain [] = Unit {0}
AllPlain (w ∷ ws) = (plain (spelling w) ≡ true) × AllPlain ws

rules_plain : (t : Bool) → AllPlain (cond t (Rule ∷ []) [] ++ (Over ∷ []))
unfolding all
rules_plain true = (refl, (refl, tt))
rules_plain false = (refl, tt)

sets_plain : (s t : Bool) → AllPlain (cond s (Set ∷ []) [] ++ (cond t (Rule ∷ []) [] ++ (Over ∷ [])))
unfolding all
sets_plain true t = (refl, rules_plain t)
sets_plain false t = rules_plain t

all_plain : (s : Stage) (p : Progress) → AllPlain (awaited s p)
unfolding all
all_plain PlayersWord p = (refl, tt)
all_plain PlayersNumber p = tt
all_plain CellsWord p = (refl, tt)
all_plain Values p = rules_plain (ltb p.rules 255)
all_plain FirstBound p = tt
all_plain SecondBound p = tt
all_plain MayWord p = (refl, tt)
all_plain Expr p = (refl, (refl, (refl, (refl, (refl, (refl, (refl, (refl, (refl, (refl, (refl, (refl, tt))))))))))))
all_plain Sets p = sets_plain (ltb p.sets 255) (ltb p.rules 255)
all_plain GainWord p = (refl, tt)
all_plain End p = tt

found_plain : (ws : List Word) (l : List ℕ) (w : Word) → AllPlain ws → look true ws l ≡ Some w → plain l ≡ true
found_plain [] l w a e = let z : ◌≡◌ {A = ℕ} 0 1 = cc in absurd (omega arith)
found_plain (v ∷ ws) l w a e =
    found_cases true v ws l w (plain l ≡ true) e (λ t s. ap plain (agrees_same l (spelling v) t) ∙ a.0) (found_plain ws l w a.1)

pub look_plain : (p : Progress) (l : List ℕ) (w : Word) → look true (awaited p.stage p) l ≡ Some w → plain l ≡ true
look_plain p l w e = found_plain (awaited p.stage p) l w (all_plain p.stage p) e
