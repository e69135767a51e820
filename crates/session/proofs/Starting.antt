-- What an opening that was not refused says of the sizes, and what memory that means a server says of its header.
use Rattle.std.proofs.Common.{◌≡◌, ℕ, ◌≤◌, Bool, true, false, cond, ◌&&◌, leb, List, length, Some, None, Ok, Err, Option, Result, sym, refl, ap, ◌∙◌, subst, arith}
use Rattle.std.proofs.lemmas.Bool.{and_parts, leb-true}
use Rattle.rules.specs.declared.Limits.{Limits}
use Rattle.rules.specs.declared.Refusal.{Refusal}
use Rattle.rules.specs.Rules.{Game}
use Rattle.rules.specs.Bounds.{good_game, good_limits}
use Rattle.wire.specs.declared.games.GameSize.{GameSize}
use Rattle.wire.specs.Games.{parse_game, checked, checked_game, size_of}
use Rattle.tables.specs.declared.plan.Sizes.{Sizes}
use Rattle.tables.specs.Layout.{sizes_of}
use Rattle.session.specs.Opening.{Lent, by_size, needed, long_enough, by_length, opening_answer, Opens}
use Rattle.tables.specs.Layout.{good_size}
use Rattle.tables.specs.Acting.{sizes_for}
use Rattle.tables.proofs.Theorems.{good_games_have_good_sizes}

-- a choice between a value and a refusal that came to a value
pub chosen : {X : Type 0} (b : Bool) (x y : X) (f : Refusal) → Ok y ≡ cond b (Ok x) (Err f) → (b ≡ true) × (x ≡ y)
chosen true x y f h = let e : x ≡ y = cc in (refl, e)
chosen false x y f h = let z : ◌≡◌ {A = ℕ} 0 1 = cc in absurd (omega arith)

pub never : {X : Type 0} (x : X) (f : Refusal) → Ok x ≡ Err f → ⊥
never x f h = let z : ◌≡◌ {A = ℕ} 0 1 = cc in omega arith

lengths_chosen : (m : Lent) (z : Sizes) (r : Result Sizes Refusal) → Ok z ≡ by_length m r → (r ≡ Ok z) × (long_enough z m ≡ true)
lengths_chosen m z (Err f) h = absurd (never z f h)
lengths_chosen m z (Ok y) h =
    let p = chosen (long_enough y m) y z _ h in
    (ap Ok p.1, subst (λ x. long_enough x m ≡ true) p.1 p.0)

pub sizes_chosen : (l : Limits) (z : Sizes) (r : Result GameSize Refusal) → by_size l r ≡ Ok z → (y : GameSize) × (r ≡ Ok y) × (good_limits l ≡ true) × (sizes_of l y ≡ z)
sizes_chosen l z (Err f) h = absurd (never z f (sym h))
sizes_chosen l z (Ok y) h = let p = chosen (good_limits l) (sizes_of l y) z _ (sym h) in (y, refl, p.0, p.1)

pub game_chosen : (g : Game) (y : GameSize) (o : Option Game) → o ≡ Some g → checked_game o ≡ Ok y → (good_game g ≡ true) × (size_of g ≡ y)
game_chosen g y o e h = chosen (good_game g) (size_of g) y _ (sym (subst (λ x. checked_game x ≡ Ok y) e h))

-- what is needed for a game, where something is
pub needed_is :
    (l : Limits) (bs : List ℕ) (z : Sizes) (g : Game) → needed l bs ≡ Ok z → parse_game bs ≡ Some g
    → (good_limits l ≡ true) × (good_game g ≡ true) × (z ≡ sizes_of l (size_of g))
unfolding needed checked
needed_is l bs z g h e =
    let p = sizes_chosen l z (checked bs) h in
    let q = game_chosen g p.0 (parse_game bs) e p.1 in
    (p.2, q.0, sym p.3 ∙ ap (sizes_of l) (sym q.1))

pub opened_sizes :
    (l : Limits) (bs : List ℕ) (m n : Lent) (z : Sizes) → Opens l bs m n (Ok z) → (needed l bs ≡ Ok z) × (long_enough z m ≡ true)
unfolding opening_answer
opened_sizes l bs m n z o = lengths_chosen m z (needed l bs) o.answers

pub long_parts :
    (z : Sizes) (m : Lent) → long_enough z m ≡ true
    → (z.rules ≤ length m.rules) × (z.state ≤ length m.state) × (z.scratch ≤ length m.scratch) × (z.answer ≤ length m.answer)
long_parts z m h =
    let a = and_parts (leb z.rules (length m.rules) && leb z.state (length m.state))
    (leb z.scratch (length m.scratch) && leb z.answer (length m.answer)) h in
    let b = and_parts (leb z.rules (length m.rules)) (leb z.state (length m.state)) a.0 in
    let c = and_parts (leb z.scratch (length m.scratch)) (leb z.answer (length m.answer)) a.1 in
    (leb-true _ _ b.0, leb-true _ _ b.1, leb-true _ _ c.0, leb-true _ _ c.1)

-- the sizes of a game that was checked are good
pub checked_good : (z : GameSize) (o : Option Game) → checked_game o ≡ Ok z → good_size z ≡ true
checked_good z None h = absurd (never z _ (sym h))
checked_good z (Some g) h =
    let c = chosen (good_game g) (size_of g) z _ (sym h) in
    subst (λ y. good_size y ≡ true) c.1 (good_games_have_good_sizes g c.0)

by_limits : (l : Limits) (z : GameSize) → good_size z ≡ true → sizes_for l z ≡ cond (good_limits l) (Some (sizes_of l z)) None
unfolding sizes_for
by_limits l z h = ap (λ b. cond (good_limits l && b) (Some (sizes_of l z)) None) h ∙ ap (λ b. cond b (Some (sizes_of l z)) None) (and_true (good_limits l))
  where
    and_true : (b : Bool) → (b && true) ≡ b
    and_true true = refl
    and_true false = refl

told_sizes : (b : Bool) (y : Sizes) (f : Refusal) → None ≡ cond b (Some y) None → Err f ≡ cond b (Ok y) (Err f)
told_sizes true y f h = let z : ◌≡◌ {A = ℕ} 0 1 = cc in absurd (omega arith)
told_sizes false y f h = refl

told_some : (b : Bool) (x y : Sizes) (f : Refusal) → Some x ≡ cond b (Some y) None → Ok x ≡ cond b (Ok y) (Err f)
told_some true x y f h = let e : x ≡ y = cc in ap Ok e
told_some false x y f h = let z : ◌≡◌ {A = ℕ} 0 1 = cc in absurd (omega arith)

module _ (l : Limits) (bs : List ℕ) (z : GameSize) (e : checked bs ≡ Ok z) where
  good_one : good_size z ≡ true
  unfolding checked
  good_one = checked_good z (parse_game bs) e

  pub needs_none : None ≡ sizes_for l z → Err (record { number = 3; place = 1 }) ≡ needed l bs
  unfolding needed
  needs_none h = told_sizes (good_limits l) (sizes_of l z) _ (h ∙ by_limits l z good_one) ∙ ap (by_size l) (sym e)

  pub needs_some : (y : Sizes) → Some y ≡ sizes_for l z → Ok y ≡ needed l bs
  unfolding needed
  needs_some y h = told_some (good_limits l) y (sizes_of l z) _ (h ∙ by_limits l z good_one) ∙ ap (by_size l) (sym e)
