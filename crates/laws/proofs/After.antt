-- What `after_some` and `after_every` say of the moves of a list.
use Rattle.std.proofs.Common.{◌≡◌, Bool, true, false, cond, not, ◌&&◌, ◌||◌, List, [], ◌∷◌, refl, ap, ◌∙◌, subst, inl, inr}
use Rattle.std.proofs.lemmas.Bool.{cond_both, false≢true, and_parts, and_from, or_left, or_right}
use Rattle.rules.specs.declared.Move.{Move}
use Rattle.rules.specs.Rules.{Position, Game, apply}
use Rattle.rules.specs.Force.{after_some, after_every}
use Rattle.laws.specs.Listing.{Member}

-- the first move of the list after which f holds; where there is none, any move
pub first_after : (Position → Bool) → Game → Position → List Move → Move
first_after f g p [] = record { rule = 0; first = 0; second = 0 }
first_after f g p (v ∷ vs) = cond (f (apply g p v)) v (first_after f g p vs)

-- after-some says that f holds after some move of the list: after the first such move
pub some_gives :
    (f : Position → Bool) (g : Game) (p : Position) (vs : List Move) → after_some f g p vs ≡ true →
    Member (first_after f g p vs) vs × (f (apply g p (first_after f g p vs)) ≡ true)
unfolding after_some first_after
some_gives f g p [] h = absurd (false≢true h)
some_gives f g p (v ∷ vs) h =
    cond_both (f (apply g p v)) v (first_after f g p vs) (λ u. Member u (v ∷ vs) × (f (apply g p u) ≡ true)) (λ e. (inl refl, e))
    (λ e. let later = some_gives f g p vs (rw e at h) in (inr later.0, later.1))

pub some_from :
    (f : Position → Bool) (g : Game) (p : Position) (v : Move) (vs : List Move) → Member v vs → f (apply g p v) ≡ true → after_some f g p vs ≡ true
unfolding after_some
some_from f g p v [] a h = elim a [ ]
some_from f g p v (w ∷ vs) (inl e) h = or_left (f (apply g p w)) (after_some f g p vs) (subst (λ u. f (apply g p u) ≡ true) e h)
some_from f g p v (w ∷ vs) (inr a) h = or_right (f (apply g p w)) (after_some f g p vs) (some_from f g p v vs a h)

-- after-every says that f holds after every move of the list
pub every_gives :
    (f : Position → Bool) (g : Game) (p : Position) (v : Move) (vs : List Move) → after_every f g p vs ≡ true → Member v vs → f (apply g p v) ≡ true
unfolding after_every
every_gives f g p v [] h a = elim a [ ]
every_gives f g p v (w ∷ vs) h (inl e) = ap (λ u. f (apply g p u)) e ∙ (and_parts (f (apply g p w)) (after_every f g p vs) h).0
every_gives f g p v (w ∷ vs) h (inr a) = every_gives f g p v vs (and_parts (f (apply g p w)) (after_every f g p vs) h).1 a

pub every_from :
    (f : Position → Bool) (g : Game) (p : Position) (vs : List Move) → ((v : Move) → Member v vs → f (apply g p v) ≡ true) → after_every f g p vs ≡ true
unfolding after_every
every_from f g p [] h = refl
every_from f g p (w ∷ vs) h =
    and_from (f (apply g p w)) (after_every f g p vs) (h w (inl refl)) (every_from f g p vs (λ v a. h v (inr a)))

or_of_nots : (a b : Bool) → (not a || not b) ≡ not (a && b)
or_of_nots true b = refl
or_of_nots false b = refl

-- where f and h are opposite after each move, f holds after some just if h does not hold after every one
pub some_not_every :
    (f h : Position → Bool) (g : Game) (p : Position) (vs : List Move) → ((v : Move) → Member v vs → f (apply g p v) ≡ not (h (apply g p v))) →
    after_some f g p vs ≡ not (after_every h g p vs)
unfolding after_some after_every
some_not_every f h g p [] opposite = refl
some_not_every f h g p (v ∷ vs) opposite =
    rw (opposite v (inl refl), some_not_every f h g p vs (λ w a. opposite w (inr a))) (or_of_nots (h (apply g p v)) (after_every h g p vs))
