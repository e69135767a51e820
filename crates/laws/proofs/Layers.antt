-- The layers of positions: their sums, and what stands in them. Assumes nothing.
use Rattle.std.proofs.Common.{◌≡◌, ℕ, zero, suc, ◌+◌, ◌≤◌, true, false, cond, eqb, ◌⊎◌, List, [], ◌∷◌, ◌++◌, length, sym, refl, ap, ◌∙◌, subst, inl, inr, ⊎_elim, arith}
use mathlib.Core.Path.{fun_ext}
use Rattle.std.proofs.lemmas.Bool.{both_ways, eqb-true, eq-eqb, and_parts, and_from, or_cases, or_left, or_right, cond_both}
use Rattle.rules.specs.declared.Move.{Move}
use Rattle.rules.specs.Rules.{Position, Game, is_legal, apply}
use Rattle.rules.specs.Play.{legal_moves, is_over}
use Rattle.rules.specs.Force.{same_position, is_among, add_once, add_after, next_layer, layer_total}
use Rattle.laws.specs.Listing.{Member}
use Rattle.laws.specs.Layers.{layer, sum_to, TotalIsExact, MoreLayers, Distinct, NoPositionTwice, Follows, JustThoseReached}
use Rattle.laws.proofs.Listing.{listed_is_legal, legal_is_listed}

-- The sums.

layer_shift : (g : Game) (d : ℕ) (ps : List Position) → layer g d (next_layer g ps []) ≡ layer g (suc d) ps
unfolding layer
layer_shift g zero ps = refl
layer_shift g (suc d) ps = ap (λ qs. next_layer g qs []) (layer_shift g d ps)

sum_shift : (d : ℕ) (f : ℕ → ℕ) → sum_to (suc d) f ≡ f 0 + sum_to d (λ i. f (suc i))
unfolding sum_to
sum_shift zero f = refl
sum_shift (suc d) f = omega (arith, sum_shift d f)

pub total_is_exact : TotalIsExact
unfolding layer_total sum_to layer
total_is_exact g zero ps = refl
total_is_exact g (suc d) ps =
    let shifted : (λ (i : ℕ). length (layer g i (next_layer g ps []))) ≡ (λ i. length (layer g (suc i) ps)) = fun_ext (λ i. ap length (layer_shift g i ps)) in
    ap (λ n. length ps + n) (total_is_exact g d (next_layer g ps []) ∙ ap (sum_to d) shifted) ∙ sym (sum_shift d (λ i. length (layer g i ps)))

total_has_first : (g : Game) (d : ℕ) (ps : List Position) → length ps ≤ layer_total g d ps
unfolding layer_total
total_has_first g zero ps = omega arith
total_has_first g (suc d) ps = omega arith

pub more_layers : MoreLayers
unfolding layer_total
more_layers g zero e ps = let i : 0 + e ≡ e = omega arith in rw i (total_has_first g e ps)
more_layers g (suc d) e ps =
    let i : suc d + e ≡ suc (d + e) = omega arith in
    rw i (omega (arith, more_layers g d e (next_layer g ps [])))

-- A position is among others just where it equals one of them.

same_position_itself : (p : Position) → same_position p p ≡ true
unfolding same_position
same_position_itself [] = refl
same_position_itself (a ∷ p) = and_from _ _ (eq-eqb a a refl) (same_position_itself p)

same_position_equal : (p q : Position) → same_position p q ≡ true → p ≡ q
unfolding same_position
same_position_equal [] [] h = refl
same_position_equal [] (b ∷ q) h = absurd (both_ways false refl h)
same_position_equal (a ∷ p) [] h = absurd (both_ways false refl h)
same_position_equal (a ∷ p) (b ∷ q) h =
    let both = and_parts (eqb a b) (same_position p q) h in
    let e = eqb-true a b both.0 in
    let f = same_position_equal p q both.1 in
    λ i. e i ∷ f i

among_is_member : (p : Position) (qs : List Position) → is_among p qs ≡ true → Member p qs
unfolding is_among
among_is_member p [] h = absurd (both_ways false refl h)
among_is_member p (q ∷ qs) h =
    ⊎_elim (λ e. inl (same_position_equal p q e)) (λ e. inr (among_is_member p qs e)) (or_cases (same_position p q) (is_among p qs) h)

member_is_among : (p : Position) (qs : List Position) → Member p qs → is_among p qs ≡ true
unfolding is_among
member_is_among p [] h = absurd h
member_is_among p (q ∷ qs) (inl e) = or_left _ _ (ap (same_position p) (sym e) ∙ same_position_itself p)
member_is_among p (q ∷ qs) (inr h) = or_right (same_position p q) _ (member_is_among p qs h)

-- One more at the end.

member_push : (q p : Position) (qs : List Position) → Member q qs → Member q (qs ++ (p ∷ []))
member_push q p [] h = absurd h
member_push q p (r ∷ rs) (inl e) = inl e
member_push q p (r ∷ rs) (inr h) = inr (member_push q p rs h)

last_is_member : (p : Position) (qs : List Position) → Member p (qs ++ (p ∷ []))
last_is_member p [] = inl refl
last_is_member p (r ∷ rs) = inr (last_is_member p rs)

pushed_members : (q p : Position) (qs : List Position) → Member q (qs ++ (p ∷ [])) → Member q qs ⊎ (q ≡ p)
pushed_members q p [] (inl e) = inr e
pushed_members q p [] (inr h) = absurd h
pushed_members q p (r ∷ rs) (inl e) = inl (inl e)
pushed_members q p (r ∷ rs) (inr h) = ⊎_elim (λ m. inl (inr m)) (λ e. inr e) (pushed_members q p rs h)

distinct_push : (p : Position) (qs : List Position) → (Member p qs → ⊥) → Distinct qs → Distinct (qs ++ (p ∷ []))
distinct_push p [] new d = (λ q h e. h, tt)
distinct_push p (r ∷ rs) new d =
    (λ q h e. ⊎_elim (λ m. d.0 q m e) (λ l. new (inl (sym (e ∙ l)))) (pushed_members q p rs h), distinct_push p rs (λ m. new (inr m)) d.1)

-- A position that is added once.

added_members : (q p : Position) (qs : List Position) → Member q (add_once p qs) → Member q qs ⊎ (q ≡ p)
added_members q p qs =
    cond_both (is_among p qs) qs (qs ++ (p ∷ [])) (λ rs. Member q rs → Member q qs ⊎ (q ≡ p)) (λ _ h. inl h) (λ _ h. pushed_members q p qs h)

add_keeps : (q p : Position) (qs : List Position) → Member q qs → Member q (add_once p qs)
add_keeps q p qs h = cond_both (is_among p qs) qs (qs ++ (p ∷ [])) (Member q) (λ _. h) (λ _. member_push q p qs h)

added_is_member : (p : Position) (qs : List Position) → Member p (add_once p qs)
added_is_member p qs = cond_both (is_among p qs) qs (qs ++ (p ∷ [])) (Member p) (among_is_member p qs) (λ _. last_is_member p qs)

add_distinct : (p : Position) (qs : List Position) → Distinct qs → Distinct (add_once p qs)
add_distinct p qs d =
    cond_both (is_among p qs) qs (qs ++ (p ∷ [])) Distinct (λ _. d)
    (λ e. distinct_push p qs (λ m. both_ways (is_among p qs) e (member_is_among p qs m)) d)

-- What the moves of a list lead to from p.

module _ (g : Game) (p : Position) where
  -- what holds of qs, and still holds where a position is added once, holds where several are
  after_kept : (P : List Position → Type 0) → ((q : Position) (qs : List Position) → P qs → P (add_once q qs)) → (vs : List Move) (qs : List Position) → P qs →
      P (add_after g p vs qs)
  unfolding add_after
  after_kept P more [] qs h = h
  after_kept P more (v ∷ vs) qs h = after_kept P more vs (add_once (apply g p v) qs) (more (apply g p v) qs h)

  after_has : (v : Move) (vs : List Move) (qs : List Position) → Member v vs → Member (apply g p v) (add_after g p vs qs)
  unfolding add_after
  after_has v [] qs h = absurd h
  after_has v (w ∷ ws) qs (inl e) = rw e (after_kept (Member (apply g p w)) (add_keeps (apply g p w)) ws (add_once (apply g p w) qs) (added_is_member (apply g p w) qs))
  after_has v (w ∷ ws) qs (inr h) = after_has v ws (add_once (apply g p w) qs) h

  after_members : (q : Position) (vs : List Move) (qs : List Position) → Member q (add_after g p vs qs) →
      Member q qs ⊎ ((v : Move) × Member v vs × (q ≡ apply g p v))
  unfolding add_after
  after_members q [] qs h = inl h
  after_members q (v ∷ vs) qs h =
      elim (after_members q vs (add_once (apply g p v) qs) h) [
        | inl m ↦ ⊎_elim (λ old. inl old) (λ e. inr (v, inl refl, e)) (added_members q (apply g p v) qs m)
        | inr f ↦ inr (f.0, inr f.1, f.2)
      ]

-- The next layer.

-- qs, and what one move leads to from p if it is not over
abbrev grown : Game → Position → List Position → List Position
grown g p qs = cond (is_over g p) qs (add_after g p (legal_moves g p) qs)

module _ (g : Game) where
  grown_has : (p : Position) (v : Move) (qs : List Position) → is_over g p ≡ false → is_legal g p v ≡ true → Member (apply g p v) (grown g p qs)
  grown_has p v qs o h = rw o (after_has g p v (legal_moves g p) qs (legal_is_listed g p v h))

  grown_members : (q p : Position) (ps qs : List Position) → Member q (grown g p qs) → Member q qs ⊎ Follows g (p ∷ ps) q
  grown_members q p ps qs =
      cond_both (is_over g p) qs (add_after g p (legal_moves g p) qs) (λ rs. Member q rs → Member q qs ⊎ Follows g (p ∷ ps) q) (λ _ h. inl h)
      (λ o h. ⊎_elim (λ m. inl m) (λ f. inr (p, inl refl, o, (f.0, listed_is_legal g p f.0 f.1, f.2))) (after_members g p q (legal_moves g p) qs h))

  next_kept : (P : List Position → Type 0) → ((q : Position) (qs : List Position) → P qs → P (add_once q qs)) → (ps qs : List Position) → P qs → P (next_layer g ps qs)
  unfolding next_layer
  next_kept P more [] qs h = h
  next_kept P more (p ∷ ps) qs h =
      next_kept P more ps (grown g p qs)
      (cond_both (is_over g p) qs (add_after g p (legal_moves g p) qs) P (λ _. h) (λ _. after_kept g p P more (legal_moves g p) qs h))

  next_has : (p : Position) (v : Move) (ps qs : List Position) → Member p ps → is_over g p ≡ false → is_legal g p v ≡ true → Member (apply g p v) (next_layer g ps qs)
  unfolding next_layer
  next_has p v [] qs m o h = absurd m
  next_has p v (r ∷ rs) qs (inl e) o h = next_kept (Member (apply g p v)) (add_keeps (apply g p v)) rs (grown g r qs) (subst (λ s. Member (apply g p v) (grown g s qs)) e (grown_has p v qs o h))
  next_has p v (r ∷ rs) qs (inr m) o h = next_has p v rs (grown g r qs) m o h

  next_members : (q : Position) (ps qs : List Position) → Member q (next_layer g ps qs) → Member q qs ⊎ Follows g ps q
  unfolding next_layer
  next_members q [] qs h = inl h
  next_members q (p ∷ ps) qs h =
      elim (next_members q ps (grown g p qs) h) [
        | inl m ↦ grown_members q p ps qs m
        | inr f ↦ inr (f.0, inr f.1, f.2, f.3)
      ]

pub no_position_twice : NoPositionTwice
no_position_twice g ps = next_kept g Distinct add_distinct ps [] tt

pub just_those_reached : JustThoseReached
just_those_reached g ps q = (
  λ h. ⊎_elim (λ m. absurd m) (λ f. f) (next_members g q ps [] h),
  λ f. let v = f.3.0 in rw f.3.2 (next_has g f.0 v ps [] f.1 f.2 f.3.1),
)
