-- When a move is legal and what it makes, when a game is over, and what is gained.
use Rattle.std.proofs.Common.{◌≡◌, ℕ, suc, Bool, true, not, ◌&&◌, eqb, ltb, ◌≢◌, List, [], ◌∷◌, ◌++◌, length, get_or, refl, ap, ◌∙◌, inl, inr, ⊎_elim, arith}
use Rattle.std.proofs.lemmas.Bool.{cases_Bool, ltb-true, lt-ltb, eqb-true, eqb-false, ne_eqb, and_parts, and_from, or_cases, or_left, not-true, not_from_false}
use Rattle.rules.specs.declared.Move.{Move}
use Rattle.rules.specs.Rules.{Rule, eval, turn, no_rule, rule_at, is_legal, apply}
use Rattle.rules.specs.Play.{legal_moves, is_over, payoff}
use Rattle.laws.specs.Listing.{Member}
use Rattle.laws.specs.Legal.{RulesByTheirPlace, LegalJustIf, MadeByItsEffects, OverJustIf, GainedByEach}
use Rattle.laws.proofs.Listing.{legal_is_listed, no_move_is_over}

stands_there : (rs us : List Rule) (u : Rule) → get_or (rs ++ (u ∷ us)) (length rs) no_rule ≡ u
stands_there [] us u = refl
stands_there (r ∷ rs) us u = stands_there rs us u

pub rules_by_their_place : RulesByTheirPlace
rules_by_their_place g rs us u e = ap (λ xs. get_or xs (length rs) no_rule) e ∙ stands_there rs us u

-- a test that something is not 0
is_not_0 : (n : ℕ) → not (eqb n 0) ≡ true → n ≢ 0
is_not_0 n h = eqb-false n 0 (not-true (eqb n 0) h)

not_0_is : (n : ℕ) → n ≢ 0 → not (eqb n 0) ≡ true
not_0_is n h = not_from_false (eqb n 0) (ne_eqb n 0 h)

pub legal_just_if : LegalJustIf
unfolding is_legal
legal_just_if g p v =
    let u : Rule = rule_at g v.rule in
    let value : ℕ = eval u.guard p v.first v.second (turn g p) in (
      λ h.
          let a = and_parts (ltb v.rule (length g.rules)) _ h in
          let b = and_parts (ltb v.first u.first_bound && ltb v.second u.second_bound) (not (eqb value 0)) a.1 in
          let c = and_parts (ltb v.first u.first_bound) (ltb v.second u.second_bound) b.0 in
          record { rule = ltb-true _ _ a.0; first = ltb-true _ _ c.0; second = ltb-true _ _ c.1; guard = is_not_0 value b.1 },
      λ h.
          and_from _ _ (lt-ltb _ _ h.rule)
          (and_from _ _ (and_from _ _ (lt-ltb _ _ h.first) (lt-ltb _ _ h.second)) (not_0_is value h.guard)),
    )

pub made_by_its_effects : MadeByItsEffects
unfolding apply
made_by_its_effects g p v = refl

-- nothing stands in a list of length 0
none_among : (v : Move) (vs : List Move) → eqb (length vs) 0 ≡ true → Member v vs → ⊥
none_among v [] e a = a
none_among v (w ∷ ws) e a = omega (arith, eqb-true (suc (length ws)) 0 e)

pub over_just_if : OverJustIf
unfolding is_over
over_just_if g p =
    let said : ℕ = eval g.terminal p 0 0 (turn g p) in
    let none : Bool = eqb (length (legal_moves g p)) 0 in (
      λ h.
          ⊎_elim (λ e. inl (is_not_0 said e))
          (λ e. inr (λ v. ⊎_elim (λ legal. absurd (none_among v (legal_moves g p) e (legal_is_listed g p v legal))) (λ not_so. not_so) (cases_Bool (is_legal g p v))))
          (or_cases (not (eqb said 0)) none h),
      ⊎_elim (λ says. or_left (not (eqb said 0)) none (not_0_is said says)) (no_move_is_over g p),
    )

pub gained_by_each : GainedByEach
unfolding payoff
gained_by_each g p m = refl
