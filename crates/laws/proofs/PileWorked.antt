-- What a server answers about a pile of 5: the pile's rules, evaluated for every pile, at this one.
use Rattle.std.proofs.Common.{◌≡◌, ℕ, ◌-◌, ◌<◌, ◌≤◌, true, false, cond, not, eqb, ltb, List, [], ◌∷◌, map, replicate, refl, ap, ◌∙◌, arith}
use Rattle.std.proofs.lemmas.Bool.{ltb-true, lt-ltb, le-leb, and_parts}
use Rattle.rules.specs.declared.Limits.{Limits}
use Rattle.rules.specs.Rules.{Position}
use Rattle.rules.specs.Play.{is_over, legal_moves}
use Rattle.rules.specs.Bounds.{all_below}
use Rattle.rules.specs.Force.{same_position, is_among, add_once, add_after, next_layer, layer_total, can_force}
use Rattle.rules.specs.Calls.{State, call_number, good_fields, refusal_of, refusal, refusal_place, next, step, reply, answer}
use Rattle.laws.specs.Pile.{pile, taking, with_5, AnswersAt5, PileWorked}
use Rattle.laws.proofs.Pile.{left, sizes, pile_legal, pile_apply, pile_moves, pile_over}
use Rattle.laws.proofs.PileForce.{wins, pile_force}

-- what a table holds that was just opened
abbrev seated : ℕ → State
seated n = record {
  game = pile 5;
  tables = record { cells = left 0 5; played = []; clocked = not (eqb n 0); clocks = replicate 2 n; timed_out = false } ∷ [];
}

opened_at_5 : (l : Limits) (n : ℕ) → 1 ≤ l.tables → n < 4294967296 → with_5 l n ≡ seated n
unfolding step refusal refusal_of call_number good_fields next pile
opened_at_5 l n room ticks = rw (lt-ltb n 4294967296 ticks, lt-ltb 0 l.tables room)

-- what a move leads to from a layer of piles, at which player t is to move, in numbers
add_takes : ℕ → ℕ → List ℕ → List Position → List Position
add_takes t n [] qs = qs
add_takes t n (j ∷ js) qs = add_takes t n js (add_once (left (1 - t) (n - j)) qs)

next_piles : ℕ → List ℕ → List Position → List Position
next_piles t [] qs = qs
next_piles t (n ∷ ns) qs = next_piles t ns (cond (eqb n 0) qs (add_takes t n (sizes n) qs))

takes_added :
    (k t n : ℕ) (js : List ℕ) (qs : List Position) → add_after (pile k) (left t n) (map taking js) qs ≡ add_takes t n js qs
unfolding add_after add_takes
takes_added k t n [] qs = refl
takes_added k t n (j ∷ js) qs =
    ap (λ p. add_after (pile k) (left t n) (map taking js) (add_once p qs)) (pile_apply k t n (taking j) refl)
    ∙ takes_added k t n js (add_once (left (1 - t) (n - j)) qs)

pile_added :
    (k t n : ℕ) (qs : List Position) → n < 65535
    → cond (is_over (pile k) (left t n)) qs (add_after (pile k) (left t n) (legal_moves (pile k) (left t n)) qs)
    ≡ cond (eqb n 0) qs (add_takes t n (sizes n) qs)
pile_added k t n qs h = rw (pile_over k t n h, pile_moves k t n h, takes_added k t n (sizes n) qs)

layer_is :
    (k t : ℕ) (ns : List ℕ) (qs : List Position) → all_below 65535 ns ≡ true → next_layer (pile k) (map (left t) ns) qs ≡ next_piles t ns qs
unfolding next_layer next_piles all_below
layer_is k t [] qs small = refl
layer_is k t (n ∷ ns) qs small =
    let parts = and_parts (ltb n 65535) (all_below 65535 ns) small in
    let h : n < 65535 = ltb-true n 65535 parts.0 in
    ap (next_layer (pile k) (map (left t) ns)) (pile_added k t n qs h)
    ∙ layer_is k t ns (cond (eqb n 0) qs (add_takes t n (sizes n) qs)) parts.1

-- the layers of a pile of 5
layer_1 : next_layer (pile 5) (left 0 5 ∷ []) [] ≡ left 1 4 ∷ left 1 3 ∷ left 1 2 ∷ []
unfolding next_piles add_takes is_among same_position all_below
layer_1 = layer_is 5 0 (5 ∷ []) [] refl

layer_2 : next_layer (pile 5) (left 1 4 ∷ left 1 3 ∷ left 1 2 ∷ []) [] ≡ left 0 3 ∷ left 0 2 ∷ left 0 1 ∷ left 0 0 ∷ []
unfolding next_piles add_takes is_among same_position all_below
layer_2 = layer_is 5 1 (4 ∷ 3 ∷ 2 ∷ []) [] refl

layer_3 : next_layer (pile 5) (left 0 3 ∷ left 0 2 ∷ left 0 1 ∷ left 0 0 ∷ []) [] ≡ left 1 2 ∷ left 1 1 ∷ left 1 0 ∷ []
unfolding next_piles add_takes is_among same_position all_below
layer_3 = layer_is 5 0 (3 ∷ 2 ∷ 1 ∷ 0 ∷ []) [] refl

total_3 : layer_total (pile 5) 3 (left 0 5 ∷ []) ≡ 11
unfolding layer_total
total_3 = rw (layer_1, layer_2, layer_3)

total_2 : layer_total (pile 5) 2 (left 0 5 ∷ []) ≡ 8
unfolding layer_total
total_2 = rw (layer_1, layer_2)

-- the five answers
at_5 : (l : Limits) (n : ℕ) → 11 ≤ l.positions → with_5 l n ≡ seated n → AnswersAt5 l n
unfolding answer reply refusal refusal_of refusal_place call_number good_fields pile wins
at_5 l n room e =
    let h : 5 < 65535 = omega arith in
    let over : is_over (pile 5) (left 0 5) ≡ false = pile_over 5 0 5 h in
    let in-3 : can_force (pile 5) 0 1 3 (left 0 5) ≡ true = pile_force 5 0 3 (omega arith) 0 5 (omega arith) h in
    let in-2 : can_force (pile 5) 0 1 2 (left 0 5) ≡ false = pile_force 5 0 2 (omega arith) 0 5 (omega arith) h in
    record {
      may = rw (e, over, pile_moves 5 0 5 h);
      forced_in_3 = rw (e, total_3, le-leb 11 l.positions room, in-3);
      not_in_2 = rw (e, total_2, le-leb 8 l.positions (omega arith), in-2);
      not_their_turn = rw (e, over);
      not_legal = rw (e, over, pile_legal 5 0 5 (taking 0) h);
    }

pub pile_worked : PileWorked
pile_worked l n tables positions ticks = at_5 l n positions (opened_at_5 l n tables ticks)
