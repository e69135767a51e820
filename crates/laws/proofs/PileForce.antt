-- Who can force a gain at the pile, and within how many moves: leave the other a multiple of 4.
use Rattle.std.proofs.Common.{◌≡◌, ℕ, zero, suc, ◌+◌, ◌-◌, ◌*◌, ◌/◌, ◌%◌, ◌<◌, ◌≤◌, Bool, true, false, cond, not, ◌&&◌, ◌||◌, eqb, leb, sym, refl, ◌∙◌, arith}
use Rattle.std.proofs.lemmas.Bool.{le-leb, eq-eqb, ne_eqb}
use Rattle.std.proofs.lemmas.Bool.Decides.{nat_tests}
use Rattle.rules.specs.Rules.{turn, apply}
use Rattle.rules.specs.Force.{after_some, after_every, can_force}
use Rattle.laws.specs.Pile.{pile, taking, PileSolved}
use Rattle.laws.proofs.Pile.{left, takes, pile_apply, pile_moves, pile_over, pile_payoff}

-- whether a gain of 1 can be forced within d moves with n in the pile: by the one who is to move (true), or by the other (false).
-- From 4 q on, two moves each take 4
unfoldable pub wins : Bool → ℕ → ℕ → Bool
wins true d n = not (eqb (n % 4) 0) && leb (2 * (n / 4) + 1) d
wins false d n = eqb (n % 4) 0 && leb (2 * (n / 4)) d

none_left : (b : Bool) (d : ℕ) → leb 1 (cond b 0 1) ≡ wins b d 0
unfolding wins
none_left true d = refl
none_left false d = sym (le-leb 0 d (omega arith))

no_moves : (b : Bool) (n : ℕ) → (eqb n 0 && leb 1 (cond b 0 1)) ≡ wins b 0 n
unfolding wins
no_moves true n = grind (arith, nat_tests)
no_moves false n = grind (arith, nat_tests)

-- what can be forced after a move, with one, two, and three or more left
one_left : (b : Bool) (d : ℕ) → cond b (wins (not b) d 0 || false) (wins (not b) d 0 && true) ≡ wins b (suc d) 1
unfolding wins
one_left true d = grind (arith, nat_tests)
one_left false d = grind (arith, nat_tests)

two_left :
    (b : Bool) (d : ℕ)
    → cond b (wins (not b) d 1 || (wins (not b) d 0 || false)) (wins (not b) d 1 && (wins (not b) d 0 && true)) ≡ wins b (suc d) 2
unfolding wins
two_left true d = grind (arith, nat_tests)
two_left false d = grind (arith, nat_tests)

more_left :
    (b : Bool) (d n : ℕ) → 3 ≤ n
    → cond b (wins (not b) d (n - 1) || (wins (not b) d (n - 2) || (wins (not b) d (n - 3) || false)))
    (wins (not b) d (n - 1) && (wins (not b) d (n - 2) && (wins (not b) d (n - 3) && true)))
    ≡ wins b (suc d) n
unfolding wins
more_left true d n h = grind (arith, nat_tests)
more_left false d n h = grind (arith, nat_tests)

pile_turn : (k t n m : ℕ) → t < 2 → eqb (turn (pile k) (left t n)) m ≡ eqb m t
unfolding pile
pile_turn k t n m h = let e : t % 2 ≡ t = omega arith in rw e (grind (arith, nat_tests))

-- one step of the search, with the pile's rules put in
searched :
    (k m d t n : ℕ) → t < 2 → n < 65535
    → can_force (pile k) m 1 (suc d) (left t n)
    ≡ cond (eqb n 0) (leb 1 (cond (eqb m t) 0 1))
    (cond (eqb m t) (after_some (can_force (pile k) m 1 d) (pile k) (left t n) (takes n))
    (after_every (can_force (pile k) m 1 d) (pile k) (left t n) (takes n)))
unfolding can_force
searched k m d t n two small =
    rw (pile_over k t n small, pile_payoff k t n m two, pile_turn k t n m two, pile_moves k t n small)

-- `wins` says what player m can force within d moves
abbrev pub Solved : ℕ → ℕ → ℕ → Type 0
Solved k m d = (t n : ℕ) → t < 2 → n < 65535 → can_force (pile k) m 1 d (left t n) ≡ wins (eqb m t) d n

-- what can be forced after j were taken
taken :
    (k m d t n j : ℕ) → m < 2 → t < 2 → n < 65535 → Solved k m d
    → can_force (pile k) m 1 d (apply (pile k) (left t n) (taking j)) ≡ wins (not (eqb m t)) d (n - j)
taken k m d t n j player two small solved =
    let e : eqb m (1 - t) ≡ not (eqb m t) = grind (arith, nat_tests) in
    rw (pile_apply k t n (taking j) refl, solved (1 - t) (n - j) (omega arith) (omega arith), e)

one_more : (k m d : ℕ) → m < 2 → Solved k m d → Solved k m (suc d)
unfolding after_some after_every
one_more k m d player solved t zero two small = searched k m d t 0 two small ∙ none_left (eqb m t) (suc d)
one_more k m d player solved t (suc zero) two small =
    searched k m d t 1 two small ∙ rw (taken k m d t 1 1 player two small solved) (one_left (eqb m t) d)
one_more k m d player solved t (suc (suc zero)) two small =
    searched k m d t 2 two small
    ∙ rw (taken k m d t 2 1 player two small solved, taken k m d t 2 2 player two small solved) (two_left (eqb m t) d)
one_more k m d player solved t (suc (suc (suc n))) two small =
    let l : ℕ = suc (suc (suc n)) in
    let e : eqb l 0 ≡ false = ne_eqb l 0 (omega arith) in
    let after : (j : ℕ) → can_force (pile k) m 1 d (apply (pile k) (left t l) (taking j)) ≡ wins (not (eqb m t)) d (l - j) =
    λ j. taken k m d t l j player two small solved in
    searched k m d t l two small ∙ rw (e, after 1, after 2, after 3) (more_left (eqb m t) d l (omega arith))

pub pile_force : (k m d : ℕ) → m < 2 → Solved k m d
unfolding can_force
pile_force k m zero player = λ t n two small. rw (pile_over k t n small, pile_payoff k t n m two) (no_moves (eqb m t) n)
pile_force k m (suc d) player = one_more k m d player (pile_force k m d player)

pub pile_solved : PileSolved
unfolding wins
pile_solved = record {
  won = λ k t n two small some. pile_force k t n two t n two small ∙ rw (eq-eqb t t refl) (grind (arith, nat_tests));
  lost = λ k t n d two small four. pile_force k t d two t n two small ∙ rw (eq-eqb t t refl) (grind (arith, nat_tests));
}
