-- The rules of the pile, evaluated once for every pile: when a move is legal, what it does, when the game is over, and what is gained.
use Rattle.std.proofs.Common.{◌≡◌, ℕ, zero, suc, ◌+◌, ◌-◌, ◌*◌, ◌%◌, ◌<◌, ◌≤◌, Bool, true, false, cond, not, ◌&&◌, ◌||◌, eqb, ltb, leb, List, [], ◌∷◌, ◌++◌, map, length, sym, refl, ap, ◌∙◌, inl, inr, arith}
use Rattle.std.proofs.lemmas.Bool.{lt-ltb, le-ltb, le-leb, eq-eqb, ne_eqb, cases_eq}
use Rattle.std.proofs.lemmas.Bool.Decides.{nat_tests}
use Rattle.rules.specs.declared.Move.{Move}
use Rattle.rules.specs.Rules.{Position, capped, eval, apply_effects, is_legal, apply}
use Rattle.rules.specs.Play.{moves_by_second, moves_by_first, moves_by_rule, legal_moves, is_over, payoff}
use Rattle.laws.specs.Forcing.{EndsIn}
use Rattle.laws.specs.Pile.{pile, taking, PileEndsInTime}

-- player t is to move, and n lie in the pile
abbrev pub left : ℕ → ℕ → Position
left t n = t ∷ n ∷ []

-- a number below 65,536 is not capped
capped_is : (n : ℕ) → n < 65536 → capped n ≡ n
capped_is n h = ap (λ b. cond b n 65535) (lt-ltb n 65536 h)

-- a move takes 1, 2 or 3, and no more than there are, by rule 0 and with second number 0
abbrev pub may_take : ℕ → Move → Bool
may_take n v = (eqb v.rule 0 && eqb v.second 0) && ((leb 1 v.first && leb v.first 3) && leb v.first n)

-- the guard is a product of two tests
both_tests : (a b : Bool) → not (eqb (capped (cond a 1 0 * cond b 1 0)) 0) ≡ (a && b)
both_tests true true = refl
both_tests true false = refl
both_tests false true = refl
both_tests false false = refl

-- the same tests, in the order and the form in which the rules have them
in_order :
    (r x y n : ℕ)
    → (ltb r 1 && ((ltb x 4 && ltb y 1) && (ltb 0 x && ltb x (n + 1)))) ≡ ((eqb r 0 && eqb y 0) && ((leb 1 x && leb x 3) && leb x n))
in_order r x y n = grind (arith, nat_tests)

pub pile_legal : (k t n : ℕ) (v : Move) → n < 65535 → is_legal (pile k) (left t n) v ≡ may_take n v
unfolding is_legal eval pile
pile_legal k t n v h = by_rule v.rule ∙ in_order v.rule x y n
  where
    x : ℕ
    x = v.first

    y : ℕ
    y = v.second

    by_rule :
        (r : ℕ)
        → is_legal (pile k) (left t n) (record { rule = r; first = x; second = y })
        ≡ (ltb r 1 && ((ltb x 4 && ltb y 1) && (ltb 0 x && ltb x (n + 1))))
    by_rule zero =
        ap (λ b. (ltb x 4 && ltb y 1) && b)
        (both_tests (ltb 0 x) (ltb x (capped (n + 1))) ∙ ap (λ c. ltb 0 x && ltb x c) (capped_is (n + 1) (omega arith)))
    by_rule (suc r) = let e : ltb (suc r) 1 ≡ false = le-ltb (suc r) 1 (omega arith) in rw e

-- a move takes from the pile, and then the other is to move
pub pile_apply : (k t n : ℕ) (v : Move) → v.rule ≡ 0 → apply (pile k) (left t n) v ≡ left (1 - t) (n - v.first)
unfolding apply apply_effects eval pile
pile_apply k t n v h = ap (λ r. apply (pile k) (left t n) (record { rule = r; first = v.first; second = v.second })) h

-- how many can be taken of n
abbrev pub sizes : ℕ → List ℕ
sizes zero = []
sizes (suc zero) = 1 ∷ []
sizes (suc (suc zero)) = 1 ∷ 2 ∷ []
sizes (suc (suc (suc n))) = 1 ∷ 2 ∷ 3 ∷ []

-- the legal moves
abbrev pub takes : ℕ → List Move
takes n = map taking (sizes n)

-- the same with each test's outcome given
abbrev those : Bool → Bool → Bool → List Move
those a b c = cond a (taking 1 ∷ []) [] ++ cond b (taking 2 ∷ []) [] ++ cond c (taking 3 ∷ []) [] ++ []

those_are :
    (k t n : ℕ) (a b c : Bool) → n < 65535 → leb 1 n ≡ a → leb 2 n ≡ b → leb 3 n ≡ c → legal_moves (pile k) (left t n) ≡ those a b c
unfolding legal_moves moves_by_rule moves_by_first moves_by_second pile
those_are k t n a b c h ea eb ec =
    let legal : (j : ℕ) → is_legal (pile k) (left t n) (taking j) ≡ may_take n (taking j) = λ j. pile_legal k t n (taking j) h in
    rw (legal 0, legal 1, legal 2, legal 3, ea, eb, ec)

pub pile_moves : (k t n : ℕ) → n < 65535 → legal_moves (pile k) (left t n) ≡ takes n
pile_moves k t zero h = those_are k t 0 false false false h refl refl refl
pile_moves k t (suc zero) h = those_are k t 1 true false false h refl refl refl
pile_moves k t (suc (suc zero)) h = those_are k t 2 true true false h refl refl refl
pile_moves k t (suc (suc (suc n))) h =
    let m : ℕ = suc (suc (suc n)) in
    those_are k t m true true true h (le-leb 1 m (omega arith)) (le-leb 2 m (omega arith)) (le-leb 3 m (omega arith))

-- the game is over when the pile is empty
pub pile_over : (k t n : ℕ) → n < 65535 → is_over (pile k) (left t n) ≡ eqb n 0
unfolding is_over eval pile
pile_over k t n h = ap (λ vs. not (eqb (cond (eqb n 0) 1 0) 0) || eqb (length vs) 0) (pile_moves k t n h) ∙ tests n
  where
    tests : (n : ℕ) → (not (eqb (cond (eqb n 0) 1 0) 0) || eqb (length (takes n)) 0) ≡ eqb n 0
    tests zero = refl
    tests (suc zero) = refl
    tests (suc (suc zero)) = refl
    tests (suc (suc (suc n))) = let e : eqb (suc (suc (suc n))) 0 ≡ false = ne_eqb _ _ (omega arith) in rw e

-- who is to move at the end has gained nothing, the other 1
pub pile_payoff : (k t n m : ℕ) → t < 2 → payoff (pile k) (left t n) m ≡ cond (eqb m t) 0 1
unfolding payoff eval pile
pile_payoff k t n m h = let e : t % 2 ≡ t = omega arith in rw e (flipped (eqb m t))
  where
    flipped : (b : Bool) → cond {A = ℕ} (eqb (cond b 1 0) 0) 1 0 ≡ cond b 0 1
    flipped true = refl
    flipped false = refl

-- what a legal move is
takes_some : (n : ℕ) (v : Move) → may_take n v ≡ true → (v.rule ≡ 0) × (1 ≤ v.first) × (v.first ≤ n)
takes_some n v h = grind (arith, nat_tests)

one_of_two : (t : ℕ) → t < 2 → cond (eqb 0 t) 0 1 + cond (eqb 1 t) 0 1 ≡ 1
one_of_two t h = grind (arith, nat_tests)

ended :
    (k t n : ℕ) → n ≡ 0 → t < 2
    → (is_over (pile k) (left t n) ≡ true) × (payoff (pile k) (left t n) 0 + payoff (pile k) (left t n) 1 ≡ 1)
ended k t n e two =
    (pile_over k t n (omega arith) ∙ eq-eqb n 0 e, rw (pile_payoff k t n 0 two, pile_payoff k t n 1 two) (one_of_two t two))

-- a pile of at most d is empty within d moves, and then one of the two has gained 1: each move takes at least one
pub pile_ends : (k d t n : ℕ) → n ≤ d → n < 65535 → t < 2 → EndsIn (pile k) 1 d (left t n)
unfolding EndsIn
pile_ends k zero t n le small two = ended k t n (omega arith) two
pile_ends k (suc d) t n le small two =
    elim (cases_eq n 0) [
      | inl e ↦ inl (ended k t n e two)
      | inr ne ↦ inr (
        pile_over k t n small ∙ ne_eqb n 0 ne,
        λ v legal.
            let (rule, some, most) = takes_some n v (sym (pile_legal k t n v small) ∙ legal) in
            rw (pile_apply k t n v rule) (pile_ends k d (1 - t) (n - v.first) (omega arith) (omega arith) (omega arith)),
      )
    ]

pub pile_ends_in_time : PileEndsInTime
pile_ends_in_time = pile_ends 5 5 0 5 (omega arith) (omega arith) (omega arith)
