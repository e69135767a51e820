-- The list of legal moves. Assumes nothing.
use Rattle.std.proofs.Common.{◌≡◌, ℕ, zero, suc, ◌+◌, ◌<◌, ◌≤◌, Bool, true, false, cond, not, ◌&&◌, eqb, ltb, List, [], ◌∷◌, ◌++◌, length, get_or, sym, refl, ap, ◌∙◌, inl, inr, arith}
use lib.Dec.{leb-suc-suc}
use Rattle.std.specs.List.{AllByRecursion}
use Rattle.std.proofs.ByRecursion.{All-append, All-weaker}
use Rattle.std.proofs.lemmas.Bool.{both_ways, eqb-true, eqb-false, eq-eqb, lt-ltb, le-ltb, and_parts, or_right, or_parts, cases_Bool, cond-true, cond-false}
use Rattle.std.proofs.lemmas.Bool.Decides.{nat_tests}
use Rattle.rules.specs.declared.Move.{Move}
use Rattle.rules.specs.Rules.{Position, Rule, Game, eval, turn, no_rule, rule_at, is_legal}
use Rattle.rules.specs.Play.{moves_by_second, moves_by_first, moves_by_rule, legal_moves, is_over}
use Rattle.laws.specs.Listing.{Member, same_move, times_in, ListedOnce, Before, Ascending, ListedInOrder, NoMoveIsOver, GoesOnByAMove}

same_itself : (v : Move) → same_move v v ≡ true
same_itself v = rw (eq-eqb v.rule v.rule refl, eq-eqb v.first v.first refl, eq-eqb v.second v.second refl)

same_is_equal : (v w : Move) → same_move v w ≡ true → v ≡ w
same_is_equal v w h =
    let a = and_parts (eqb v.rule w.rule) (eqb v.first w.first && eqb v.second w.second) h in
    let b = and_parts (eqb v.first w.first) (eqb v.second w.second) a.1 in
    λ i. record { rule = eqb-true _ _ a.0 i; first = eqb-true _ _ b.0 i; second = eqb-true _ _ b.1 i }

differs : (v w : Move) → (v ≡ w → ⊥) → same_move v w ≡ false
differs v w h = elim (cases_Bool (same_move v w)) [ inl e ↦ absurd (h (same_is_equal v w e)) | inr e ↦ e ]

times_append : (xs ys : List Move) (v : Move) → times_in (xs ++ ys) v ≡ times_in xs v + times_in ys v
unfolding times_in
times_append [] ys v = omega arith
times_append (x ∷ xs) ys v = omega (arith, times_append xs ys v)

-- a move that is like none of the list stands in it no time
times_none : (P : Move → Type 0) (v : Move) → ((w : Move) → P w → w ≡ v → ⊥) → (ws : List Move) → AllByRecursion P ws → times_in ws v ≡ 0
unfolding times_in
times_none P v f [] a = refl
times_none P v f (w ∷ ws) a = let e : same_move w v ≡ false = differs w v (f w a.0) in rw e (omega (arith, times_none P v f ws a.1))

-- what each lister lists, and nothing else
abbrev OfSecond : ℕ → ℕ → ℕ → Move → Type 0
OfSecond r x n v = (v.rule ≡ r) × (v.first ≡ x) × (v.second < n)

abbrev OfFirst : ℕ → ℕ → Move → Type 0
OfFirst r n v = (v.rule ≡ r) × (v.first < n)

abbrev FromRule : ℕ → Move → Type 0
FromRule r v = r ≤ v.rule

-- a list of one move or none
all_if : (P : Move → Type 0) (b : Bool) (v : Move) → P v → AllByRecursion P (cond b (v ∷ []) [])
all_if P true v h = (h, tt)
all_if P false v h = tt

module _ (g : Game) (p : Position) where
  all_of_second : (r x n : ℕ) → AllByRecursion (OfSecond r x n) (moves_by_second g p r x n)
  unfolding moves_by_second
  all_of_second r x zero = tt
  all_of_second r x (suc n) =
      let v : Move = record { rule = r; first = x; second = n } in
      All-append (OfSecond r x (suc n)) (moves_by_second g p r x n) (cond (is_legal g p v) (v ∷ []) [])
      (All-weaker (OfSecond r x n) (OfSecond r x (suc n)) (λ w h. omega arith) (moves_by_second g p r x n) (all_of_second r x n))
      (all_if (OfSecond r x (suc n)) (is_legal g p v) v (omega arith))

  all_of_first : (r x n : ℕ) → AllByRecursion (OfFirst r x) (moves_by_first g p r x n)
  unfolding moves_by_first
  all_of_first r zero n = tt
  all_of_first r (suc x) n =
      All-append (OfFirst r (suc x)) (moves_by_first g p r x n) (moves_by_second g p r x n)
      (All-weaker (OfFirst r x) (OfFirst r (suc x)) (λ w h. omega arith) (moves_by_first g p r x n) (all_of_first r x n))
      (All-weaker (OfSecond r x n) (OfFirst r (suc x)) (λ w h. omega arith) (moves_by_second g p r x n) (all_of_second r x n))

  all_from_rule : (r : ℕ) (us : List Rule) → AllByRecursion (FromRule r) (moves_by_rule g p r us)
  unfolding moves_by_rule
  all_from_rule r [] = tt
  all_from_rule r (u ∷ us) =
      All-append (FromRule r) (moves_by_first g p r u.first_bound u.second_bound) (moves_by_rule g p (suc r) us)
      (All-weaker (OfFirst r u.first_bound) (FromRule r) (λ w h. omega arith) _ (all_of_first r u.first_bound u.second_bound))
      (All-weaker (FromRule (suc r)) (FromRule r) (λ w h. omega arith) _ (all_from_rule (suc r) us))

-- The order.

-- two lists that ascend, the second after all of the first
joined_ascends : (P Q : Move → Type 0) → ((v w : Move) → P v → Q w → Before v w) → (vs ws : List Move) →
    AllByRecursion P vs → AllByRecursion Q ws → Ascending vs → Ascending ws → Ascending (vs ++ ws)
joined_ascends P Q f [] ws a b c d = d
joined_ascends P Q f (v ∷ vs) ws a b c d =
    (All-append (Before v) vs ws c.0 (All-weaker Q (Before v) (λ w h. f v w a.0 h) ws b), joined_ascends P Q f vs ws a.1 b c.1 d)

ascends_if : (b : Bool) (v : Move) → Ascending (cond b (v ∷ []) [])
ascends_if true v = (tt, tt)
ascends_if false v = tt

module _ (g : Game) (p : Position) where
  seconds_ascend : (r x n : ℕ) → Ascending (moves_by_second g p r x n)
  unfolding moves_by_second
  seconds_ascend r x zero = tt
  seconds_ascend r x (suc n) =
      let v : Move = record { rule = r; first = x; second = n } in
      joined_ascends (OfSecond r x n) (λ w. w ≡ v) (λ u w h e. rw e (inr (inr h))) (moves_by_second g p r x n) (cond (is_legal g p v) (v ∷ []) [])
      (all_of_second g p r x n) (all_if (λ w. w ≡ v) (is_legal g p v) v refl) (seconds_ascend r x n) (ascends_if (is_legal g p v) v)

  firsts_ascend : (r x n : ℕ) → Ascending (moves_by_first g p r x n)
  unfolding moves_by_first
  firsts_ascend r zero n = tt
  firsts_ascend r (suc x) n =
      joined_ascends (OfFirst r x) (OfSecond r x n) (λ u w h k. inr (inl (omega arith))) (moves_by_first g p r x n) (moves_by_second g p r x n)
      (all_of_first g p r x n) (all_of_second g p r x n) (firsts_ascend r x n) (seconds_ascend r x n)

  rules_ascend : (r : ℕ) (us : List Rule) → Ascending (moves_by_rule g p r us)
  unfolding moves_by_rule
  rules_ascend r [] = tt
  rules_ascend r (u ∷ us) =
      joined_ascends (OfFirst r u.first_bound) (FromRule (suc r)) (λ v w h k. inl (omega arith)) _ (moves_by_rule g p (suc r) us)
      (all_of_first g p r u.first_bound u.second_bound) (all_from_rule g p (suc r) us) (firsts_ascend r u.first_bound u.second_bound)
      (rules_ascend (suc r) us)

pub listed_in_order : ListedInOrder
unfolding legal_moves
listed_in_order g p = rules_ascend g p 0 g.rules

-- The count: a move stands only in the part of the list for its own numbers, and there once if it is legal.

times_alone : (b : Bool) (v : Move) → times_in (cond b (v ∷ []) []) v ≡ cond b 1 0
unfolding times_in
times_alone true v = rw (same_itself v)
times_alone false v = refl

-- a sum of which only the part at k is not 0
only_at : (total part : ℕ → ℕ) (k : ℕ) → total 0 ≡ 0 → ((i : ℕ) → total (suc i) ≡ total i + part i) → ((i : ℕ) → (i ≡ k → ⊥) → part i ≡ 0) → (n : ℕ) →
    total n ≡ cond (ltb k n) (part k) 0
only_at total part k start more others zero = start ∙ sym (cond-false (ltb k 0) (part k) 0 (le-ltb k 0 (omega arith)))
only_at total part k start more others (suc n) =
    let ih = only_at total part k start more others n in
    let now = more n in
    let other = others n in
    grind (arith, nat_tests)

module _ (g : Game) (p : Position) (v : Move) where
  times_second : (n : ℕ) → times_in (moves_by_second g p v.rule v.first n) v ≡ cond (ltb v.second n) (cond (is_legal g p v) 1 0) 0
  unfolding moves_by_second times_in
  times_second n =
      let at : ℕ → Move = λ y. record { rule = v.rule; first = v.first; second = y } in
      let part : ℕ → List Move = λ y. cond (is_legal g p (at y)) (at y ∷ []) [] in
      only_at (λ y. times_in (moves_by_second g p v.rule v.first y) v) (λ y. times_in (part y) v) v.second refl
      (λ y. times_append (moves_by_second g p v.rule v.first y) (part y) v)
      (λ y h. times_none (λ w. w.second ≡ y) v (λ w e same. h (sym e ∙ ap (λ m. m.second) same)) (part y) (all_if (λ w. w.second ≡ y) (is_legal g p (at y)) (at y) refl)) n
      ∙ ap (λ k. cond (ltb v.second n) k 0) (times_alone (is_legal g p v) v)

  times_first : (x n : ℕ) → times_in (moves_by_first g p v.rule x n) v ≡ cond (ltb v.first x) (times_in (moves_by_second g p v.rule v.first n) v) 0
  unfolding moves_by_first times_in
  times_first x n =
      only_at (λ i. times_in (moves_by_first g p v.rule i n) v) (λ i. times_in (moves_by_second g p v.rule i n) v) v.first refl
      (λ i. times_append (moves_by_first g p v.rule i n) (moves_by_second g p v.rule i n) v)
      (λ i h. times_none (OfSecond v.rule i n) v (λ w o same. h (sym o.1 ∙ ap (λ m. m.first) same)) (moves_by_second g p v.rule i n) (all_of_second g p v.rule i n)) x

  -- the first of the given rules has number r
  times_rule : (r i : ℕ) (us : List Rule) → v.rule ≡ r + i →
      times_in (moves_by_rule g p r us) v
      ≡ cond (ltb i (length us)) (times_in (moves_by_first g p v.rule (get_or us i no_rule).first_bound (get_or us i no_rule).second_bound) v) 0
  unfolding moves_by_rule times_in
  times_rule r i [] e = sym (cond-false (ltb i 0) _ 0 (le-ltb i 0 (omega arith)))
  times_rule r zero (u ∷ us) e =
      let here : v.rule ≡ r = omega arith in
      let later = times_none (FromRule (suc r)) v (λ w h same. omega (arith, ap (λ m. m.rule) same)) (moves_by_rule g p (suc r) us) (all_from_rule g p (suc r) us) in
      let t : ltb 0 (suc (length us)) ≡ true = lt-ltb 0 (suc (length us)) (omega arith) in
      let own = ap (λ k. times_in (moves_by_first g p k u.first_bound u.second_bound) v) here in
      rw t (times_append (moves_by_first g p r u.first_bound u.second_bound) (moves_by_rule g p (suc r) us) v ∙ omega (arith, later, own))
  times_rule r (suc i) (u ∷ us) e =
      let vs = moves_by_first g p r u.first_bound u.second_bound in
      let other = times_none (OfFirst r u.first_bound) v (λ w h same. omega (arith, ap (λ m. m.rule) same)) vs (all_of_first g p r u.first_bound u.second_bound) in
      let t : ltb (suc i) (suc (length us)) ≡ ltb i (length us) = leb-suc-suc (suc i) (length us) in
      rw t (times_append vs (moves_by_rule g p (suc r) us) v ∙ (omega (arith, other) ∙ times_rule (suc r) i us (omega arith)))

-- a legal move passes the tests on its numbers, so that to make them first changes nothing
all_tests : (a b c d : Bool) (n : ℕ) → cond a (cond b (cond c (cond (a && ((b && c) && d)) n 0) 0) 0) 0 ≡ cond (a && ((b && c) && d)) n 0
all_tests false b c d n = refl
all_tests true false c d n = refl
all_tests true true false d n = refl
all_tests true true true d n = refl

pub listed_once : ListedOnce
unfolding legal_moves is_legal
listed_once g p v =
    let u : Rule = rule_at g v.rule in
    times_rule g p v 0 v.rule g.rules (omega arith)
    ∙ (ap (λ k. cond (ltb v.rule (length g.rules)) k 0)
    (times_first g p v u.first_bound u.second_bound ∙ ap (λ k. cond (ltb v.first u.first_bound) k 0) (times_second g p v u.second_bound))
    ∙ all_tests (ltb v.rule (length g.rules)) (ltb v.first u.first_bound) (ltb v.second u.second_bound)
    (not (eqb (eval u.guard p v.first v.second (turn g p)) 0)) 1)

-- A move is a member of a list just where it is counted in it.

member_counts : (v : Move) (vs : List Move) → Member v vs → 1 ≤ times_in vs v
unfolding times_in
member_counts v [] h = absurd h
member_counts v (w ∷ ws) (inl e) = let t : same_move w v ≡ true = ap (λ m. same_move m v) (sym e) ∙ same_itself v in rw t (omega arith)
member_counts v (w ∷ ws) (inr h) = omega (arith, member_counts v ws h)

counts_member : (v : Move) (vs : List Move) → 1 ≤ times_in vs v → Member v vs
unfolding times_in
counts_member v [] h = absurd (omega arith)
counts_member v (w ∷ ws) h =
    elim (cases_Bool (same_move w v)) [
      | inl e ↦ inl (sym (same_is_equal w v e))
      | inr e ↦ let k : 1 ≤ 0 + times_in ws v = rw e at h in inr (counts_member v ws (omega arith))
    ]

pub listed_is_legal : (g : Game) (p : Position) (v : Move) → Member v (legal_moves g p) → is_legal g p v ≡ true
listed_is_legal g p v h =
    elim (cases_Bool (is_legal g p v)) [
      | inl e ↦ e
      | inr e ↦ absurd (omega (arith, member_counts v (legal_moves g p) h, listed_once g p v ∙ cond-false (is_legal g p v) 1 0 e))
    ]

pub legal_is_listed : (g : Game) (p : Position) (v : Move) → is_legal g p v ≡ true → Member v (legal_moves g p)
legal_is_listed g p v h = counts_member v (legal_moves g p) (omega (arith, listed_once g p v ∙ cond-true (is_legal g p v) 1 0 h))

first_is_legal : (g : Game) (p : Position) (v : Move) (vs : List Move) → legal_moves g p ≡ v ∷ vs → is_legal g p v ≡ true
first_is_legal g p v vs e = listed_is_legal g p v (rw e (inl refl))

pub no_move_is_over : NoMoveIsOver
unfolding is_over
no_move_is_over g p h = or_right _ _ (none (legal_moves g p) refl)
  where
    none : (vs : List Move) → legal_moves g p ≡ vs → eqb (length vs) 0 ≡ true
    none [] e = refl
    none (v ∷ vs) e = absurd (both_ways (is_legal g p v) (h v) (first_is_legal g p v vs e))

pub goes_on_by_a_move : GoesOnByAMove
unfolding is_over
goes_on_by_a_move g p h = some (legal_moves g p) refl
  where
    some : (vs : List Move) → legal_moves g p ≡ vs → (v : Move) × (is_legal g p v ≡ true)
    some [] e = absurd (eqb-false _ _ (or_parts _ _ h).1 (ap length e))
    some (v ∷ vs) e = (v, first_is_legal g p v vs e)
