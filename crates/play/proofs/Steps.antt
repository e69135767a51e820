-- The legal moves from a given one on, step by step.
use Rattle.std.proofs.Common.{◌≡◌, ℕ, zero, suc, ◌+◌, ◌-◌, ◌<◌, ◌≤◌, false, [], ◌++◌, length, drop, sym, refl, ap, ◌∙◌, inl, inr, append_assoc, append-nil, arith}
use Rattle.std.proofs.lemmas.List.{get_or_past, drop_all, drop_more}
use Rattle.std.proofs.lemmas.Bool.{cases_lt}
use Rattle.std.proofs.lemmas.Bool.Decides.{nat_tests}
use Rattle.rules.specs.declared.Move.{Move}
use Rattle.rules.specs.Rules.{Position, Game, no_rule, rule_at, is_legal}
use Rattle.rules.specs.Play.{moves_by_second, moves_by_first, moves_by_rule, legal_moves}
use Rattle.play.specs.Cursor.{move, if_legal, next_seconds, seconds_from, next_firsts, firsts_from, rules_from, moves_from, StartsWithAll}

module _ (g : Game) (p : Position) (r : ℕ) where
  -- one second number more, and none
  pub second_more : (x y : ℕ) → y < (rule_at g r).second_bound → seconds_from g p r x y ≡ if_legal g p (move r x y) ++ seconds_from g p r x (y + 1)
  unfolding seconds_from next_seconds
  second_more x y h =
      let e : (rule_at g r).second_bound - y ≡ suc ((rule_at g r).second_bound - (y + 1)) = omega arith in
      rw e refl

  pub second_none : (x y : ℕ) → (rule_at g r).second_bound ≤ y → seconds_from g p r x y ≡ []
  unfolding seconds_from next_seconds
  second_none x y h = let e : (rule_at g r).second_bound - y ≡ 0 = omega arith in rw e refl

  -- one first number more, and none
  pub first_more : (x : ℕ) → x < (rule_at g r).first_bound → firsts_from g p r x ≡ seconds_from g p r x 0 ++ firsts_from g p r (x + 1)
  unfolding firsts_from next_firsts
  first_more x h =
      let e : (rule_at g r).first_bound - x ≡ suc ((rule_at g r).first_bound - (x + 1)) = omega arith in
      rw e refl

  pub first_none : (x : ℕ) → (rule_at g r).first_bound ≤ x → firsts_from g p r x ≡ []
  unfolding firsts_from next_firsts
  first_none x h = let e : (rule_at g r).first_bound - x ≡ 0 = omega arith in rw e refl

  -- with a first number past the bound no move is legal
  past_first : (x y n : ℕ) → (rule_at g r).first_bound ≤ x → next_seconds g p r x y n ≡ []
  unfolding next_seconds is_legal
  past_first x y zero h = refl
  past_first x y (suc n) h =
      let e : is_legal g p (move r x y) ≡ false = grind (arith, nat_tests) in
      rw e (past_first x (y + 1) n h)

  pub second_past : (x y : ℕ) → (rule_at g r).first_bound ≤ x → seconds_from g p r x y ≡ []
  unfolding seconds_from
  second_past x y h = past_first x y ((rule_at g r).second_bound - y) h

  -- the moves with the second numbers below y, and then those from y on, and likewise for the first numbers
  seconds_join : (x y n k : ℕ) → y + n ≡ k → moves_by_second g p r x y ++ next_seconds g p r x y n ≡ moves_by_second g p r x k
  unfolding next_seconds moves_by_second
  seconds_join x y zero k h = let e : y ≡ k = omega arith in append-nil (moves_by_second g p r x y) ∙ ap (moves_by_second g p r x) e
  seconds_join x y (suc n) k h =
      let e : y + 1 ≡ suc y = omega arith in
      sym (append_assoc (moves_by_second g p r x y) (if_legal g p (move r x y)) (next_seconds g p r x (y + 1) n))
      ∙ ap (λ j. moves_by_second g p r x (suc y) ++ next_seconds g p r x j n) e
      ∙ seconds_join x (suc y) n k (omega arith)

  seconds_all : (x : ℕ) → seconds_from g p r x 0 ≡ moves_by_second g p r x (rule_at g r).second_bound
  unfolding seconds_from moves_by_second
  seconds_all x = seconds_join x 0 ((rule_at g r).second_bound - 0) (rule_at g r).second_bound (omega arith)

  firsts_join : (x n k : ℕ) → x + n ≡ k
      → moves_by_first g p r x (rule_at g r).second_bound ++ next_firsts g p r x n ≡ moves_by_first g p r k (rule_at g r).second_bound
  unfolding next_firsts moves_by_first
  firsts_join x zero k h =
      let b : ℕ = (rule_at g r).second_bound in
      let e : x ≡ k = omega arith in
      append-nil (moves_by_first g p r x b) ∙ ap (λ j. moves_by_first g p r j b) e
  firsts_join x (suc n) k h =
      let b : ℕ = (rule_at g r).second_bound in
      let e : x + 1 ≡ suc x = omega arith in
      ap (λ vs. moves_by_first g p r x b ++ (vs ++ next_firsts g p r (x + 1) n)) (seconds_all x)
      ∙ sym (append_assoc (moves_by_first g p r x b) (moves_by_second g p r x b) (next_firsts g p r (x + 1) n))
      ∙ ap (λ j. moves_by_first g p r (suc x) b ++ next_firsts g p r j n) e
      ∙ firsts_join (suc x) n k (omega arith)

  firsts_all : firsts_from g p r 0 ≡ moves_by_first g p r (rule_at g r).first_bound (rule_at g r).second_bound
  unfolding firsts_from moves_by_first
  firsts_all = firsts_join 0 ((rule_at g r).first_bound - 0) (rule_at g r).first_bound (omega arith)

  -- one rule more, and none
  pub rule_more : r < length g.rules → rules_from g p r ≡ firsts_from g p r 0 ++ rules_from g p (r + 1)
  unfolding rules_from moves_by_rule
  rule_more h =
      let e : suc r ≡ r + 1 = omega arith in
      ap (moves_by_rule g p r) (drop_more g.rules r no_rule h)
      ∙ ap (λ vs. vs ++ moves_by_rule g p (suc r) (drop (r + 1) g.rules)) (sym firsts_all)
      ∙ ap (λ k. firsts_from g p r 0 ++ moves_by_rule g p k (drop (r + 1) g.rules)) e

  pub rule_none : length g.rules ≤ r → rules_from g p r ≡ []
  unfolding rules_from moves_by_rule
  rule_none h = ap (moves_by_rule g p r) (drop_all r g.rules h)

module _ (g : Game) (p : Position) (v : Move) where
  -- from a rule on that is not there
  pub from_past_rule : length g.rules ≤ v.rule → moves_from g p v ≡ []
  unfolding moves_from
  from_past_rule h =
      let e : rule_at g v.rule ≡ no_rule = get_or_past g.rules v.rule no_rule h in
      let a : (rule_at g v.rule).first_bound ≡ 0 = ap (λ u. u.first_bound) e in
      rw (second_past g p v.rule v.first v.second (omega arith), first_none g p v.rule (v.first + 1) (omega arith), rule_none g p (v.rule + 1) (omega arith)) refl

  -- from a first number on that is past the bound
  pub from_past_first : (rule_at g v.rule).first_bound ≤ v.first → moves_from g p v ≡ rules_from g p (v.rule + 1)
  unfolding moves_from
  from_past_first h = rw (second_past g p v.rule v.first v.second h, first_none g p v.rule (v.first + 1) (omega arith)) refl

-- from the first second number on
pub from_first : (g : Game) (p : Position) (r x : ℕ) → x < (rule_at g r).first_bound → moves_from g p (move r x 0) ≡ firsts_from g p r x ++ rules_from g p (r + 1)
unfolding moves_from
from_first g p r x h =
    sym (append_assoc (seconds_from g p r x 0) (firsts_from g p r (x + 1)) (rules_from g p (r + 1)))
    ∙ ap (λ vs. vs ++ rules_from g p (r + 1)) (sym (first_more g p r x h))

-- from the first move on
start_there : (g : Game) (p : Position) → 0 < length g.rules → moves_from g p (move 0 0 0) ≡ rules_from g p 0
start_there g p h =
    elim (cases_lt 0 (rule_at g 0).first_bound) [
      | inl k ↦ from_first g p 0 0 k ∙ sym (rule_more g p 0 h)
      | inr k ↦ from_past_first g p (move 0 0 0) k ∙ sym (rule_more g p 0 h ∙ ap (λ vs. vs ++ rules_from g p 1) (first_none g p 0 0 k))
    ]

pub of_all_rules : (g : Game) (p : Position) → rules_from g p 0 ≡ legal_moves g p
unfolding rules_from legal_moves
of_all_rules g p = refl

pub starts_with_all : StartsWithAll
unfolding legal_moves rules_from
starts_with_all g p =
    elim (cases_lt 0 (length g.rules)) [
      | inl h ↦ start_there g p h
      | inr h ↦ from_past_rule g p (move 0 0 0) h ∙ sym (rule_none g p 0 h)
    ]
