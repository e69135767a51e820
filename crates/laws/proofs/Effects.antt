-- The laws of evaluating and of effects.
use Rattle.std.proofs.Common.{◌≡◌, ℕ, zero, suc, ◌+◌, ◌*◌, ◌/◌, ◌%◌, ◌<◌, ◌≤◌, Bool, true, false, cond, eqb, ltb, List, [], ◌∷◌, ◌++◌, length, get_or, set, refl, ap, ◌∙◌, div-le_self, arith, length-set, get_or-set_other, get_or-set_same}
use native.Mathlib.Nat.{mod-le}
use Rattle.std.proofs.lemmas.List.{get_or_past, set_past}
use Rattle.std.proofs.lemmas.Bool.{ltb-true, lt-ltb, and_parts, and_from, cond_both}
use Rattle.rules.specs.declared.Move.{Move}
use Rattle.rules.specs.Rules.{Position, Expr, Num, Cell, First, Second, Me, Add, Sub, Mul, Div, Rem, Lt, Eq, If, Effect, Game, capped, quotient, remainder, eval, turn, rule_at, apply_effects, apply}
use Rattle.rules.specs.Bounds.{all_below}
use Rattle.laws.specs.Effects.{OffTheBoardIs0, OffTheBoardChangesNothing, OneCellChanges, OneAfterTheOther, MeIsTakenBefore, ValuesStaySmall}

pub off_the_board_is_0 : OffTheBoardIs0
unfolding eval
off_the_board_is_0 a p x y m h = get_or_past p (eval a p x y m) 0 h

pub off_the_board_changes_nothing : OffTheBoardChangesNothing
unfolding apply_effects
off_the_board_changes_nothing e p x y m h = set_past p (eval e.cell p x y m) (eval e.value p x y m) h

pub one_cell_changes : OneCellChanges
unfolding apply_effects
one_cell_changes e p x y m h =
    let i : ℕ = eval e.cell p x y m in
    let a : ℕ = eval e.value p x y m in
    (length-set p i a, get_or-set_same p i a 0 h, λ j ne. get_or-set_other p i j a 0 ne)

pub one_after_the_other : OneAfterTheOther
unfolding apply_effects
one_after_the_other [] fs p x y m = refl
one_after_the_other (e ∷ es) fs p x y m = one_after_the_other es fs (set p (eval e.cell p x y m) (eval e.value p x y m)) x y m

-- effects keep the length of the board
effects_length : (es : List Effect) (p : Position) (x y m : ℕ) → length (apply_effects es p x y m) ≡ length p
unfolding apply_effects
effects_length [] p x y m = refl
effects_length (e ∷ es) p x y m =
    effects_length es (set p (eval e.cell p x y m) (eval e.value p x y m)) x y m
    ∙ length-set p (eval e.cell p x y m) (eval e.value p x y m)

-- a last effect that writes Me into cell 1 leaves there the player that all effects were given
me_is_written :
    (fs es : List Effect) (p : Position) (x y m : ℕ) → fs ≡ es ++ (record { cell = Num 1; value = Me } ∷ []) → 1 < length p
    → get_or (apply_effects fs p x y m) 1 0 ≡ m
unfolding apply_effects eval
me_is_written fs es p x y m same h =
    let last : List Effect = record { cell = Num 1; value = Me } ∷ [] in
    let q : Position = apply_effects es p x y m in
    ap (λ gs. get_or (apply_effects gs p x y m) 1 0) same ∙ ap (λ r. get_or r 1 0) (one_after_the_other es last p x y m)
    ∙ get_or-set_same q 1 m 0 (omega (arith, h, effects_length es p x y m))

pub me_is_taken_before : MeIsTakenBefore
unfolding apply
me_is_taken_before g p v es same h = me_is_written (rule_at g v.rule).effects es p v.first v.second (turn g p) same h

-- no bound from 65,536 on is passed: each way of making a number keeps it below
module _ (b : ℕ) (enough : 65536 ≤ b) where
  capped_small : (n : ℕ) → capped n < b
  capped_small n = cond_both (ltb n 65536) n 65535 (λ k. k < b) (λ e. omega (arith, ltb-true n 65536 e)) (λ _. omega arith)

  cond_small : (t : Bool) (i j : ℕ) → i < b → j < b → cond t i j < b
  cond_small true i j hi hj = hi
  cond_small false i j hi hj = hj

  pub get_d_small : (p : Position) (i : ℕ) → all_below b p ≡ true → get_or p i 0 < b
  unfolding all_below
  get_d_small [] i h = omega arith
  get_d_small (a ∷ p) zero h = ltb-true a b (and_parts (ltb a b) (all_below b p) h).0
  get_d_small (a ∷ p) (suc i) h = get_d_small p i (and_parts (ltb a b) (all_below b p) h).1

  quotient_small : (a c : ℕ) → a < b → quotient a c < b
  quotient_small a c h = cond_small (eqb c 0) 0 (a / c) (omega arith) (omega (arith, div-le_self a c))

  remainder_small : (a c : ℕ) → a < b → remainder a c < b
  remainder_small a c h = cond_small (eqb c 0) 0 (a % c) (omega arith) (omega (arith, mod-le a c))

  pub turn_small : (g : Game) (p : Position) → all_below b p ≡ true → turn g p < b
  turn_small g p h = remainder_small (get_or p 0 0) g.players (get_d_small p 0 h)

  eval_small : (a : Expr) (p : Position) (x y m : ℕ) → all_below b p ≡ true → x < b → y < b → m < b → eval a p x y m < b
  unfolding eval
  eval_small (Num n) p x y m hp hx hy hm = capped_small n
  eval_small (Cell a) p x y m hp hx hy hm = get_d_small p (eval a p x y m) hp
  eval_small First p x y m hp hx hy hm = hx
  eval_small Second p x y m hp hx hy hm = hy
  eval_small Me p x y m hp hx hy hm = hm
  eval_small (Add a c) p x y m hp hx hy hm = capped_small (eval a p x y m + eval c p x y m)
  eval_small (Sub a c) p x y m hp hx hy hm = omega (arith, eval_small a p x y m hp hx hy hm)
  eval_small (Mul a c) p x y m hp hx hy hm = capped_small (eval a p x y m * eval c p x y m)
  eval_small (Div a c) p x y m hp hx hy hm = quotient_small (eval a p x y m) (eval c p x y m) (eval_small a p x y m hp hx hy hm)
  eval_small (Rem a c) p x y m hp hx hy hm = remainder_small (eval a p x y m) (eval c p x y m) (eval_small a p x y m hp hx hy hm)
  eval_small (Lt a c) p x y m hp hx hy hm = cond_small (ltb (eval a p x y m) (eval c p x y m)) 1 0 (omega arith) (omega arith)
  eval_small (Eq a c) p x y m hp hx hy hm = cond_small (eqb (eval a p x y m) (eval c p x y m)) 1 0 (omega arith) (omega arith)
  eval_small (If a c d) p x y m hp hx hy hm =
      cond_small (eqb (eval a p x y m) 0) (eval d p x y m) (eval c p x y m) (eval_small d p x y m hp hx hy hm) (eval_small c p x y m hp hx hy hm)

  pub set_small : (p : Position) (i a : ℕ) → all_below b p ≡ true → a < b → all_below b (set p i a) ≡ true
  unfolding all_below
  set_small [] i a hp ha = refl
  set_small (c ∷ p) zero a hp ha = and_from (ltb a b) (all_below b p) (lt-ltb a b ha) (and_parts (ltb c b) (all_below b p) hp).1
  set_small (c ∷ p) (suc i) a hp ha =
      let parts = and_parts (ltb c b) (all_below b p) hp in
      and_from (ltb c b) (all_below b (set p i a)) parts.0 (set_small p i a parts.1 ha)

  effects_small :
      (es : List Effect) (p : Position) (x y m : ℕ) → all_below b p ≡ true → x < b → y < b → m < b → all_below b (apply_effects es p x y m) ≡ true
  unfolding apply_effects
  effects_small [] p x y m hp hx hy hm = hp
  effects_small (e ∷ es) p x y m hp hx hy hm =
      let i : ℕ = eval e.cell p x y m in
      let a : ℕ = eval e.value p x y m in
      effects_small es (set p i a) x y m (set_small p i a hp (eval_small e.value p x y m hp hx hy hm)) hx hy hm

  pub apply_small : (g : Game) (p : Position) (v : Move) → all_below b p ≡ true → v.first < b → v.second < b → all_below b (apply g p v) ≡ true
  unfolding apply
  apply_small g p v hp hx hy =
      effects_small (rule_at g v.rule).effects p v.first v.second (turn g p) hp hx hy (turn_small g p hp)

pub values_stay_small : ValuesStaySmall
values_stay_small = record { value = eval_small 65536 (omega arith); cells = apply_small 65536 (omega arith) }
