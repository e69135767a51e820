-- The value of each kind of expression, and whose turn it is.
use Rattle.std.proofs.Common.{◌≡◌, ℕ, ◌+◌, ◌*◌, ◌/◌, ◌%◌, ◌<◌, ◌≤◌, eqb, ltb, get_or, refl, mod-lt, div-add-mod', arith}
use Rattle.std.proofs.lemmas.Bool.{lt-ltb, le-ltb, eq-eqb, ne_eqb, cond-true, cond-false}
use Rattle.rules.specs.Rules.{capped, quotient, remainder, eval}
use Rattle.laws.specs.Values.{ValueOfEachKind, TurnGoesRound}

-- a number stays up to 65,535, and is 65,535 above
capped_is : (n : ℕ) → n ≤ 65535 → capped n ≡ n
capped_is n h = cond-true (ltb n 65536) n 65535 (lt-ltb n 65536 (omega arith))

capped_stops : (n : ℕ) → 65535 < n → capped n ≡ 65535
capped_stops n h = cond-false (ltb n 65536) n 65535 (le-ltb n 65536 (omega arith))

-- division by what is not 0
quotient_is : (a b : ℕ) → 0 < b → quotient a b ≡ a / b
quotient_is a b h = cond-false (eqb b 0) 0 (a / b) (ne_eqb b 0 (λ e. omega arith))

remainder_is : (a b : ℕ) → 0 < b → remainder a b ≡ a % b
remainder_is a b h = cond-false (eqb b 0) 0 (a % b) (ne_eqb b 0 (λ e. omega arith))

divided : (a b : ℕ) → 0 < b → quotient a b * b + remainder a b ≡ a
divided a b h = rw (quotient_is a b h, remainder_is a b h) (div-add-mod' a b)

remainder_less : (a b : ℕ) → 0 < b → remainder a b < b
remainder_less a b h = rw (remainder_is a b h) (mod-lt a h)

-- division by 0
quotient_by_0 : (a b : ℕ) → b ≡ 0 → quotient a b ≡ 0
quotient_by_0 a b e = cond-true (eqb b 0) 0 (a / b) (eq-eqb b 0 e)

remainder_by_0 : (a b : ℕ) → b ≡ 0 → remainder a b ≡ 0
remainder_by_0 a b e = cond-true (eqb b 0) 0 (a % b) (eq-eqb b 0 e)

pub value_of_each_kind : ValueOfEachKind
unfolding eval
value_of_each_kind p x y m =
    record {
      number = capped_is;
      large_number = capped_stops;
      cell = λ a. refl;
      first = refl;
      second = refl;
      me = refl;
      sum = λ a b. capped_is (eval a p x y m + eval b p x y m);
      large_sum = λ a b. capped_stops (eval a p x y m + eval b p x y m);
      product = λ a b. capped_is (eval a p x y m * eval b p x y m);
      large_product = λ a b. capped_stops (eval a p x y m * eval b p x y m);
      difference = λ a b h. omega arith;
      no_difference = λ a b h. omega arith;
      division = λ a b. divided (eval a p x y m) (eval b p x y m);
      remainder_below = λ a b. remainder_less (eval a p x y m) (eval b p x y m);
      division_by_0 = λ a b. quotient_by_0 (eval a p x y m) (eval b p x y m);
      remainder_by_0 = λ a b. remainder_by_0 (eval a p x y m) (eval b p x y m);
      less = λ a b h. cond-true _ 1 0 (lt-ltb (eval a p x y m) (eval b p x y m) h);
      not_less = λ a b h. cond-false _ 1 0 (le-ltb (eval a p x y m) (eval b p x y m) h);
      same = λ a b e. cond-true _ 1 0 (eq-eqb (eval a p x y m) (eval b p x y m) e);
      not_same = λ a b ne. cond-false _ 1 0 (ne_eqb (eval a p x y m) (eval b p x y m) ne);
      chosen = λ a b c ne. cond-false _ (eval c p x y m) (eval b p x y m) (ne_eqb (eval a p x y m) 0 ne);
      not_chosen = λ a b c e. cond-true _ (eval c p x y m) (eval b p x y m) (eq-eqb (eval a p x y m) 0 e);
    }

pub turn_goes_round : TurnGoesRound
turn_goes_round g p =
    let c : ℕ = get_or p 0 0 in
    record {
      a_player = remainder_less c g.players;
      rounds = λ h. (quotient c g.players, divided c g.players h);
      nobody = remainder_by_0 c g.players;
    }
