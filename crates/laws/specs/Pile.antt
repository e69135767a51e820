-- A pile from which two players take in turn, worked: what a server answers about it, and who can force a gain. Assumes nothing: these are statements.
use Rattle.std.specs.Prelude.{◌≡◌, ℕ, ◌%◌, ◌<◌, ◌≤◌, true, false, [], ◌∷◌, ◌≢◌}
use Rattle.rules.specs.declared.Move.{Move}
use Rattle.rules.specs.declared.Limits.{Limits}
use Rattle.rules.specs.declared.Call.TheVariants.{Sit, Play, May, CanForce}
use Rattle.rules.specs.Rules.{Num, Cell, First, Me, Add, Sub, Mul, Rem, Lt, Eq, If, Game}
use Rattle.rules.specs.Force.{can_force}
use Rattle.rules.specs.Calls.{State, refused, listed, forced, all_calls, step, answer, opened}
use Rattle.laws.specs.Forcing.{EndsIn}

-- n lie in the pile, which is cell 1. Who is to move takes 1 to 3 of them. Who finds none to take has lost: the other gains 1
unfoldable pub pile : ℕ → Game
pile n = record {
  players = 2;
  start = 0 ∷ n ∷ [];
  rules =
      record {
        first_bound = 4;
        second_bound = 1;
        guard = Mul (Lt (Num 0) First) (Lt First (Add (Cell (Num 1)) (Num 1)));
        effects =
            record { cell = Num 1; value = Sub (Cell (Num 1)) First }
            ∷ record { cell = Num 0; value = Sub (Num 1) (Cell (Num 0)) } ∷ [];
      }
      ∷ [];
  terminal = Eq (Cell (Num 1)) (Num 0);
  payoff = If (Eq Me (Rem (Cell (Num 0)) (Num 2))) (Num 0) (Num 1);
}

-- who is to move takes j
abbrev pub taking : ℕ → Move
taking j = record { rule = 0; first = j; second = 0 }

-- a server for a pile of 5 at which one table was opened, with n ticks for each player
abbrev pub with_5 : Limits → ℕ → State
with_5 l n = step all_calls l (opened (pile 5)) (Sit n)

-- what it answers: player 0 is to move, and can force a gain of 1 within 3 moves, but not within 2.
-- A move by player 1 is refused since it is not player 1's turn, and one that takes nothing since it is not legal
pub record AnswersAt5 (l : Limits) (n : ℕ) : Type 0 where
  pub may : answer all_calls l (with_5 l n) (May 0) ≡ listed (taking 1 ∷ taking 2 ∷ taking 3 ∷ [])
  pub forced_in_3 : answer all_calls l (with_5 l n) (CanForce 0 0 1 3) ≡ forced 1
  pub not_in_2 : answer all_calls l (with_5 l n) (CanForce 0 0 1 2) ≡ forced 0
  pub not_their_turn : answer all_calls l (with_5 l n) (Play 0 1 (taking 1)) ≡ refused (record { number = 6; place = 1 })
  pub not_legal : answer all_calls l (with_5 l n) (Play 0 0 (taking 0)) ≡ refused (record { number = 7; place = 2 })

-- all limits that have room for a table and for the 11 positions of the search give these answers
abbrev pub PileWorked : Type 0
PileWorked =
    (l : Limits) (n : ℕ) → 1 ≤ l.tables → 11 ≤ l.positions → n < 4294967296 → AnswersAt5 l n

-- a pile of 5 is empty within 5 moves, and then one of the two has gained 1
abbrev pub PileEndsInTime : Type 0
PileEndsInTime = EndsIn (pile 5) 1 5 (0 ∷ 5 ∷ [])

-- who is to move with n in the pile can force a gain of 1 within n moves if n is no multiple of 4, and in no number of moves if it is
pub record PileSolved : Type 0 where
  pub won : (k t n : ℕ) → t < 2 → n < 65535 → (n % 4 ≢ 0) → can_force (pile k) t 1 n (t ∷ n ∷ []) ≡ true
  pub lost : (k t n d : ℕ) → t < 2 → n < 65535 → n % 4 ≡ 0 → can_force (pile k) t 1 d (t ∷ n ∷ []) ≡ false
