-- What the functions on tables answer. Assumes nothing: these are definitions.
use Rattle.std.specs.Prelude.{◌≡◌, ℕ, ◌+◌, ◌<◌, ◌≤◌, Bool, true, false, cond, ◌&&◌, List, length, take, drop, Some, None, Ok, Err, Option, Result, ◌==◌, nat_le, nat_lt, slice_index}
use Rattle.rules.specs.declared.Move.{Move}
use Rattle.rules.specs.declared.Limits.{Limits}
use Rattle.rules.specs.declared.Refusal.{Refusal}
use Rattle.rules.specs.declared.Call.{Call}
use Rattle.rules.specs.declared.Call.TheVariants.{Sit, Play}
use Rattle.rules.specs.Rules.{Game, turn, is_legal}
use Rattle.rules.specs.Calls.{Answer, number, refused, State, all_calls, table_at, end_of, answer, step, refusal, opened}
use Rattle.rules.specs.Bounds.{good_game, good_limits}
use Rattle.wire.specs.declared.games.GameSize.{GameSize}
use Rattle.wire.specs.Games.{size_of}
use Rattle.rows.specs.Layout.{game_at}
use Rattle.tables.specs.declared.plan.Plan.{Plan}
use Rattle.tables.specs.declared.plan.Sizes.{Sizes}
use Rattle.tables.specs.declared.acting.Seat.{Seat}
use Rattle.tables.specs.Layout.{record_place, state_words, sizes_of, good_size, plan_of}
use Rattle.tables.specs.Changes.{one_more, opened_in, sat_in, played_in}
use Rattle.tables.specs.Means.{Means}

abbrev pub refused_by : ℕ → ℕ → Refusal
refused_by k i = record { number = k; place = i }

-- what a function that changes the state makes of it, and what it answers
abbrev pub Outcome : Type 0
Outcome = List ℕ × Result ℕ Refusal

-- memory that is no server's is left alone, and refused by 3 at 2
abbrev pub by_plan : List ℕ → Option Plan → (Plan → Outcome) → Outcome
by_plan w None f = (w, Err (refused_by 3 2))
by_plan w (Some p) f = f p

-- how much memory an opening asks for, if limits and sizes are good
unfoldable pub sizes_for : Limits → GameSize → Option Sizes
sizes_for l z = cond (good_limits l && good_size z) (Some (sizes_of l z)) None

-- the state that opening leaves, and whether it could
unfoldable pub opening : Limits → GameSize → List ℕ → List ℕ × Bool
opening l z w = cond ((good_limits l && good_size z) && nat_le (sizes_of l z).state (length w)) (opened_in w l z, true) (w, false)

-- a new table
unfoldable pub sat : Game → List ℕ → ℕ → Outcome
sat g w ticks = by_plan w (plan_of w) (λ p. cond (nat_lt p.seated p.tables) (sat_in g w p ticks, Ok p.seated) (w, Err (refused_by 8 0)))

-- the seat of table t: where its record stands, and what is kept there
abbrev pub seat_in : List ℕ → Plan → ℕ → Seat
seat_in w p t =
    let a : ℕ = record_place p.cells t in
    record { at = a; cells = p.cells; players = p.players; end = slice_index w (a + p.cells + 5); played = slice_index w (a + p.cells + 6) }

abbrev pub seat_by : List ℕ → ℕ → Option Plan → Result Seat Refusal
seat_by w t None = Err (refused_by 3 2)
seat_by w t (Some p) = cond (nat_lt t p.seated) (Ok (seat_in w p t)) (Err (refused_by 4 0))

unfoldable pub seat_of : List ℕ → ℕ → Result Seat Refusal
seat_of w t = seat_by w t (plan_of w)

-- a move at a table: the list of refusals from the top down, and else the move
unfoldable pub played_at : Game → List ℕ → Plan → ℕ → ℕ → Move → Outcome
played_at g w p t m v =
    let a : ℕ = record_place p.cells t in
    let q : List ℕ = take p.cells (drop a w) in
    cond (nat_lt t p.seated) (cond (slice_index w (a + p.cells + 5) == 0) (cond (m == turn g q) (cond (is_legal g q v)
    (cond (nat_lt p.played p.moves) (played_in g w p t v, Ok (one_more (slice_index w (a + p.cells + 6)))) (w, Err (refused_by 8 0)))
    (w, Err (refused_by 7 2))) (w, Err (refused_by 6 1))) (w, Err (refused_by 5 0))) (w, Err (refused_by 4 0))

unfoldable pub played : Game → List ℕ → ℕ → ℕ → Move → Outcome
played g w t m v = by_plan w (plan_of w) (λ p. played_at g w p t m v)

-- Theorems. The functions of the same names have these as their contracts.

abbrev pub told : Result ℕ Refusal → Answer
told (Ok n) = number n
told (Err f) = refused f

-- an outcome is right for a call: the state then means what the meaning says, the answer is the meaning's, what is refused is left as it was,
-- and nothing past the state's own words changes
pub record RightOutcome (rules w : List ℕ) (l : Limits) (s : State) (c : Call) (o : Outcome) : Type 0 where
  pub means : Means rules o.0 l (step all_calls l s c)
  pub says : told o.1 ≡ answer all_calls l s c
  pub keeps : 0 < refusal all_calls l s c → o.0 ≡ w
  pub long : length o.0 ≡ length w
  pub past : (k : ℕ) → state_words (length s.game.start) l.tables l.moves ≤ k → slice_index o.0 k ≡ slice_index w k

-- sitting down
abbrev pub SittingIsRight : Type 0
SittingIsRight =
    (rules w : List ℕ) (l : Limits) (s : State) (ticks : ℕ) → Means rules w l s → ticks < 4294967296
    → RightOutcome rules w l s (Sit ticks) (sat s.game w ticks)

-- playing
abbrev pub PlayingIsRight : Type 0
PlayingIsRight =
    (rules w : List ℕ) (l : Limits) (s : State) (t m : ℕ) (v : Move) → Means rules w l s
    → RightOutcome rules w l s (Play t m v) (played s.game w t m v)

-- what a seat says of its table
pub record IsSeat (w : List ℕ) (s : State) (t : ℕ) (q : Seat) : Type 0 where
  pub there : t < length s.tables
  pub cells : take q.cells (drop q.at w) ≡ (table_at s t).cells
  pub clocks : take q.players (drop (q.at + q.cells) w) ≡ (table_at s t).clocks
  pub end : q.end ≡ end_of s.game (table_at s t)
  pub played : q.played ≡ length (table_at s t).played
  pub inside : q.at + q.cells + q.players ≤ length w

abbrev pub RightSeat : List ℕ → State → ℕ → Result Seat Refusal → Type 0
RightSeat w s t (Ok q) = IsSeat w s t q
RightSeat w s t (Err f) = (f ≡ refused_by 4 0) × (length s.tables ≤ t)

abbrev pub SeatsAreRight : Type 0
SeatsAreRight = (rules w : List ℕ) (l : Limits) (s : State) (t : ℕ) → Means rules w l s → RightSeat w s t (seat_of w t)

-- a state that was just opened
abbrev pub OpeningIsRight : Type 0
OpeningIsRight =
    (rules w : List ℕ) (l : Limits) (g : Game) → game_at rules ≡ g → good_game g ≡ true → good_limits l ≡ true
    → (sizes_of l (size_of g)).state ≤ length w → Means rules (opened_in w l (size_of g)) l (opened g)

-- the sizes of every good game are good
abbrev pub GoodGamesHaveGoodSizes : Type 0
GoodGamesHaveGoodSizes = (g : Game) → good_game g ≡ true → good_size (size_of g) ≡ true
