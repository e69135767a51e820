-- What a call does to the tables: clocks only fall, each table stands by itself, and a new one comes behind those that are there.
use Rattle.std.specs.Prelude.{◌≡◌, ℕ, ◌-◌, ◌<◌, ◌≤◌, Bool, true, false, not, ◌≢◌, ◌⊎◌, [], ◌∷◌, ◌++◌, length, replicate, ◌==◌, nat_le, slice_index}
use Rattle.rules.specs.declared.Limits.{Limits}
use Rattle.rules.specs.declared.Call.{Call}
use Rattle.rules.specs.declared.Call.TheVariants.{Sit, Play, Ticks, See, May, Back, CanForce}
use Rattle.rules.specs.Rules.{Game, turn}
use Rattle.rules.specs.Calls.{number, Table, State, Stage, table_at, table_over, refusal, step, answer}

-- no call makes a clock show more, and only ticks make one show less
abbrev pub ClocksOnlyFall : Type 0
ClocksOnlyFall =
    (can : Stage) (l : Limits) (s : State) (c : Call) (t i : ℕ) → t < length s.tables →
    (slice_index (table_at (step can l s c) t).clocks i ≤ slice_index (table_at s t).clocks i)
    × (((n : ℕ) → c ≢ Ticks n) → (table_at (step can l s c) t).clocks ≡ (table_at s t).clocks)

-- what n ticks make of the clocks of a table, u before and v after, where they run
pub record ClocksRan (g : Game) (n : ℕ) (u v : Table) : Type 0 where
  -- the clock of the player whose turn it is shows n less; a list has no clock past its end
  pub of_the_turn : turn g u.cells < length u.clocks → slice_index v.clocks (turn g u.cells) ≡ slice_index u.clocks (turn g u.cells) - n
  -- the others show what they did
  pub of_others : (i : ℕ) → i ≢ turn g u.cells → slice_index v.clocks i ≡ slice_index u.clocks i
  pub how_many : length v.clocks ≡ length u.clocks
  -- the table is over by time just if there were no more than n left
  pub by_time : v.timed_out ≡ nat_le (slice_index u.clocks (turn g u.cells)) n

-- what n ticks make of a table, u before and v after
pub record TableTicked (g : Game) (n : ℕ) (u v : Table) : Type 0 where
  pub same_cells : v.cells ≡ u.cells
  pub same_played : v.played ≡ u.played
  pub same_clocked : v.clocked ≡ u.clocked
  -- clocks run where the table has them and is not over
  pub running : u.clocked ≡ true → table_over g u ≡ false → ClocksRan g n u v
  -- elsewhere nothing changes
  pub still : (u.clocked ≡ false) ⊎ (table_over g u ≡ true) → v ≡ u

-- what n ticks make of a state
pub record Ticked (n : ℕ) (before after : State) : Type 0 where
  pub same_game : after.game ≡ before.game
  pub same_number : length after.tables ≡ length before.tables
  pub each : (t : ℕ) → t < length before.tables → TableTicked before.game n (table_at before t) (table_at after t)

-- ticks that are taken go, at each table with clocks that is not over, off the clock of the player whose turn it is, and do nothing else
abbrev pub TicksTakeFromWhoseTurn : Type 0
TicksTakeFromWhoseTurn =
    (can : Stage) (l : Limits) (s : State) (n : ℕ) → refusal can l s (Ticks n) ≡ 0 → Ticked n s (step can l s (Ticks n))

-- whether a call is one that can change table t: a play at it, or ticks
abbrev pub is_at : Call → ℕ → Bool
is_at (Sit n) t = false
is_at (Play u m v) t = u == t
is_at (Ticks n) t = true
is_at (See u) t = false
is_at (May u) t = false
is_at (Back u n) t = false
is_at (CanForce u m k d) t = false

-- a call that is not at a table leaves it as it is
abbrev pub TablesApart : Type 0
TablesApart =
    (can : Stage) (l : Limits) (s : State) (c : Call) (t : ℕ) → t < length s.tables → is_at c t ≡ false →
    table_at (step can l s c) t ≡ table_at s t

-- no call changes the game
abbrev pub GameStays : Type 0
GameStays = (can : Stage) (l : Limits) (s : State) (c : Call) → (step can l s c).game ≡ s.game

-- a table that nobody has played at: the position is the start, and with n ticks for each player, its clocks run just if n is not 0
abbrev pub new_with : Game → ℕ → Table
new_with g n = record { cells = g.start; played = []; clocked = not (n == 0); clocks = replicate g.players n; timed_out = false }

-- a sit that is taken puts one new table behind those that are there, which stay as they are, and answers its number
abbrev pub NewTable : Type 0
NewTable =
    (can : Stage) (l : Limits) (s : State) (n : ℕ) → refusal can l s (Sit n) ≡ 0 →
    ((step can l s (Sit n)).tables ≡ s.tables ++ (new_with s.game n ∷ []))
    × (answer can l s (Sit n) ≡ number (length s.tables))
    × (table_at (step can l s (Sit n)) (length s.tables) ≡ new_with s.game n)
