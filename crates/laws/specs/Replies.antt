-- What is answered to each call that is not refused, and what it changes. Sit has `NewTable`, and what ticks change `TicksTakeFromWhoseTurn`.
use Rattle.std.specs.Prelude.{◌≡◌, ℕ, suc, ◌<◌, ◌≤◌, Bool, true, false, List, [], ◌∷◌, ◌++◌, length}
use Rattle.rules.specs.declared.Move.{Move}
use Rattle.rules.specs.declared.Limits.{Limits}
use Rattle.rules.specs.declared.Call.{Call}
use Rattle.rules.specs.declared.Call.TheVariants.{Sit, Play, Ticks, See, May, Back, CanForce}
use Rattle.rules.specs.Rules.{Position, Game, turn, apply}
use Rattle.rules.specs.Play.{legal_moves, is_over, replay}
use Rattle.rules.specs.Force.{can_force, layer_total}
use Rattle.rules.specs.Calls.{number, shown, listed, forced, Table, State, Stage, call_number, no_calls, first_calls, clock_calls, all_calls, table_at, table_over, total_played, refusal, step, answer, opened, answers, run}

-- how a table stands: 0 its game goes on, 1 it is over, 2 it is over by time, whatever the position
pub data Stands (g : Game) (u : Table) : ℕ → Type 0 where
  goes_on : u.timed_out ≡ false → is_over g u.cells ≡ false → Stands g u 0
  over : u.timed_out ≡ false → is_over g u.cells ≡ true → Stands g u 1
  by_time : u.timed_out ≡ true → Stands g u 2

-- a play is refused as over where the table is over by time or by its position, and nowhere else
pub record OverByEither : Type 0 where
  pub goes_on : (g : Game) (u : Table) → Stands g u 0 → table_over g u ≡ false
  pub over : (g : Game) (u : Table) → Stands g u 1 → table_over g u ≡ true
  pub by_time : (g : Game) (u : Table) → Stands g u 2 → table_over g u ≡ true

-- what is answered where the call is not refused
pub record Replied (can : Stage) (l : Limits) (s : State) : Type 0 where
  -- how many moves have then been played at that table
  pub play :
      (t m : ℕ) (v : Move) → refusal can l s (Play t m v) ≡ 0 →
      answer can l s (Play t m v) ≡ number (length (table_at (step can l s (Play t m v)) t).played)
  pub ticks : (n : ℕ) → refusal can l s (Ticks n) ≡ 0 → answer can l s (Ticks n) ≡ number 0
  -- the cells of that table, whose turn it is there, how it stands, and its clocks
  pub see :
      (t e : ℕ) → refusal can l s (See t) ≡ 0 → Stands s.game (table_at s t) e →
      answer can l s (See t) ≡ shown (table_at s t).cells (turn s.game (table_at s t).cells) e (table_at s t).clocks
  -- all legal moves there; none where the table is over
  pub may :
      (t : ℕ) → refusal can l s (May t) ≡ 0 → Stands s.game (table_at s t) 0 →
      answer can l s (May t) ≡ listed (legal_moves s.game (table_at s t).cells)
  pub may_over : (t : ℕ) → refusal can l s (May t) ≡ 0 → Stands s.game (table_at s t) 1 → answer can l s (May t) ≡ listed []
  pub may_by_time : (t : ℕ) → refusal can l s (May t) ≡ 0 → Stands s.game (table_at s t) 2 → answer can l s (May t) ≡ listed []
  -- the position that the first moves of that table lead to, whose turn it is in it, whether it is over, and no clocks
  pub back :
      (t : ℕ) (vs ws : List Move) → (table_at s t).played ≡ vs ++ ws → refusal can l s (Back t (length vs)) ≡ 0 →
      let p : Position = replay s.game s.game.start vs in
      (is_over s.game p ≡ false → answer can l s (Back t (length vs)) ≡ shown p (turn s.game p) 0 [])
      × (is_over s.game p ≡ true → answer can l s (Back t (length vs)) ≡ shown p (turn s.game p) 1 [])
  -- 1 if the player can force the gain from that table's position, 0 if not, and 2 if there are more positions to look through than the limit
  pub force_yes :
      (t m k d : ℕ) → refusal can l s (CanForce t m k d) ≡ 0 → layer_total s.game d ((table_at s t).cells ∷ []) ≤ l.positions →
      can_force s.game m k d (table_at s t).cells ≡ true → answer can l s (CanForce t m k d) ≡ forced 1
  pub force_not :
      (t m k d : ℕ) → refusal can l s (CanForce t m k d) ≡ 0 → layer_total s.game d ((table_at s t).cells ∷ []) ≤ l.positions →
      can_force s.game m k d (table_at s t).cells ≡ false → answer can l s (CanForce t m k d) ≡ forced 0
  pub force_too_many :
      (t m k d : ℕ) → refusal can l s (CanForce t m k d) ≡ 0 → l.positions < layer_total s.game d ((table_at s t).cells ∷ []) →
      answer can l s (CanForce t m k d) ≡ forced 2

-- every call that is not refused is answered so
abbrev pub EachCallAnswered : Type 0
EachCallAnswered = (can : Stage) (l : Limits) (s : State) → Replied can l s

-- what a move makes of its table, u before and w after
pub record Moved (g : Game) (v : Move) (u w : Table) : Type 0 where
  pub cells : w.cells ≡ apply g u.cells v
  pub played : w.played ≡ u.played ++ (v ∷ [])
  pub same_clocked : w.clocked ≡ u.clocked
  pub same_clocks : w.clocks ≡ u.clocks
  pub goes_on : w.timed_out ≡ false

-- a play that is taken makes its move at its table, and there are no more tables nor fewer than before
abbrev pub PlayMakesItsMove : Type 0
PlayMakesItsMove =
    (can : Stage) (l : Limits) (s : State) (t m : ℕ) (v : Move) → refusal can l s (Play t m v) ≡ 0 →
    Moved s.game v (table_at s t) (table_at (step can l s (Play t m v)) t)
    × (length (step can l s (Play t m v)).tables ≡ length s.tables)

-- to look, to list, to look back and to search change nothing
pub record AskingChangesNothing : Type 0 where
  pub see : (can : Stage) (l : Limits) (s : State) (t : ℕ) → step can l s (See t) ≡ s
  pub may : (can : Stage) (l : Limits) (s : State) (t : ℕ) → step can l s (May t) ≡ s
  pub back : (can : Stage) (l : Limits) (s : State) (t n : ℕ) → step can l s (Back t n) ≡ s
  pub can_force : (can : Stage) (l : Limits) (s : State) (t m k d : ℕ) → step can l s (CanForce t m k d) ≡ s

-- the moves that the limit counts: none at first, one more with each play that is taken, and as many after every other call
pub record MovesCounted : Type 0 where
  pub at_first : (g : Game) → total_played (opened g).tables ≡ 0
  pub play :
      (can : Stage) (l : Limits) (s : State) (t m : ℕ) (v : Move) → refusal can l s (Play t m v) ≡ 0 →
      total_played (step can l s (Play t m v)).tables ≡ suc (total_played s.tables)
  pub sit : (can : Stage) (l : Limits) (s : State) (n : ℕ) → total_played (step can l s (Sit n)).tables ≡ total_played s.tables
  pub ticks : (can : Stage) (l : Limits) (s : State) (n : ℕ) → total_played (step can l s (Ticks n)).tables ≡ total_played s.tables

-- calls are answered one after the other, each in the state that those before it led to; an opened server has its game and no tables
pub record OneCallAfterTheOther : Type 0 where
  pub same_game : (g : Game) → (opened g).game ≡ g
  pub no_tables : (g : Game) → (opened g).tables ≡ []
  pub no_answers : (can : Stage) (l : Limits) (s : State) → answers can l s [] ≡ []
  pub no_step : (can : Stage) (l : Limits) (s : State) → run can l s [] ≡ s
  pub one_answer : (can : Stage) (l : Limits) (s : State) (c : Call) → answers can l s (c ∷ []) ≡ answer can l s c ∷ []
  pub one_step : (can : Stage) (l : Limits) (s : State) (c : Call) → run can l s (c ∷ []) ≡ step can l s c
  pub more_answers :
      (can : Stage) (l : Limits) (s : State) (bs cs : List Call) → answers can l s (bs ++ cs) ≡ answers can l s bs ++ answers can l (run can l s bs) cs
  pub more_steps : (can : Stage) (l : Limits) (s : State) (bs cs : List Call) → run can l s (bs ++ cs) ≡ run can l (run can l s bs) cs

-- the calls of the first stage that can do any: sit, play, see and may
abbrev pub is_first : Call → Bool
is_first (Sit n) = true
is_first (Play t m v) = true
is_first (Ticks n) = false
is_first (See t) = true
is_first (May t) = true
is_first (Back t n) = false
is_first (CanForce t m k d) = false

-- and those of the next: all but can-force
abbrev pub is_clocked : Call → Bool
is_clocked (Sit n) = true
is_clocked (Play t m v) = true
is_clocked (Ticks n) = true
is_clocked (See t) = true
is_clocked (May t) = true
is_clocked (Back t n) = true
is_clocked (CanForce t m k d) = false

-- which calls each stage can do
pub record StagesGrow : Type 0 where
  pub none : (c : Call) → no_calls (call_number c) ≡ false
  pub first : (c : Call) → first_calls (call_number c) ≡ is_first c
  pub clocks : (c : Call) → clock_calls (call_number c) ≡ is_clocked c
  pub all : (c : Call) → all_calls (call_number c) ≡ true
