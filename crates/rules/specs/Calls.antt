-- What is asked of a server, what it keeps, and what it answers. Assumes nothing: these are definitions.
use Rattle.std.specs.Prelude.{Bool, true, false, not, ◌&&◌, ◌||◌, cond, List, [], ◌∷◌, ◌++◌, ℕ, suc, ◌+◌, ◌-◌, ltb, leb, eqb, length, get_or, set, take, replicate}
use Rattle.rules.specs.declared.Move.{Move}
use Rattle.rules.specs.declared.Limits.{Limits}
use Rattle.rules.specs.declared.Refusal.{Refusal}
use Rattle.rules.specs.declared.Call.{Call}
use Rattle.rules.specs.declared.Call.TheVariants.{Sit, Play, Ticks, See, May, Back, CanForce}
use Rattle.rules.specs.Rules.{Position, Game, turn, is_legal, apply}
use Rattle.rules.specs.Play.{legal_moves, is_over, replay}
use Rattle.rules.specs.Force.{can_force, layer_total}

pub data Answer : Type 0 where
  refused : Refusal → Answer
  number : ℕ → Answer
  shown : Position → ℕ → ℕ → List ℕ → Answer  -- cells, whose turn, 0 goes on or 1 over or 2 over by time, and the clocks
  listed : List Move → Answer
  forced : ℕ → Answer  -- 1 yes, 0 no, 2 if there are more positions to look through than the limit

-- a table: the position, the moves that led there, whether it has clocks, what each player's clock shows, and whether one ran out
pub record Table : Type 0 where
  pub cells : Position
  pub played : List Move
  pub clocked : Bool
  pub clocks : List ℕ
  pub timed_out : Bool

pub record State : Type 0 where
  pub game : Game
  pub tables : List Table

-- the calls, by their number, that a server can do at its stage of growth
abbrev pub Stage : Type 0
Stage = ℕ → Bool

unfoldable pub call_number : Call → ℕ
call_number (Sit n) = 0
call_number (Play t m v) = 1
call_number (Ticks n) = 2
call_number (See t) = 3
call_number (May t) = 4
call_number (Back t n) = 5
call_number (CanForce t m k d) = 6

abbrev pub no_calls : Stage
no_calls k = false

-- sit, play, see and may
abbrev pub first_calls : Stage
first_calls k = ltb k 2 || (eqb k 3 || eqb k 4)

-- these, and ticks and back
abbrev pub clock_calls : Stage
clock_calls k = ltb k 6

abbrev pub all_calls : Stage
all_calls k = true

-- what stands for a table that is not there
abbrev pub no_table : Table
no_table = record { cells = []; played = []; clocked = false; clocks = []; timed_out = true }

abbrev pub table_at : State → ℕ → Table
table_at s t = get_or s.tables t no_table

abbrev pub table_over : Game → Table → Bool
table_over g t = t.timed_out || is_over g t.cells

unfoldable pub total_played : List Table → ℕ
total_played [] = 0
total_played (t ∷ ts) = length t.played + total_played ts

-- ticks fit four bytes, and a search goes at most 64 moves deep
unfoldable pub good_fields : Call → Bool
good_fields (Sit n) = ltb n 4294967296
good_fields (Play t m v) = true
good_fields (Ticks n) = ltb n 4294967296
good_fields (See t) = true
good_fields (May t) = true
good_fields (Back t n) = true
good_fields (CanForce t m k d) = leb d 64

-- why a call that the stage can do is refused, 0 if it isn't: 4 no such table, 5 the table is over, 6 not this player's turn or no such player,
-- 7 the move is not legal, 8 above the limits, 9 not so many moves were played
unfoldable pub refusal_of : Limits → State → Call → ℕ
refusal_of l s (Sit n) = cond (ltb (length s.tables) l.tables) 0 8
refusal_of l s (Play t m v) =
    cond (ltb t (length s.tables)) (cond (table_over s.game (table_at s t)) 5 (cond (eqb m (turn s.game (table_at s t).cells))
    (cond (is_legal s.game (table_at s t).cells v) (cond (ltb (total_played s.tables) l.moves) 0 8) 7) 6)) 4
refusal_of l s (Ticks n) = 0
refusal_of l s (See t) = cond (ltb t (length s.tables)) 0 4
refusal_of l s (May t) = cond (ltb t (length s.tables)) 0 4
refusal_of l s (Back t n) = cond (ltb t (length s.tables)) (cond (leb n (length (table_at s t).played)) 0 9) 4
refusal_of l s (CanForce t m k d) = cond (ltb t (length s.tables)) (cond (ltb m s.game.players) 0 6) 4

-- why a call is refused, 0 if it isn't: 2 the stage can't do it, or a field is too large
unfoldable pub refusal : Stage → Limits → State → Call → ℕ
refusal can l s c = cond (can (call_number c) && good_fields c) (refusal_of l s c) 2

-- which field of the call a refusal by number k is about
unfoldable pub refusal_place : Call → ℕ → ℕ
refusal_place (Sit n) k = 0
refusal_place (Play t m v) k = cond (eqb k 6) 1 (cond (eqb k 7) 2 0)
refusal_place (Ticks n) k = 0
refusal_place (See t) k = 0
refusal_place (May t) k = 0
refusal_place (Back t n) k = cond (eqb k 9) 1 0
refusal_place (CanForce t m v d) k = cond (eqb k 6) 1 (cond (eqb k 2 && ltb 64 d) 3 0)

-- n ticks go by: at each table with clocks that is not over, on the clock of the player whose turn it is
abbrev pub ticked : Game → ℕ → Table → Table
ticked g n t = record {
  cells = t.cells;
  played = t.played;
  clocked = t.clocked;
  clocks = set t.clocks (turn g t.cells) (get_or t.clocks (turn g t.cells) 0 - n);
  timed_out = leb (get_or t.clocks (turn g t.cells) 0) n;
}

unfoldable pub all_ticked : Game → ℕ → List Table → List Table
all_ticked g n [] = []
all_ticked g n (t ∷ ts) = cond (t.clocked && not (table_over g t)) (ticked g n t) t ∷ all_ticked g n ts

-- what a call that is not refused makes of the state
unfoldable pub next : State → Call → State
next s (Sit n) = record {
  game = s.game;
  tables =
      s.tables
      ++ (record { cells = s.game.start; played = []; clocked = not (eqb n 0); clocks = replicate s.game.players n; timed_out = false } ∷ []);
}
next s (Play t m v) =
    let u : Table = table_at s t in
    record {
      game = s.game;
      tables =
          set s.tables t
          (record { cells = apply s.game u.cells v; played = u.played ++ (v ∷ []); clocked = u.clocked; clocks = u.clocks; timed_out = false });
    }
next s (Ticks n) = record { game = s.game; tables = all_ticked s.game n s.tables }
next s (See t) = s
next s (May t) = s
next s (Back t n) = s
next s (CanForce t m k d) = s

-- what any call makes of the state
unfoldable pub step : Stage → Limits → State → Call → State
step can l s c = cond (eqb (refusal can l s c) 0) (next s c) s

-- 0 a table's game goes on, 1 it is over, 2 it is over by time
unfoldable pub end_of : Game → Table → ℕ
end_of g t = cond t.timed_out 2 (cond (is_over g t.cells) 1 0)

-- what is answered to a call that is not refused. Back and can force take a table that is over by time as if it weren't
unfoldable pub reply : Limits → State → Call → Answer
reply l s (Sit n) = number (length s.tables)
reply l s (Play t m v) = number (suc (length (table_at s t).played))
reply l s (Ticks n) = number 0
reply l s (See t) = shown (table_at s t).cells (turn s.game (table_at s t).cells) (end_of s.game (table_at s t)) (table_at s t).clocks
reply l s (May t) = listed (cond (table_over s.game (table_at s t)) [] (legal_moves s.game (table_at s t).cells))
reply l s (Back t n) =
    let p : Position = replay s.game s.game.start (take n (table_at s t).played) in
    shown p (turn s.game p) (cond (is_over s.game p) 1 0) []
reply l s (CanForce t m k d) =
    forced
    (cond (leb (layer_total s.game d ((table_at s t).cells ∷ [])) l.positions) (cond (can_force s.game m k d (table_at s t).cells) 1 0) 2)

unfoldable pub answer : Stage → Limits → State → Call → Answer
answer can l s c =
    cond (eqb (refusal can l s c) 0) (reply l s c) (refused (record { number = refusal can l s c; place = refusal_place c (refusal can l s c) }))

-- a server that has just been opened
abbrev pub opened : Game → State
opened g = record { game = g; tables = [] }

-- the answers to a list of calls, one after the other, and the state that they lead to
unfoldable pub answers : Stage → Limits → State → List Call → List Answer
answers can l s [] = []
answers can l s (c ∷ cs) = answer can l s c ∷ answers can l (step can l s c) cs

unfoldable pub run : Stage → Limits → State → List Call → State
run can l s [] = s
run can l s (c ∷ cs) = run can l (step can l s c) cs
