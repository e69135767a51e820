-- When a call is refused, and by which number: each fault that a call can have stands by itself, and the least number among them is the answer's.
use Rattle.std.specs.Prelude.{◌≡◌, ℕ, ◌<◌, ◌≤◌, true, false, ◌≢◌, List, length}
use Rattle.rules.specs.declared.Move.{Move}
use Rattle.rules.specs.declared.Limits.{Limits}
use Rattle.rules.specs.declared.Refusal.{Refusal}
use Rattle.rules.specs.declared.Call.{Call}
use Rattle.rules.specs.declared.Call.TheVariants.{Sit, Play, Ticks, See, May, Back, CanForce}
use Rattle.rules.specs.Rules.{turn, is_legal}
use Rattle.rules.specs.Calls.{State, Stage, call_number, table_at, table_over, total_played, refusal, step, refused, answer, answers}

-- the faults of a call, each with its number and the field of the call that is at fault, where fields count from 0.
-- Number 1 is about bytes and number 3 about opening a server, so no call has them
pub data Fault (can : Stage) (l : Limits) (s : State) : Call → ℕ → ℕ → Type 0 where
  -- 2: the stage can't do it, or a field is too large
  stage_cannot : {c : Call} → can (call_number c) ≡ false → Fault can l s c 2 0
  sit_too_large : {n : ℕ} → 4294967296 ≤ n → Fault can l s (Sit n) 2 0
  ticks_too_large : {n : ℕ} → 4294967296 ≤ n → Fault can l s (Ticks n) 2 0
  too_deep : {t m k d : ℕ} → 64 < d → Fault can l s (CanForce t m k d) 2 3
  -- 4: there is no such table
  play_nowhere : {t m : ℕ} {v : Move} → length s.tables ≤ t → Fault can l s (Play t m v) 4 0
  see_nowhere : {t : ℕ} → length s.tables ≤ t → Fault can l s (See t) 4 0
  may_nowhere : {t : ℕ} → length s.tables ≤ t → Fault can l s (May t) 4 0
  back_nowhere : {t n : ℕ} → length s.tables ≤ t → Fault can l s (Back t n) 4 0
  force_nowhere : {t m k d : ℕ} → length s.tables ≤ t → Fault can l s (CanForce t m k d) 4 0
  -- 5: the table is over
  over : {t m : ℕ} {v : Move} → table_over s.game (table_at s t) ≡ true → Fault can l s (Play t m v) 5 0
  -- 6: it is not this player's turn, or there is no such player
  not_the_turn : {t m : ℕ} {v : Move} → m ≢ turn s.game (table_at s t).cells → Fault can l s (Play t m v) 6 1
  no_such_player : {t m k d : ℕ} → s.game.players ≤ m → Fault can l s (CanForce t m k d) 6 1
  -- 7: the move is not legal
  not_legal : {t m : ℕ} {v : Move} → is_legal s.game (table_at s t).cells v ≡ false → Fault can l s (Play t m v) 7 2
  -- 8: there are as many tables, or as many moves played, as the limit
  tables_full : {n : ℕ} → l.tables ≤ length s.tables → Fault can l s (Sit n) 8 0
  moves_full : {t m : ℕ} {v : Move} → l.moves ≤ total_played s.tables → Fault can l s (Play t m v) 8 0
  -- 9: not so many moves were played
  not_so_many : {t n : ℕ} → length (table_at s t).played < n → Fault can l s (Back t n) 9 1

-- a number applies to a call that has a fault of this number
abbrev pub Applies : ℕ → Stage → Limits → State → Call → Type 0
Applies n can l s c = (p : ℕ) × Fault can l s c n p

-- n applies, and no smaller number does
abbrev pub Least : ℕ → Stage → Limits → State → Call → Type 0
Least n can l s c = Applies n can l s c × ((k : ℕ) → k < n → Applies k can l s c → ⊥)

-- a call is refused by the least number that applies to it, and not refused just if none does
abbrev pub LeastThatApplies : Type 0
LeastThatApplies =
    (can : Stage) (l : Limits) (s : State) (c : Call) →
    ((n : ℕ) → 0 < n → (refusal can l s c ≡ n → Least n can l s c) × (Least n can l s c → refusal can l s c ≡ n))
    × (refusal can l s c ≡ 0 → (k : ℕ) → Applies k can l s c → ⊥)
    × (((k : ℕ) → Applies k can l s c → ⊥) → refusal can l s c ≡ 0)

-- what is refused to a call, number and place, is a fault that it has: no fault has a smaller number, and none of this number a later place
pub record Justified (can : Stage) (l : Limits) (s : State) (c : Call) (r : Refusal) : Type 0 where
  pub fault : Fault can l s c r.number r.place
  pub least : (n p : ℕ) → Fault can l s c n p → r.number ≤ n
  pub last : (p : ℕ) → Fault can l s c r.number p → p ≤ r.place

-- a call is answered by a refusal just if that is justified
abbrev pub RefusedForAFault : Type 0
RefusedForAFault =
    (can : Stage) (l : Limits) (s : State) (c : Call) (r : Refusal) →
    (answer can l s c ≡ refused r → Justified can l s c r) × (Justified can l s c r → answer can l s c ≡ refused r)

-- a call is refused by 2 or by one of 4 to 9, or not refused, which is 0
abbrev pub RefusedByAKnownNumber : Type 0
RefusedByAKnownNumber =
    (can : Stage) (l : Limits) (s : State) (c : Call) → (refusal can l s c ≤ 9) × (refusal can l s c ≢ 1) × (refusal can l s c ≢ 3)

-- a call that is refused changes nothing, neither the state nor any later answer
abbrev pub RefusedChangesNothing : Type 0
RefusedChangesNothing =
    (can : Stage) (l : Limits) (s : State) (c : Call) (cs : List Call) → 0 < refusal can l s c →
    (step can l s c ≡ s) × (answers can l (step can l s c) cs ≡ answers can l s cs)
