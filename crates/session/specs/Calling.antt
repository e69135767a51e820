-- What a call in bytes is answered, and what it leaves in memory. Assumes nothing: these are definitions.
use Rattle.std.specs.Prelude.{◌≡◌, ℕ, Bool, true, false, not, ◌&&◌, List, length, Some, None, Ok, Err, Option, Result, ◌==◌, nat_le, slice_index}
use Rattle.rules.specs.declared.Limits.{Limits}
use Rattle.rules.specs.declared.Call.{Call}
use Rattle.rules.specs.Calls.{Answer, refused, State, Stage, first_calls, refusal, answer, step}
use Rattle.rules.specs.Bounds.{all_below}
use Rattle.wire.specs.Fields.{written}
use Rattle.wire.specs.Calls.{parse_call}
use Rattle.wire.specs.Games.{size_of}
use Rattle.answers.specs.Answers.{answer_bytes}
use Rattle.tables.specs.declared.plan.Plan.{Plan}
use Rattle.tables.specs.Layout.{plan_of, sizes_of}
use Rattle.tables.specs.Means.{Means}
use Rattle.session.specs.Opening.{Lent, PastKept, SameLengths}

-- the calls that this server can do
abbrev pub stage : Stage
stage = first_calls

-- what is answered to bytes that were read as a call, or ceased to be one at place i
abbrev pub answer_read : Limits → State → Result Call ℕ → Answer
answer_read l s (Ok c) = answer stage l s c
answer_read l s (Err i) = refused (record { number = 1; place = i })

abbrev pub step_read : Limits → State → Result Call ℕ → State
step_read l s (Ok c) = step stage l s c
step_read l s (Err i) = s

abbrev pub refused_read : Limits → State → Result Call ℕ → Bool
refused_read l s (Ok c) = not (refusal stage l s c == 0)
refused_read l s (Err i) = true

-- what bytes are answered in a state, what state they lead to, and whether they are refused
unfoldable pub answer_to : Limits → State → List ℕ → Answer
answer_to l s q = answer_read l s (parse_call q)

unfoldable pub state_after : Limits → State → List ℕ → State
state_after l s q = step_read l s (parse_call q)

unfoldable pub is_refused : Limits → State → List ℕ → Bool
is_refused l s q = refused_read l s (parse_call q)

-- header and lengths are those of an opening
abbrev pub ready_by : Lent → Option Plan → Bool
ready_by m None = false
ready_by m (Some p) =
    nat_le (slice_index m.state 6) (length m.rules) && (nat_le (slice_index m.state 7) (length m.scratch) && nat_le (slice_index m.state 8) (length m.answer))

unfoldable pub ready : Lent → Bool
ready m = ready_by m (plan_of m.state)

-- in memory m, of a server with limits l that has come to s, the call in bytes q left n and answered r bytes
pub record Serves (l : Limits) (s : State) (m : Lent) (q : List ℕ) (n : Lent) (r : ℕ) : Type 0 where
  pub means : Means n.rules n.state l (state_after l s q)
  pub size : r ≡ length (answer_bytes (answer_to l s q))
  pub says : n.answer ≡ written 0 (answer_bytes (answer_to l s q)) m.answer
  pub keeps : is_refused l s q ≡ true → (n.state ≡ m.state) × (n.scratch ≡ m.scratch)
  pub past : PastKept (sizes_of l (size_of s.game)) m n

-- words have four bytes, and bytes are bytes
pub record WordsFit (m : Lent) : Type 0 where
  pub rules : all_below 4294967296 m.rules ≡ true
  pub state : all_below 4294967296 m.state ≡ true
  pub scratch : all_below 4294967296 m.scratch ≡ true
  pub answer : all_below 256 m.answer ≡ true

-- the call in bytes q left n of memory m and answered r bytes. Memory whose header or lengths are not those of an opening is left alone, and answered no bytes
pub record Called (m : Lent) (q : List ℕ) (n : Lent) (r : ℕ) : Type 0 where
  pub rules : n.rules ≡ m.rules
  pub lengths : SameLengths m n
  pub fits : WordsFit n
  pub unready : ready m ≡ false → (r ≡ 0) × (n ≡ m)
  pub serves : (l : Limits) (s : State) → ready m ≡ true → Means m.rules m.state l s → Serves l s m q n r
