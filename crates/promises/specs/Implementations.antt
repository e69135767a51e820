-- The same promises for every implementation, as functions on memory, that meets the contracts of `open` and `call`. Assumes nothing: these are definitions.
use Rattle.std.specs.Prelude.{◌≡◌, ℕ, ◌<◌, ◌≤◌, true, List, [], ◌∷◌, ◌++◌, length, take, Ok}
use Rattle.rules.specs.declared.Limits.{Limits}
use Rattle.rules.specs.declared.Call.{Call}
use Rattle.rules.specs.Rules.{Game}
use Rattle.rules.specs.Calls.{Answer, State, refusal, answers, opened, run}
use Rattle.rules.specs.Bounds.{good_game, good_limits, readable, all_readable, all_below}
use Rattle.wire.specs.Calls.{call_bytes}
use Rattle.wire.specs.Games.{game_bytes, size_of}
use Rattle.answers.specs.Answers.{answer_bytes, fits_answer}
use Rattle.tables.specs.Layout.{sizes_of}
use Rattle.tables.specs.Means.{Means}
use Rattle.session.specs.Opening.{Lent, lent, Opens}
use Rattle.session.specs.Calling.{stage, WordsFit, Called}
use Rattle.session.specs.Promise.{words_bound, bytes_bound}

-- what is kept between calls
pub record Memory : Type 0 where
  pub rules : List ℕ
  pub state : List ℕ
  pub scratch : List ℕ

abbrev pub words : Memory → List ℕ
words m = m.rules ++ (m.state ++ m.scratch)

abbrev pub with_answer : Memory → List ℕ → Lent
with_answer m answer = lent m.rules m.state m.scratch answer

pub record Implementation : Type 0 where
  pub opens : Limits → Game → Memory
  pub next : Memory → Call → Memory
  pub says : Memory → Call → Answer

-- it opens as the contract of `open` says, in memory of just the sizes that are asked for
pub record OpensWell (e : Implementation) (l : Limits) (g : Game) : Type 0 where
  pub before : Lent
  pub answer : List ℕ
  pub opens : Opens l (game_bytes g) before (with_answer (e.opens l g) answer) (Ok (sizes_of l (size_of g)))
  pub fits : WordsFit (with_answer (e.opens l g) answer)
  pub rules_size : length (e.opens l g).rules ≡ (sizes_of l (size_of g)).rules
  pub state_size : length (e.opens l g).state ≡ (sizes_of l (size_of g)).state
  pub scratch_size : length (e.opens l g).scratch ≡ (sizes_of l (size_of g)).scratch

-- it takes a call as the contract of `call` says, with an answer slice of the length that was told, and what it says is what it writes
pub record CallsWell (e : Implementation) (m : Memory) (c : Call) (room : ℕ) : Type 0 where
  pub answer : List ℕ
  pub answer' : List ℕ
  pub size : ℕ
  pub long : length answer ≡ room
  pub called : Called (with_answer m answer) (call_bytes c) (with_answer (e.next m c) answer') size
  pub written : take size answer' ≡ answer_bytes (e.says m c)
  pub fits : fits_answer (e.says m c) ≡ true

-- memory m is that of a server with limits l that has come to s, in slices of just the sizes that are asked for
pub record Kept (m : Memory) (l : Limits) (s : State) : Type 0 where
  pub means : Means m.rules m.state l s
  pub rules_size : length m.rules ≡ (sizes_of l (size_of s.game)).rules
  pub state_size : length m.state ≡ (sizes_of l (size_of s.game)).state
  pub scratch_size : length m.scratch ≡ (sizes_of l (size_of s.game)).scratch
  pub fits : all_below 4294967296 (words m) ≡ true

pub record Meets (e : Implementation) : Type 0 where
  pub opens : (l : Limits) (g : Game) → good_limits l ≡ true → good_game g ≡ true → OpensWell e l g
  pub calls :
      (l : Limits) (s : State) (m : Memory) (c : Call) → Kept m l s → readable c ≡ true → CallsWell e m c (sizes_of l (size_of s.game)).answer

unfoldable pub said_by : Implementation → Memory → List Call → List Answer
said_by e m [] = []
said_by e m (c ∷ cs) = e.says m c ∷ said_by e (e.next m c) cs

unfoldable pub left_by : Implementation → Memory → List Call → Memory
left_by e m [] = m
left_by e m (c ∷ cs) = left_by e (e.next m c) cs

-- for every game and every list of calls the answers are those of the written rules
abbrev pub RightBy : Implementation → Type 0
RightBy e =
    (l : Limits) (g : Game) (cs : List Call) → good_limits l ≡ true → good_game g ≡ true → all_readable cs ≡ true
    → said_by e (e.opens l g) cs ≡ answers stage l (opened g) cs

-- what is refused changes nothing
abbrev pub RefusalKeepsBy : Implementation → Type 0
RefusalKeepsBy e =
    (l : Limits) (g : Game) (cs : List Call) (c : Call) → good_limits l ≡ true → good_game g ≡ true → all_readable (cs ++ (c ∷ [])) ≡ true
    → 0 < refusal stage l (run stage l (opened g) cs) c → e.next (left_by e (e.opens l g) cs) c ≡ left_by e (e.opens l g) cs

-- memory is never more than was asked for, each word of it has four bytes, and no answer is longer than what was asked for it
abbrev pub EnoughMemoryBy : Implementation → Type 0
EnoughMemoryBy e =
    (l : Limits) (g : Game) (cs : List Call) → good_limits l ≡ true → good_game g ≡ true → all_readable cs ≡ true
    → (length (words (left_by e (e.opens l g) cs)) ≤ words_bound l g) × (all_below 4294967296 (words (left_by e (e.opens l g) cs)) ≡ true)
    × ((c : Call) → readable c ≡ true → length (answer_bytes (e.says (left_by e (e.opens l g) cs) c)) ≤ bytes_bound g)

abbrev pub EveryImplementation : Type 0
EveryImplementation = (e : Implementation) → Meets e → RightBy e × RefusalKeepsBy e × EnoughMemoryBy e

-- and there is one
abbrev pub AnImplementation : Type 0
AnImplementation = (e : Implementation) × Meets e
