-- What is promised of every server: its answers are those of the written rules, what it refuses changes nothing, and memory never runs out.
-- The functions of the same names have these statements as their contracts. Assumes nothing: these are definitions.
use Rattle.std.specs.Prelude.{◌≡◌, ℕ, ◌+◌, ◌*◌, ◌≤◌, true, List, [], ◌∷◌, ◌++◌, length, take, drop, Some, Ok}
use Rattle.rules.specs.declared.Limits.{Limits}
use Rattle.rules.specs.Rules.{Game}
use Rattle.rules.specs.Calls.{State, opened}
use Rattle.rules.specs.Bounds.{game_parts, possible_moves}
use Rattle.wire.specs.Games.{parse_game}
use Rattle.answers.specs.Answers.{answer_bytes}
use Rattle.tables.specs.declared.plan.Sizes.{Sizes}
use Rattle.session.specs.Opening.{Lent, lent, needed, Opens}
use Rattle.session.specs.Calling.{answer_to, state_after, is_refused, Called}

-- the answers to calls in bytes, one after the other, and the state that they lead to
unfoldable pub answers_to : Limits → State → List (List ℕ) → List (List ℕ)
answers_to l s [] = []
answers_to l s (q ∷ qs) = answer_bytes (answer_to l s q) ∷ answers_to l (state_after l s q) qs

unfoldable pub state_after_all : Limits → State → List (List ℕ) → State
state_after_all l s [] = s
state_after_all l s (q ∷ qs) = state_after_all l (state_after l s q) qs

-- a run of calls: each step is what the contract of `call` says, with rules and state as the last step left them, and with scratch and answer of at least the
-- lengths that were told and of any content. qs are the calls' bytes, and rs the answers'
pub data Run (z : Sizes) (rules : List ℕ) : List ℕ → List (List ℕ) → List (List ℕ) → List ℕ → Type 0 where
  done : {w : List ℕ} → Run z rules w [] [] w
  next :
      {w v u q : List ℕ} {r : ℕ} {qs rs : List (List ℕ)} (scratch scratch' answer answer' : List ℕ) → z.scratch ≤ length scratch → z.answer ≤ length answer
      → Called (lent rules w scratch answer) q (lent rules v scratch' answer') r → Run z rules v qs rs u
      → Run z rules w (q ∷ qs) (take r answer' ∷ rs) u

-- memory n, of sizes z, was made by opening a server with limits l for game g
pub record Started (l : Limits) (g : Game) (z : Sizes) (n : Lent) : Type 0 where
  pub bytes : List ℕ
  pub game : parse_game bytes ≡ Some g
  pub before : Lent
  pub opens : Opens l bytes before n (Ok z)

-- every answer is that of the written rules after the calls before it
abbrev pub Right : Type 0
Right =
    (l : Limits) (g : Game) (z : Sizes) (n : Lent) (u : List ℕ) (qs rs : List (List ℕ)) → Started l g z n → Run z n.rules n.state qs rs u
    → rs ≡ answers_to l (opened g) qs

-- a call that is refused leaves rules, state and scratch as they were, and of the answer all past its own bytes
abbrev pub RefusalKeeps : Type 0
RefusalKeeps =
    (l : Limits) (g : Game) (z : Sizes) (n : Lent) (w : List ℕ) (qs rs : List (List ℕ)) → Started l g z n → Run z n.rules n.state qs rs w
    → (scratch answer q : List ℕ) (m : Lent) (r : ℕ) → z.scratch ≤ length scratch → z.answer ≤ length answer
    → Called (lent n.rules w scratch answer) q m r → is_refused l (state_after_all l (opened g) qs) q ≡ true
    → (m.rules ≡ n.rules) × (m.state ≡ w) × (m.scratch ≡ scratch) × (m.answer ≡ answer_bytes (answer_to l (state_after_all l (opened g) qs) q) ++ drop r answer)

-- what is asked for is little enough: in words, and in bytes
abbrev pub words_bound : Limits → Game → ℕ
words_bound l g = 4 * l.moves + (l.tables + 2 * l.positions) * (length g.start + 16) + 16 * game_parts g + 1024

abbrev pub bytes_bound : Game → ℕ
bytes_bound g = 12 * possible_moves g.rules + 3 * game_parts g + 4096

abbrev pub NeedsLittle : Type 0
NeedsLittle =
    (l : Limits) (bs : List ℕ) (z : Sizes) (g : Game) → needed l bs ≡ Ok z → parse_game bs ≡ Some g
    → (z.rules + z.state + z.scratch ≤ words_bound l g) × (z.answer ≤ bytes_bound g)

-- what is lent at opening is enough for ever: after any calls the slices are as long as they were, and each answer had room
abbrev pub EnoughMemory : Type 0
EnoughMemory =
    (l : Limits) (g : Game) (z : Sizes) (n : Lent) (u : List ℕ) (qs rs : List (List ℕ)) → Started l g z n → Run z n.rules n.state qs rs u
    → (length u ≡ length n.state) × ((q : List ℕ) → length (answer_bytes (answer_to l (state_after_all l (opened g) qs) q)) ≤ z.answer)
