-- What the private functions answer. No reader has to believe these: the contracts of `open` and `call` do not name them.
use Rattle.std.specs.Prelude.{◌≡◌, ℕ, ◌<◌, ◌≤◌, List, length, Option, slice_index}
use Rattle.rules.specs.declared.Limits.{Limits}
use Rattle.rules.specs.declared.Call.{Call}
use Rattle.rules.specs.Calls.{State, answer, step, refusal}
use Rattle.wire.specs.Fields.{written, room}
use Rattle.answers.specs.Answers.{answer_bytes}
use Rattle.tables.specs.Layout.{state_words}
use Rattle.tables.specs.Means.{Means}
use Rattle.session.specs.Calling.{stage}

-- the answer to a call was written over a, which left b; r says how many bytes it has, if they have room
abbrev pub Writes : List ℕ → List ℕ → Call → List ℕ → List ℕ → Option ℕ → Type 0
Writes rules w c a b r =
    (l : Limits) (s : State) → Means rules w l s
    → (r ≡ room 0 (answer_bytes (answer stage l s c)) a)
    × (length (answer_bytes (answer stage l s c)) ≤ length a → b ≡ written 0 (answer_bytes (answer stage l s c)) a)

-- a call left the state v of w
pub record Changes (rules w : List ℕ) (c : Call) (v : List ℕ) (l : Limits) (s : State) : Type 0 where
  pub means : Means rules v l (step stage l s c)
  pub keeps : 0 < refusal stage l s c → v ≡ w
  pub past : (k : ℕ) → state_words (length s.game.start) l.tables l.moves ≤ k → slice_index v k ≡ slice_index w k

-- a call that was read left the state v of w and the answer b of a
pub record Acts (rules w a : List ℕ) (c : Call) (v b : List ℕ) (r : Option ℕ) : Type 0 where
  pub writes : Writes rules w c a b r
  pub changes : (l : Limits) (s : State) → Means rules w l s → Changes rules w c v l s
