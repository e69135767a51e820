-- What it means that a player can force a gain: ways to play, the plays that they lead to, and six laws.
use Rattle.std.specs.Prelude.{◌≡◌, ℕ, zero, suc, ◌+◌, ◌-◌, ◌<◌, ◌≤◌, true, false, not, ◌≢◌, ◌⊎◌}
use Rattle.rules.specs.declared.Move.{Move}
use Rattle.rules.specs.Rules.{Position, Game, turn, is_legal, apply}
use Rattle.rules.specs.Play.{is_over, payoff}
use Rattle.rules.specs.Force.{can_force}

-- a play from p in which player m goes by `way`, a function of the position and of how many moves are left after this one, and the others make any legal move.
-- It is followed for at most d moves and stops at q
pub data Plays (g : Game) (m : ℕ) (way : ℕ → Position → Move) : ℕ → Position → Position → Type 0 where
  -- the game is over
  done : {d : ℕ} {p : Position} → is_over g p ≡ true → Plays g m way d p p
  -- player m makes the way's move
  mine :
      {d : ℕ} {p q : Position} → is_over g p ≡ false → turn g p ≡ m → is_legal g p (way d p) ≡ true →
      Plays g m way d (apply g p (way d p)) q → Plays g m way (suc d) p q
  -- another player makes any legal move
  theirs :
      {d : ℕ} {p q : Position} (v : Move) → is_over g p ≡ false → turn g p ≢ m → is_legal g p v ≡ true →
      Plays g m way d (apply g p v) q → Plays g m way (suc d) p q
  -- the way's move is not legal
  wrong : {d : ℕ} {p : Position} → is_over g p ≡ false → turn g p ≡ m → is_legal g p (way d p) ≡ false → Plays g m way (suc d) p p
  -- no moves are left, and the game is not over
  late : {p : Position} → is_over g p ≡ false → Plays g m way 0 p p

-- every play by this way ends in time, and there player m has gained at least k
abbrev pub Wins : (ℕ → Position → Move) → Game → ℕ → ℕ → ℕ → Position → Type 0
Wins way g m k d p = (q : Position) → Plays g m way d p q → (is_over g q ≡ true) × (k ≤ payoff g q m)

-- where a gain can be forced, some way to play brings it about in every play
abbrev pub ForcedIsPlayed : Type 0
ForcedIsPlayed = (g : Game) (m k d : ℕ) (p : Position) → can_force g m k d p ≡ true → (way : ℕ → Position → Move) × Wins way g m k d p

-- from every position there is a play by each way, so that `Wins` is never true of no plays
abbrev pub EveryWayHasAPlay : Type 0
EveryWayHasAPlay = (g : Game) (m : ℕ) (way : ℕ → Position → Move) (d : ℕ) (p : Position) → (q : Position) × Plays g m way d p q

-- where some way to play brings a gain about in every play, it can be forced
abbrev pub PlayedIsForced : Type 0
PlayedIsForced = (g : Game) (m k d : ℕ) (p : Position) → ((way : ℕ → Position → Move) × Wins way g m k d p) → can_force g m k d p ≡ true

-- what can be forced can be forced with more moves
abbrev pub MoreMoves : Type 0
MoreMoves = (g : Game) (m k d e : ℕ) (p : Position) → can_force g m k d p ≡ true → can_force g m k (d + e) p ≡ true

-- whoever can force a gain can force each smaller one
abbrev pub SmallerGain : Type 0
SmallerGain = (g : Game) (m j k d : ℕ) (p : Position) → j ≤ k → can_force g m k d p ≡ true → can_force g m j d p ≡ true

-- every play from p is over within d moves, and then players 0 and 1 have gained c together
unfoldable pub EndsIn : Game → ℕ → ℕ → Position → Type 0
EndsIn g c zero p = (is_over g p ≡ true) × (payoff g p 0 + payoff g p 1 ≡ c)
EndsIn g c (suc d) p =
    ((is_over g p ≡ true) × (payoff g p 0 + payoff g p 1 ≡ c))
    ⊎ ((is_over g p ≡ false) × ((v : Move) → is_legal g p v ≡ true → EndsIn g c d (apply g p v)))

-- of two players who gain c together, either can force a gain of k just if the other cannot force so much that less than k is left
abbrev pub OneOrTheOther : Type 0
OneOrTheOther =
    (g : Game) (c k d m : ℕ) (p : Position) → g.players ≡ 2 → m < 2 → k ≤ c → EndsIn g c d p →
    can_force g m k d p ≡ not (can_force g (1 - m) (suc c - k) d p)
