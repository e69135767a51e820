-- How much memory a server asks for, and what opening one answers. Assumes nothing: these are definitions.
use Rattle.std.specs.Prelude.{◌≡◌, ℕ, ◌≤◌, Bool, cond, ◌&&◌, List, length, Some, Ok, Err, Result, nat_le, slice_index}
use Rattle.rules.specs.declared.Limits.{Limits}
use Rattle.rules.specs.declared.Refusal.{Refusal}
use Rattle.rules.specs.Rules.{Game}
use Rattle.rules.specs.Calls.{opened}
use Rattle.rules.specs.Bounds.{good_limits}
use Rattle.wire.specs.declared.games.GameSize.{GameSize}
use Rattle.wire.specs.Games.{parse_game, checked}
use Rattle.tables.specs.declared.plan.Sizes.{Sizes}
use Rattle.tables.specs.Layout.{sizes_of}
use Rattle.tables.specs.Means.{Means}

-- the slices that a server is lent
pub record Lent : Type 0 where
  pub rules : List ℕ
  pub state : List ℕ
  pub scratch : List ℕ
  pub answer : List ℕ

abbrev pub lent : List ℕ → List ℕ → List ℕ → List ℕ → Lent
lent a b c d = record { rules = a; state = b; scratch = c; answer = d }

abbrev pub by_size : Limits → Result GameSize Refusal → Result Sizes Refusal
by_size l (Err f) = Err f
by_size l (Ok z) = cond (good_limits l) (Ok (sizes_of l z)) (Err (record { number = 3; place = 1 }))

-- how much memory a server with these limits asks for, for the game that bytes are: refused by 3, at 0 if they are no game,
-- and at 1 if the game or the limits are not good
unfoldable pub needed : Limits → List ℕ → Result Sizes Refusal
needed l bs = by_size l (checked bs)

-- each slice is as long as it has to be
abbrev pub long_enough : Sizes → Lent → Bool
long_enough z m =
    (nat_le z.rules (length m.rules) && nat_le z.state (length m.state))
    && (nat_le z.scratch (length m.scratch) && nat_le z.answer (length m.answer))

abbrev pub by_length : Lent → Result Sizes Refusal → Result Sizes Refusal
by_length m (Err f) = Err f
by_length m (Ok z) = cond (long_enough z m) (Ok z) (Err (record { number = 3; place = 2 }))

-- what opening answers: refused as above, or by 3 at 2 if a slice is too short
unfoldable pub opening_answer : Limits → List ℕ → Lent → Result Sizes Refusal
opening_answer l bs m = by_length m (needed l bs)

-- memory past what was asked for is as it was
pub record PastKept (z : Sizes) (m n : Lent) : Type 0 where
  pub rules : (k : ℕ) → z.rules ≤ k → slice_index n.rules k ≡ slice_index m.rules k
  pub state : (k : ℕ) → z.state ≤ k → slice_index n.state k ≡ slice_index m.state k
  pub scratch : (k : ℕ) → z.scratch ≤ k → slice_index n.scratch k ≡ slice_index m.scratch k

-- no slice's length changes
pub record SameLengths (m n : Lent) : Type 0 where
  pub rules : length n.rules ≡ length m.rules
  pub state : length n.state ≡ length m.state
  pub scratch : length n.scratch ≡ length m.scratch
  pub answer : length n.answer ≡ length m.answer

-- opening a server with limits l for the game that bytes bs are turned memory m into n and answered r
pub record Opens (l : Limits) (bs : List ℕ) (m n : Lent) (r : Result Sizes Refusal) : Type 0 where
  pub answers : r ≡ opening_answer l bs m
  -- what is refused leaves all memory as it was
  pub refused : (f : Refusal) → r ≡ Err f → n ≡ m
  -- else memory is a server for this game with no tables yet
  pub means : (z : Sizes) (g : Game) → r ≡ Ok z → parse_game bs ≡ Some g → Means n.rules n.state l (opened g)
  pub past : (z : Sizes) → r ≡ Ok z → PastKept z m n
  pub lengths : SameLengths m n
  pub scratch : n.scratch ≡ m.scratch
  pub answer : n.answer ≡ m.answer
