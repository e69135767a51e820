-- What loading an expression leaves. Assumes nothing: these are definitions.
use Rattle.std.specs.Prelude.{◌≡◌, ℕ, zero, suc, ◌+◌, ◌*◌, ◌<◌, ◌≤◌, min, Bool, true, false, List, [], ◌∷◌, length, drop, Ok, Err, Result, MatchResult, slice_index, slice_index_or}
use Rattle.rules.specs.Rules.{Expr}
use Rattle.rules.specs.Bounds.{fits_depth, expr_parts}
use Rattle.wire.specs.Exprs.{got, unreadable, read_exprs}
use Rattle.wire.specs.Kinds.{kind_number}
use Rattle.wire.specs.declared.kinds.ExprKind.{ExprKind}
use Rattle.eval.specs.Memory.{expr_within, expr_at}
use Rattle.eval.specs.declared.Loaded.{Loaded}
use Rattle.eval.specs.declared.LoadError.{LoadError}
use Rattle.eval.specs.declared.LoadError.TheVariants.{Unreadable, TooDeep, Full}

-- two memories are the same from a up to b
abbrev pub SameBetween : ℕ → ℕ → List ℕ → List ℕ → Type 0
SameBetween a b xs ys = (k : ℕ) → a ≤ k → k < b → slice_index xs k ≡ slice_index ys k

-- e was read from the first `used` bytes of bs, and its rows are the words of ys from `at` up to root + 4.
-- Which expressions are not too deep, and what memory means, are given
pub record Stands (fits : Expr → Bool) (means : List ℕ → ℕ → Expr) (bs : List ℕ) (at : ℕ) (xs ys : List ℕ) (used root : ℕ) (e : Expr) : Type 0 where
  pub read : read_exprs 1 bs ≡ got (e ∷ []) (drop used bs)
  pub within : used ≤ length bs
  pub fit : fits e ≡ true
  pub ends : root + 4 ≡ at + 4 * expr_parts e
  pub inside : root + 4 ≤ length ys
  pub small : root + 4 ≤ 4294967295
  -- nothing is written after it
  pub after : (k : ℕ) → root + 4 ≤ k → slice_index ys k ≡ slice_index xs k
  -- it stays that expression whatever is written elsewhere
  pub stays : (zs : List ℕ) → SameBetween at (root + 4) zs ys → means zs root ≡ e

-- an expression is refused as too deep, or for want of room, only if it is: one that can be read, is not too deep and has room is loaded
abbrev pub Outcome : (Expr → Bool) → (List ℕ → ℕ → Expr) → List ℕ → ℕ → List ℕ → List ℕ → Result Loaded LoadError → Type 0
Outcome fits means bs at xs ys (Ok l) = (e : Expr) × Stands fits means bs at xs ys l.used l.root e
Outcome fits means bs at xs ys (Err Unreadable) = read_exprs 1 bs ≡ unreadable
Outcome fits means bs at xs ys (Err TooDeep) = (e : Expr) (r : List ℕ) → read_exprs 1 bs ≡ got (e ∷ []) r → fits e ≡ false
Outcome fits means bs at xs ys (Err Full) = (e : Expr) (r : List ℕ) → read_exprs 1 bs ≡ got (e ∷ []) r → min (length ys) 4294967295 < at + 4 * expr_parts e

-- loading turned the memory xs into ys and answered r
pub record Loads (fits : Expr → Bool) (means : List ℕ → ℕ → Expr) (bs : List ℕ) (at : ℕ) (xs ys : List ℕ) (r : Result Loaded LoadError) : Type 0 where
  pub outcome : Outcome fits means bs at xs ys r
  -- nothing is written before it
  pub before : (k : ℕ) → k < at → slice_index ys k ≡ slice_index xs k

-- an expression that is at most 32 deep is loaded, and memory means what it means to eval
abbrev pub LoadsExpr : List ℕ → ℕ → List ℕ → List ℕ → Result Loaded LoadError → Type 0
LoadsExpr = Loads (λ e. fits_depth e 32) expr_at

-- What the steps of loading leave. No reader has to believe these: the contract of the whole does not name them.

-- an expression has at most so many levels: one more than it is deep
abbrev pub fits_levels : ℕ → Expr → Bool
fits_levels zero e = false
fits_levels (suc d) e = fits_depth e d

abbrev pub LoadsWithin : ℕ → List ℕ → ℕ → List ℕ → List ℕ → Result Loaded LoadError → Type 0
LoadsWithin l = Loads (fits_levels l) (expr_within l)

-- bytes begin with the kind of an expression, and with its number if it is one; else none can be read from them
abbrev pub BeginsAs : List ℕ → Result ExprKind LoadError → Type 0
BeginsAs bs r =
    MatchResult r (λ k. (0 < length bs) × (slice_index bs 0 ≡ kind_number k) × (kind_number k ≡ 0 → 3 ≤ length bs))
    (λ e. (e ≡ Unreadable) × (read_exprs 1 bs ≡ unreadable))

-- the row at i: its kind, and its operands
pub record RowAt (ys : List ℕ) (i k : ℕ) (os : List ℕ) : Type 0 where
  pub kind : slice_index_or ys i 0 ≡ k
  pub a_is : slice_index_or ys (i + 1) 0 ≡ slice_index os 0
  pub b_is : slice_index_or ys (i + 2) 0 ≡ slice_index os 1
  pub c_is : slice_index_or ys (i + 3) 0 ≡ slice_index os 2

-- a row was written at i, and nothing else
pub record Written (i k : ℕ) (os xs ys : List ℕ) : Type 0 where
  pub row : RowAt ys i k os
  pub below : (j : ℕ) → j < i → slice_index ys j ≡ slice_index xs j
  pub above : (j : ℕ) → i + 4 ≤ j → slice_index ys j ≡ slice_index xs j
  pub room : i + 4 ≤ length ys
  pub number : i + 4 ≤ 4294967295

-- what writing the last row of what took `used` bytes answers
abbrev pub Ended : ℕ → ℕ → List ℕ → ℕ → List ℕ → List ℕ → Result Loaded LoadError → Type 0
Ended i k os used xs ys r =
    MatchResult r (λ l. (l.used ≡ used) × (l.root ≡ i) × Written i k os xs ys)
    (λ e. (e ≡ Full) × (min (length ys) 4294967295 < i + 4) × (ys ≡ xs))
