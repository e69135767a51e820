-- What the steps of checking a game find in its bytes. No reader has to believe these: the contract of the whole does not name them.
use Rattle.std.specs.Prelude.{ℕ, zero, suc, ◌+◌, ◌*◌, ◌^◌, ◌<◌, ◌≤◌, Bool, true, false, cond, not, ◌&&◌, ◌||◌, List, [], ◌∷◌, length, Some, None, Option, nat_lt}
use Rattle.std.specs.Option.{option_or}
use Rattle.std.specs.Borrow.{Bor}
use Rattle.rules.specs.Rules.{Expr, Num, Rule, Game}
use Rattle.rules.specs.Bounds.{fits_depth, expr_parts, rule_parts, game_parts, possible_moves}
use Rattle.wire.specs.declared.excesses.Excess.{Excess}
use Rattle.wire.specs.declared.excesses.Excess.TheVariants.{FirstBound, SecondBound, Deep}
use Rattle.wire.specs.declared.walks.Totals.{Totals}
use Rattle.wire.specs.declared.walks.Found.{Found}
use Rattle.wire.specs.Numbers.{bytes_value}
pub use Rattle.wire.specs.Fields.{word_at}
use Rattle.wire.specs.Exprs.{Parsed, got, unreadable, and_then, Kind, alone, kind_after}
use Rattle.wire.specs.Games.{total_effects}
use Rattle.wire.specs.Excess.{count_excess, bound_excess, shallow_rules, shallow}

-- what a step answers: None if nothing can be read, else what it found and the bytes that are left
abbrev pub found : {A : Type 0} → Option (A × Bor (List ℕ)) → Parsed A
found None = unreadable
found (Some p) = got p.0 p.1.now

-- what is made of what was read
abbrev pub as_read : {A B : Type 0} → (A → B) → Parsed A → Parsed B
as_read f p = and_then p (λ a r. got (f a) r)

-- how many parts expressions have together
unfoldable pub exprs_parts : List Expr → ℕ
exprs_parts [] = 0
exprs_parts (e ∷ es) = expr_parts e + exprs_parts es

-- each of the expressions has at most so many levels: one more than it is deep
unfoldable pub within_levels : ℕ → List Expr → Bool
within_levels l [] = true
within_levels zero (e ∷ es) = false
within_levels (suc l) (e ∷ es) = fits_depth e l && within_levels (suc l) es

-- the kind of the expression at the front, and the bytes that its parts begin with
unfoldable pub read_head : List ℕ → Parsed Kind
read_head [] = unreadable
read_head (zero ∷ []) = unreadable
read_head (zero ∷ x ∷ []) = unreadable
read_head (zero ∷ x ∷ y ∷ bs) = got (alone (Num (bytes_value (x ∷ y ∷ [])))) bs
read_head (suc k ∷ bs) = cond (nat_lt k 12) (got (kind_after k) bs) unreadable

-- how many parts an expression of a kind has
abbrev pub arity_of : Kind → ℕ
arity_of k = k.arity

-- the bytes behind expressions, if each has at most l levels
abbrev pub behind : ℕ → Parsed (List Expr) → Option (List ℕ)
behind l unreadable = None
behind l (got es r) = cond (within_levels l es) (Some r) None

-- the first bound above 256 of a rule with the number n
abbrev pub rule_bound : ℕ → ℕ → ℕ → Option Excess
rule_bound n a b = cond (nat_lt 256 a) (Some (FirstBound n a)) (cond (nat_lt 256 b) (Some (SecondBound n b)) None)

-- what two parts of a game have together
abbrev pub plus : Totals → Totals → Totals
plus a b = record {
  effects = a.effects + b.effects;
  moves = a.moves + b.moves;
  parts = a.parts + b.parts;
  bound = option_or a.bound b.bound;
  deep = a.deep || b.deep;
}

-- that fits
abbrev pub CanAdd : Totals → Totals → Type 0
CanAdd a b = (a.effects + b.effects < 2 ^ 32) × (a.moves + b.moves < 2 ^ 64) × (a.parts + b.parts < 2 ^ 64)

-- n rules that take the bytes from so many to so many have no more than this
pub record Few (n : ℕ) (w : Totals) (from to : ℕ) : Type 0 where
  pub effects : w.effects ≤ 255 * n
  pub moves : w.moves ≤ 4294836225 * n
  pub parts : w.parts + to ≤ from + 255 * n

-- what rules have together, the first of which has the number n
abbrev pub totals_of : ℕ → List Rule → Totals
totals_of n us = record {
  effects = total_effects us;
  moves = possible_moves us;
  parts = rule_parts us;
  bound = bound_excess n us;
  deep = not (shallow_rules us);
}

-- what a rule with the number n has
abbrev pub one_total : ℕ → Rule → Totals
one_total n u = totals_of n (u ∷ [])

-- what is found in the bytes of a game
unfoldable pub found_of : Game → Found
found_of g = record {
  players = g.players;
  cells = length g.start;
  rules = length g.rules;
  totals = record {
    effects = total_effects g.rules;
    moves = possible_moves g.rules;
    parts = game_parts g;
    bound = bound_excess 0 g.rules;
    deep = not (shallow g);
  };
}

-- the first limit that is broken
abbrev pub found_excess : Found → Option Excess
found_excess f =
    option_or (count_excess f.players f.cells f.rules f.totals.moves f.totals.parts) (option_or f.totals.bound (cond f.totals.deep (Some Deep) None))
