-- What loading a game leaves. Assumes nothing: these are definitions.
use Rattle.std.specs.Prelude.{◌≡◌, ℕ, zero, suc, ◌+◌, ◌*◌, ◌<◌, ◌≤◌, true, List, [], ◌∷◌, length, IsSome, Some, Ok, Err, Option, Result, MatchOption, slice_index, slice_index_or}
use Rattle.rules.specs.declared.Refusal.{Refusal}
use Rattle.rules.specs.Rules.{Expr, Effect, Rule, Game}
use Rattle.rules.specs.Bounds.{expr_parts, game_parts, good_rules, good_game}
use Rattle.wire.specs.declared.games.GameSize.{GameSize}
use Rattle.wire.specs.Exprs.{got, read_exprs}
use Rattle.wire.specs.Games.{read_rule, read_rules, parse_game, size_of, checked}
use Rattle.wire.specs.GamesWalk.{exprs_parts, within_levels}
use Rattle.eval.specs.Memory.{expr_at}
use Rattle.eval.specs.Load.{SameBetween}
use Rattle.rows.specs.declared.loading.End.{End}
use Rattle.rows.specs.Layout.{rule_at_word, rules_at, game_at, words_needed}

-- memory holds the game g in its first `words` words
pub record Holds (g : Game) (words : ℕ) (xs ys : List ℕ) : Type 0 where
  pub is : game_at ys ≡ g
  -- nothing from there on is changed
  pub after : (k : ℕ) → words ≤ k → slice_index ys k ≡ slice_index xs k
  -- it stays that game whatever is written after it
  pub stays : (zs : List ℕ) → ((k : ℕ) → k < words → slice_index zs k ≡ slice_index ys k) → game_at zs ≡ g

-- loading bytes bs turned the memory xs into ys and answered r
pub record LoadsGame (bs xs ys : List ℕ) (r : Result GameSize Refusal) : Type 0 where
  -- what checking refuses is refused so, and nothing is written
  pub refused : (f : Refusal) → checked bs ≡ Err f → (r ≡ Err f) × (ys ≡ xs)
  -- with too little room it is refused with number 3 at place 2, and nothing is written
  pub full : (z : GameSize) → checked bs ≡ Ok z → length xs < words_needed z → (r ≡ Err (record { number = 3; place = 2 })) × (ys ≡ xs)
  -- else the game is there
  pub loaded :
      (z : GameSize) → checked bs ≡ Ok z → words_needed z ≤ length xs
      → (r ≡ Ok z) × ((g : Game) → parse_game bs ≡ Some g → Holds g (words_needed z) xs ys)

-- a good game takes at most 16 words for each of its parts, and 384
abbrev pub WordsAreEnough : Type 0
WordsAreEnough = (g : Game) → good_game g ≡ true → words_needed (size_of g) ≤ 16 * game_parts g + 384

-- What the steps of loading leave. No reader has to believe these: the contract of the whole does not name them.

-- the expressions whose places are the n words from i on
unfoldable pub exprs_at : List ℕ → ℕ → ℕ → List Expr
exprs_at m i zero = []
exprs_at m i (suc n) = expr_at m (slice_index m i) ∷ exprs_at m (i + 1) n

-- how many words effects take: two each, and those of their expressions
unfoldable pub effects_words : List Effect → ℕ
effects_words [] = 0
effects_words (e ∷ es) = 2 + 4 * expr_parts e.cell + 4 * expr_parts e.value + effects_words es

-- how many words a rule takes, besides its own five
abbrev pub rule_words : Rule → ℕ
rule_words u = 4 * expr_parts u.guard + effects_words u.effects

-- how many words rules take, besides the five of each
unfoldable pub rules_words : List Rule → ℕ
rules_words [] = 0
rules_words (u ∷ us) = rule_words u + rules_words us

-- a was read, and the bytes q are left; it is what memory means by `wide` words from `table` on and `words` words from `at` on
pub record Placed (A : Type 0) (means : List ℕ → A) (a : A) (words : ℕ) (q : List ℕ) (table wide at : ℕ) (xs ys : List ℕ) (e : End) : Type 0 where
  pub left : q ≡ e.rest.now
  pub ends : e.next ≡ at + words
  -- nothing else is written before its end
  pub below : (k : ℕ) → k < table → slice_index ys k ≡ slice_index xs k
  pub between : (k : ℕ) → table + wide ≤ k → k < at → slice_index ys k ≡ slice_index xs k
  -- it stays what it is whatever is written elsewhere
  pub stays : (zs : List ℕ) → SameBetween table (table + wide) zs ys → SameBetween at e.next zs ys → means zs ≡ a

-- it was placed, and not refused
abbrev pub Places : (A : Type 0) → (List ℕ → A) → A → ℕ → List ℕ → ℕ → ℕ → ℕ → List ℕ → List ℕ → Option End → Type 0
Places A means a words q table wide at xs ys r = MatchOption r ⊥ (λ e. Placed A means a words q table wide at xs ys e)

-- n expressions can be read, none is too deep, and there is room for them, whose places are numbers of four bytes
pub record ExprsThere (bs : List ℕ) (n at room : ℕ) (es : List Expr) (q : List ℕ) : Type 0 where
  pub reads : read_exprs n bs ≡ got es q
  pub fit : within_levels 33 es ≡ true
  pub enough : at + 4 * exprs_parts es ≤ room
  pub small : room ≤ 4294967295

-- a good rule can be read, and there is room for it, whose places are numbers of four bytes
pub record RuleThere (bs : List ℕ) (at room : ℕ) (u : Rule) (q : List ℕ) : Type 0 where
  pub reads : read_rule bs ≡ got u q
  pub fit : good_rules (u ∷ []) ≡ true
  pub enough : at + rule_words u ≤ room
  pub small : room ≤ 4294967295

-- n good rules can be read, and there is room for them, whose places are numbers of four bytes
pub record RulesThere (bs : List ℕ) (n at room : ℕ) (us : List Rule) (q : List ℕ) : Type 0 where
  pub reads : read_rules n bs ≡ got us q
  pub fit : good_rules us ≡ true
  pub enough : at + rules_words us ≤ room
  pub small : room ≤ 4294967295

-- if n expressions are there, and the words for their places before them, they are placed
abbrev pub PlacesExprs : List ℕ → ℕ → List ℕ → List ℕ → ℕ → ℕ → Option End → Type 0
PlacesExprs bs n xs ys table at r =
    (es : List Expr) (q : List ℕ) → table + n ≤ at → ExprsThere bs n at (length xs) es q
    → Places (List Expr) (λ m. exprs_at m table n) es (4 * exprs_parts es) q table n at xs ys r

-- if a rule is there, and its words before it, it is placed
abbrev pub PlacesRule : List ℕ → List ℕ → List ℕ → ℕ → ℕ → Option End → Type 0
PlacesRule bs xs ys row at r =
    (u : Rule) (q : List ℕ) → row + 5 ≤ at → RuleThere bs at (length xs) u q
    → Places Rule (λ m. rule_at_word m row) u (rule_words u) q row 5 at xs ys r

-- if n rules are there, and their words before them, they are placed
abbrev pub PlacesRules : List ℕ → ℕ → List ℕ → List ℕ → ℕ → ℕ → Option End → Type 0
PlacesRules bs n xs ys row at r =
    (us : List Rule) (q : List ℕ) → row + 5 * n ≤ at → RulesThere bs n at (length xs) us q
    → Places (List Rule) (λ m. rules_at m row n) us (rules_words us) q row (5 * n) at xs ys r

-- the words of a rule at `row` were written, but for the place of its guard, and nothing else
pub record RuleWritten (row a b n t : ℕ) (xs ys : List ℕ) : Type 0 where
  pub first_is : slice_index_or ys row 0 ≡ a
  pub second_is : slice_index_or ys (row + 1) 0 ≡ b
  pub count_is : slice_index_or ys (row + 3) 0 ≡ n
  pub place_is : slice_index_or ys (row + 4) 0 ≡ t
  pub guard : slice_index_or ys (row + 2) 0 ≡ slice_index xs (row + 2)
  pub below : (k : ℕ) → k < row → slice_index ys k ≡ slice_index xs k
  pub above : (k : ℕ) → row + 5 ≤ k → slice_index ys k ≡ slice_index xs k

-- the first three words of a game were written, and nothing else
pub record HeaderWritten (p c n : ℕ) (xs ys : List ℕ) : Type 0 where
  pub players_is : slice_index_or ys 0 0 ≡ p
  pub cells_is : slice_index_or ys 1 0 ≡ c
  pub count_is : slice_index_or ys 2 0 ≡ n
  pub above : (k : ℕ) → 3 ≤ k → slice_index ys k ≡ slice_index xs k

-- a good game of size z is filled in, and is the game of whatever memory has the same words
abbrev pub Fills : List ℕ → GameSize → List ℕ → Option Unit → Type 0
Fills bs z ys r =
    (g : Game) → parse_game bs ≡ Some g → good_game g ≡ true → z ≡ size_of g
    → IsSome r × ((zs : List ℕ) → SameBetween 0 (words_needed z) zs ys → game_at zs ≡ g)
