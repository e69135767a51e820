-- What memory is as a game. Every memory is some game: what is not there reads as 0. Assumes nothing: these are definitions.
use Rattle.std.specs.Prelude.{ℕ, zero, suc, ◌+◌, ◌-◌, ◌*◌, List, [], ◌∷◌, slice_index}
use Rattle.rules.specs.Rules.{Effect, Rule, Game}
use Rattle.wire.specs.declared.games.GameSize.{GameSize}
use Rattle.eval.specs.Memory.{expr_at}

-- the n words from i on
unfoldable pub words_at : List ℕ → ℕ → ℕ → List ℕ
words_at m i zero = []
words_at m i (suc n) = slice_index m i ∷ words_at m (i + 1) n

-- an effect is two words: where the expressions of its cell and of its value are
unfoldable pub effect_at : List ℕ → ℕ → Effect
effect_at m i = record { cell = expr_at m (slice_index m i); value = expr_at m (slice_index m (i + 1)) }

unfoldable pub effects_at : List ℕ → ℕ → ℕ → List Effect
effects_at m i zero = []
effects_at m i (suc n) = effect_at m i ∷ effects_at m (i + 2) n

-- a rule is five words: its bounds, where its guard is, how many effects it has, and where these are
unfoldable pub rule_at_word : List ℕ → ℕ → Rule
rule_at_word m i = record {
  first_bound = slice_index m i;
  second_bound = slice_index m (i + 1);
  guard = expr_at m (slice_index m (i + 2));
  effects = effects_at m (slice_index m (i + 4)) (slice_index m (i + 3));
}

unfoldable pub rules_at : List ℕ → ℕ → ℕ → List Rule
rules_at m i zero = []
rules_at m i (suc n) = rule_at_word m i ∷ rules_at m (i + 5) n

-- a game begins with five words: players, how many cells, how many rules, where the terminal is, and where the payoff is.
-- The cells at the start follow, and then the rules
abbrev pub first_rule : List ℕ → ℕ
first_rule m = 5 + slice_index m 1

unfoldable pub game_at : List ℕ → Game
game_at m = record {
  players = slice_index m 0;
  start = words_at m 5 (slice_index m 1);
  rules = rules_at m (first_rule m) (slice_index m 2);
  terminal = expr_at m (slice_index m 3);
  payoff = expr_at m (slice_index m 4);
}

-- how many words a game of this size takes: rules and effects are parts too, and have their words besides those of the expressions' parts
abbrev pub words_needed : GameSize → ℕ
words_needed z = 5 + z.cells + 5 * z.rules + 2 * z.effects + 4 * (z.parts - z.rules - z.effects)
