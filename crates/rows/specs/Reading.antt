-- What the words of a game say of it. Assumes nothing: these are definitions.
use Rattle.std.specs.Prelude.{◌≡◌, ℕ, ◌<◌, ◌≤◌, List, length, Some, None, Option, slice_index}
use Rattle.rules.specs.Rules.{Rule, rule_at}
use Rattle.eval.specs.Memory.{expr_at}
use Rattle.rows.specs.Layout.{effects_at, game_at}
use Rattle.rows.specs.declared.read.GameRow.{GameRow}
use Rattle.rows.specs.declared.read.RuleRow.{RuleRow}

-- the five words that a game begins with
abbrev pub header : List ℕ → GameRow
header m = record { players = slice_index m 0; cells = slice_index m 1; rules = slice_index m 2; terminal = slice_index m 3; payoff = slice_index m 4 }

-- what these words say of the game in memory
pub record IsGame (m : List ℕ) (row : GameRow) : Type 0 where
  pub players_are : row.players ≡ (game_at m).players
  pub cells_are : row.cells ≡ length (game_at m).start
  pub rules_are : row.rules ≡ length (game_at m).rules
  pub terminal_is : expr_at m row.terminal ≡ (game_at m).terminal
  pub payoff_is : expr_at m row.payoff ≡ (game_at m).payoff

-- the rule that the five words of a rule mean
abbrev pub rule_of : List ℕ → RuleRow → Rule
rule_of m row = record {
  first_bound = row.first_bound;
  second_bound = row.second_bound;
  guard = expr_at m row.guard;
  effects = effects_at m row.effects_at row.effects;
}

-- these words are those of rule r of the game in memory
pub record IsRule (m : List ℕ) (r : ℕ) (row : RuleRow) : Type 0 where
  pub there : r < length (game_at m).rules
  pub same : rule_of m row ≡ rule_at (game_at m) r

-- a rule is found exactly if the game has it
abbrev pub ReadsRule : List ℕ → ℕ → Option RuleRow → Type 0
ReadsRule m r None = length (game_at m).rules ≤ r
ReadsRule m r (Some row) = IsRule m r row
