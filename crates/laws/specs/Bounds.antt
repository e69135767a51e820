-- Which games and limits a server may be opened with, bound by bound. Assumes nothing: these are statements.
use Rattle.std.specs.Prelude.{◌≡◌, ◌≤◌, true, length}
use Rattle.std.specs.List.{AllByRecursion}
use Rattle.rules.specs.declared.Limits.{Limits}
use Rattle.rules.specs.Rules.{Effect, Rule, Game}
use Rattle.rules.specs.Bounds.{fits_depth, possible_moves, game_parts, good_game, good_limits}

-- both expressions are at most 32 deep
pub record GoodEffect (e : Effect) : Type 0 where
  pub cell : fits_depth e.cell 32 ≡ true
  pub value : fits_depth e.value 32 ≡ true

pub record GoodRule (r : Rule) : Type 0 where
  pub first : r.first_bound ≤ 256
  pub second : r.second_bound ≤ 256
  pub how_many_effects : length r.effects ≤ 255
  pub guard : fits_depth r.guard 32 ≡ true
  pub effects : AllByRecursion GoodEffect r.effects

-- 1 to 4 play on 1 to 256 cells, each at most 65,535 at the start, by at most 64 rules, which together have at most 4,096 moves;
-- the game has at most 16,384 parts
pub record GoodGame (g : Game) : Type 0 where
  pub someone_plays : 1 ≤ g.players
  pub how_many_play : g.players ≤ 4
  pub some_cell : 1 ≤ length g.start
  pub how_many_cells : length g.start ≤ 256
  pub cells : AllByRecursion (λ a. a ≤ 65535) g.start
  pub how_many_rules : length g.rules ≤ 64
  pub rules : AllByRecursion GoodRule g.rules
  pub how_many_moves : possible_moves g.rules ≤ 4096
  pub how_many_parts : game_parts g ≤ 16384
  pub terminal : fits_depth g.terminal 32 ≡ true
  pub payoff : fits_depth g.payoff 32 ≡ true

-- at most 1,024 tables, 1,000,000 moves and 8,192 positions
pub record GoodLimits (l : Limits) : Type 0 where
  pub tables : l.tables ≤ 1024
  pub moves : l.moves ≤ 1000000
  pub positions : l.positions ≤ 8192

-- a server may be opened with a game and limits just if these hold
pub record GoodJustIf : Type 0 where
  pub game : (g : Game) → (good_game g ≡ true → GoodGame g) × (GoodGame g → good_game g ≡ true)
  pub limits : (l : Limits) → (good_limits l ≡ true → GoodLimits l) × (GoodLimits l → good_limits l ≡ true)
