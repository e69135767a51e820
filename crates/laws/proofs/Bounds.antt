-- The tests of a game and of limits say just what their bounds do.
use Rattle.std.proofs.Common.{◌≡◌, ℕ, ◌≤◌, true, ◌&&◌, ltb, leb, List, [], ◌∷◌, length, refl, arith}
use Rattle.std.specs.List.{AllByRecursion}
use Rattle.std.proofs.lemmas.Bool.{leb-true, le-leb, ltb-true, lt-ltb, and_parts, and_from}
use Rattle.rules.specs.declared.Limits.{Limits}
use Rattle.rules.specs.Rules.{Effect, Rule, Game}
use Rattle.rules.specs.Bounds.{fits_depth, possible_moves, game_parts, good_effects, good_rules, all_below, good_game, good_limits}
use Rattle.laws.specs.Bounds.{GoodEffect, GoodRule, GoodGame, GoodLimits, GoodJustIf}

effects_say : (es : List Effect) → good_effects es ≡ true → AllByRecursion GoodEffect es
unfolding good_effects
effects_say [] h = tt
effects_say (e ∷ es) h =
    let a = and_parts _ _ h in
    let b = and_parts _ _ a.1 in
    (record { cell = a.0; value = b.0 }, effects_say es b.1)

effects_from : (es : List Effect) → AllByRecursion GoodEffect es → good_effects es ≡ true
unfolding good_effects
effects_from [] h = refl
effects_from (e ∷ es) (good, rest) = and_from _ _ good.cell (and_from _ _ good.value (effects_from es rest))

rules_say : (rs : List Rule) → good_rules rs ≡ true → AllByRecursion GoodRule rs
unfolding good_rules
rules_say [] h = tt
rules_say (r ∷ rs) h =
    let a = and_parts ((leb r.first_bound 256 && leb r.second_bound 256) && leb (length r.effects) 255) _ h in
    let b = and_parts (leb r.first_bound 256 && leb r.second_bound 256) (leb (length r.effects) 255) a.0 in
    let c = and_parts (leb r.first_bound 256) (leb r.second_bound 256) b.0 in
    let d = and_parts (fits_depth r.guard 32) (good_effects r.effects && good_rules rs) a.1 in
    let e = and_parts (good_effects r.effects) (good_rules rs) d.1 in (
      record {
        first = leb-true _ _ c.0;
        second = leb-true _ _ c.1;
        how_many_effects = leb-true _ _ b.1;
        guard = d.0;
        effects = effects_say r.effects e.0;
      },
      rules_say rs e.1,
    )

rules_from : (rs : List Rule) → AllByRecursion GoodRule rs → good_rules rs ≡ true
unfolding good_rules
rules_from [] h = refl
rules_from (r ∷ rs) (good, rest) =
    and_from _ _ (and_from _ _ (and_from _ _ (le-leb _ _ good.first) (le-leb _ _ good.second)) (le-leb _ _ good.how_many_effects))
    (and_from _ _ good.guard (and_from _ _ (effects_from r.effects good.effects) (rules_from rs rest)))

cells_say : (p : List ℕ) → all_below 65536 p ≡ true → AllByRecursion (λ a. a ≤ 65535) p
unfolding all_below
cells_say [] h = tt
cells_say (a ∷ p) h =
    let b = and_parts (ltb a 65536) (all_below 65536 p) h in
    (omega (arith, ltb-true a 65536 b.0), cells_say p b.1)

cells_from : (p : List ℕ) → AllByRecursion (λ a. a ≤ 65535) p → all_below 65536 p ≡ true
unfolding all_below
cells_from [] h = refl
cells_from (a ∷ p) (small, rest) = and_from _ _ (lt-ltb a 65536 (omega arith)) (cells_from p rest)

game_says : (g : Game) → good_game g ≡ true → GoodGame g
unfolding good_game
game_says g h =
    let plays = leb 1 g.players && leb g.players 4 in
    let cells = (leb 1 (length g.start) && leb (length g.start) 256) && all_below 65536 g.start in
    let rules = leb (length g.rules) 64 && good_rules g.rules in
    let counts = leb (possible_moves g.rules) 4096 && leb (game_parts g) 16384 in
    let ends = fits_depth g.terminal 32 && fits_depth g.payoff 32 in
    let a = and_parts (plays && cells) (rules && (counts && ends)) h in
    let b = and_parts plays cells a.0 in
    let c = and_parts rules (counts && ends) a.1 in
    let d = and_parts counts ends c.1 in
    let some = and_parts _ _ b.0 in
    let board = and_parts (leb 1 (length g.start) && leb (length g.start) 256) (all_below 65536 g.start) b.1 in
    let size = and_parts _ _ board.0 in
    let listed = and_parts (leb (length g.rules) 64) (good_rules g.rules) c.0 in
    let few = and_parts _ _ d.0 in
    let last = and_parts (fits_depth g.terminal 32) (fits_depth g.payoff 32) d.1 in
    record {
      someone_plays = leb-true _ _ some.0;
      how_many_play = leb-true _ _ some.1;
      some_cell = leb-true _ _ size.0;
      how_many_cells = leb-true _ _ size.1;
      cells = cells_say g.start board.1;
      how_many_rules = leb-true _ _ listed.0;
      rules = rules_say g.rules listed.1;
      how_many_moves = leb-true _ _ few.0;
      how_many_parts = leb-true _ _ few.1;
      terminal = last.0;
      payoff = last.1;
    }

game_from : (g : Game) → GoodGame g → good_game g ≡ true
unfolding good_game
game_from g good =
    and_from _ _
    (and_from _ _ (and_from _ _ (le-leb _ _ good.someone_plays) (le-leb _ _ good.how_many_play))
    (and_from _ _ (and_from _ _ (le-leb _ _ good.some_cell) (le-leb _ _ good.how_many_cells)) (cells_from g.start good.cells)))
    (and_from _ _ (and_from _ _ (le-leb _ _ good.how_many_rules) (rules_from g.rules good.rules))
    (and_from _ _ (and_from _ _ (le-leb _ _ good.how_many_moves) (le-leb _ _ good.how_many_parts))
    (and_from _ _ good.terminal good.payoff)))

limits_say : (l : Limits) → good_limits l ≡ true → GoodLimits l
unfolding good_limits
limits_say l h =
    let a = and_parts (leb l.tables 1024) (leb l.moves 1000000 && leb l.positions 8192) h in
    let b = and_parts (leb l.moves 1000000) (leb l.positions 8192) a.1 in
    record { tables = leb-true _ _ a.0; moves = leb-true _ _ b.0; positions = leb-true _ _ b.1 }

limits_from : (l : Limits) → GoodLimits l → good_limits l ≡ true
unfolding good_limits
limits_from l good = and_from _ _ (le-leb _ _ good.tables) (and_from _ _ (le-leb _ _ good.moves) (le-leb _ _ good.positions))

pub good_just_if : GoodJustIf
good_just_if = record { game = λ g. (game_says g, game_from g); limits = λ l. (limits_say l, limits_from l) }
