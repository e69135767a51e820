-- How many words games take.
use Rattle.std.proofs.Common.{◌≡◌, ◌+◌, ◌*◌, ◌≤◌, true, ◌&&◌, leb, List, [], ◌∷◌, length, refl, arith}
use Rattle.std.proofs.lemmas.Bool.{and_parts, leb-true}
use Rattle.rules.specs.Rules.{Effect, Rule, Game}
use Rattle.rules.specs.Bounds.{expr_parts, effect_parts, rule_parts, game_parts, all_below, possible_moves, good_rules, good_game}
use Rattle.wire.specs.Games.{total_effects, size_of}
use Rattle.rows.specs.Layout.{words_needed}
use Rattle.rows.specs.Load.{effects_words, rules_words, WordsAreEnough}

-- effects take two words each, and four for each part of their expressions
effects_take : (es : List Effect) → effects_words es + 2 * length es ≡ 4 * effect_parts es
unfolding effects_words effect_parts
effects_take [] = refl
effects_take (e ∷ es) = let ih = effects_take es in omega arith

-- rules take the words of their expressions, and two for each effect
pub rules_take : (us : List Rule) → rules_words us + 4 * length us + 2 * total_effects us ≡ 4 * rule_parts us
unfolding rules_words rule_parts total_effects
rules_take [] = refl
rules_take (u ∷ us) =
    let one = effects_take u.effects in
    let ih = rules_take us in
    omega arith

-- each effect is a part
few_effects : (es : List Effect) → length es ≤ effect_parts es
unfolding effect_parts
few_effects [] = omega arith
few_effects (e ∷ es) = let ih = few_effects es in omega arith

-- each rule and each effect is a part
pub few_parts : (us : List Rule) → length us + total_effects us ≤ rule_parts us
unfolding rule_parts total_effects
few_parts [] = omega arith
few_parts (u ∷ us) =
    let one = few_effects u.effects in
    let ih = few_parts us in
    omega arith

-- how many words a game needs, part by part
pub game_takes :
    (g : Game)
    → words_needed (size_of g) ≡ 5 + length g.start + 5 * length g.rules + rules_words g.rules + 4 * expr_parts g.terminal + 4 * expr_parts g.payoff
unfolding size_of game_parts
game_takes g =
    let all = rules_take g.rules in
    let few = few_parts g.rules in
    omega arith

-- a good game has at most 256 cells
few_cells : (g : Game) → good_game g ≡ true → length g.start ≤ 256
unfolding good_game
few_cells g h =
    let p = and_parts ((leb 1 g.players && leb g.players 4) && ((leb 1 (length g.start) && leb (length g.start) 256) && all_below 65536 g.start)) _ h in
    let q = and_parts (leb 1 g.players && leb g.players 4) _ p.0 in
    let r = and_parts (leb 1 (length g.start) && leb (length g.start) 256) _ q.1 in
    leb-true _ 256 (and_parts (leb 1 (length g.start)) _ r.0).1

-- a good game has at most 16,384 parts
pub few_game_parts : (g : Game) → good_game g ≡ true → game_parts g ≤ 16384
unfolding good_game
few_game_parts g h =
    let p = and_parts ((leb 1 g.players && leb g.players 4) && ((leb 1 (length g.start) && leb (length g.start) 256) && all_below 65536 g.start)) _ h in
    let q = and_parts (leb (length g.rules) 64 && good_rules g.rules) _ p.1 in
    let r = and_parts (leb (possible_moves g.rules) 4096 && leb (game_parts g) 16384) _ q.1 in
    leb-true _ 16384 (and_parts (leb (possible_moves g.rules) 4096) _ r.0).1

-- 256 cells at most, and five words at most for each part
pub words_are_enough : WordsAreEnough
unfolding size_of game_parts
words_are_enough g good =
    let cells = few_cells g good in
    let few = few_parts g.rules in
    omega arith
