-- The words of effects, rules and a whole game: what they mean, how many they are, and that they fit.
use Rattle.std.proofs.Common.{◌≡◌, ℕ, suc, ◌+◌, ◌*◌, ◌<◌, ◌≤◌, true, ◌&&◌, ltb, leb, List, [], ◌∷◌, ◌++◌, length, get_or, refl, ap, ◌∙◌, subst, arith}
use Rattle.std.proofs.lemmas.Bool.{and_parts, and_from, ltb-true, lt-ltb, leb-true}
use Rattle.std.proofs.lemmas.List.{length-append}
use Rattle.rules.specs.Rules.{Effect, Rule, Game}
use Rattle.rules.specs.Bounds.{fits_depth, expr_parts, game_parts, possible_moves, good_effects, good_rules, good_game, all_below}
use Rattle.wire.specs.Games.{size_of}
use Rattle.wire.proofs.FieldLists.{below_append}
use Rattle.eval.specs.Memory.{expr_at}
use Rattle.rows.specs.Layout.{words_at, effect_at, effects_at, rule_at_word, rules_at, game_at, words_needed}
use Rattle.rows.specs.Load.{effects_words, rule_words, rules_words}
use Rattle.rows.specs.Encoding.{after, root, expr_rows, effects_table, effects_rows, guard_place, effects_place, rule_body, rule_row, rules_table, rules_bodies, bodies_place, terminal_place, payoff_place, encoded_header, encoded, EveryGameHasMemory}
use Rattle.rows.proofs.LoadSize.{game_takes, words_are_enough, few_game_parts}
use Rattle.rows.proofs.EncodingExprs.{Has, has_front, has_back, rows_long, expr_there, rows_fit, fit_words, no_words_fit}

-- the first word, and those after it
has_first : (m : List ℕ) (at a : ℕ) (xs : List ℕ) → Has m at (a ∷ xs) → get_or m at 0 ≡ a
has_first m at a xs h = let e : at ≡ at + 0 = omega arith in ap (λ i. get_or m i 0) e ∙ h 0 (omega arith)

has_rest : (m : List ℕ) (at a : ℕ) (xs : List ℕ) → Has m at (a ∷ xs) → Has m (at + 1) xs
has_rest m at a xs h k l = let e : at + 1 + k ≡ at + suc k = omega arith in ap (λ i. get_or m i 0) e ∙ h (suc k) (omega arith)

words_there : (m : List ℕ) (at : ℕ) (xs : List ℕ) → Has m at xs → words_at m at (length xs) ≡ xs
unfolding words_at
words_there m at [] h = refl
words_there m at (a ∷ xs) h =
    let p = has_first m at a xs h in
    let q = words_there m (at + 1) xs (has_rest m at a xs h) in
    λ j. p j ∷ q j

-- effects
table_long : (at : ℕ) (es : List Effect) → length (effects_table at es) ≡ 2 * length es
unfolding effects_table
table_long at [] = refl
table_long at (e ∷ es) = let ih = table_long (after (after at e.cell) e.value) es in omega arith

effects_long : (at : ℕ) (es : List Effect) → length (effects_rows at es) + 2 * length es ≡ effects_words es
unfolding effects_rows effects_words
effects_long at [] = refl
effects_long at (e ∷ es) =
    let p : ℕ = after at e.cell in
    let q : ℕ = after p e.value in
    let a = length-append (expr_rows at e.cell) (expr_rows p e.value ++ effects_rows q es) in
    let b = length-append (expr_rows p e.value) (effects_rows q es) in
    let ih = effects_long q es in
    omega (arith, rows_long at e.cell, rows_long p e.value)

effects_there :
    (m : List ℕ) (table at : ℕ) (es : List Effect) → good_effects es ≡ true → Has m table (effects_table at es) → Has m at (effects_rows at es)
    → effects_at m table (length es) ≡ es
unfolding effects_at effect_at effects_table effects_rows good_effects
effects_there m table at [] good t h = refl
effects_there m table at (e ∷ es) good t h =
    let g = and_parts (fits_depth e.cell 32) _ good in
    let g' = and_parts (fits_depth e.value 32) _ g.1 in
    let p : ℕ = after at e.cell in
    let q : ℕ = after p e.value in
    let h₁ = has_back m at (expr_rows at e.cell) (expr_rows p e.value ++ effects_rows q es) (4 * expr_parts e.cell) (rows_long at e.cell) h in
    let h₂ = has_back m p (expr_rows p e.value) (effects_rows q es) (4 * expr_parts e.value) (rows_long p e.value) h₁ in
    let rest : List ℕ = effects_table q es in
    let t₁ = has_rest m table (root at e.cell) (root p e.value ∷ rest) t in
    let cell = ap (expr_at m) (has_first m table (root at e.cell) (root p e.value ∷ rest) t)
    ∙ expr_there m at e.cell g.0 (has_front m at (expr_rows at e.cell) (expr_rows p e.value ++ effects_rows q es) h) in
    let value = ap (expr_at m) (has_first m (table + 1) (root p e.value) rest t₁)
    ∙ expr_there m p e.value g'.0 (has_front m p (expr_rows p e.value) (effects_rows q es) h₁) in
    let two : table + 1 + 1 ≡ table + 2 = omega arith in
    let more = effects_there m (table + 2) q es g'.1 (subst (λ i. Has m i rest) two (has_rest m (table + 1) (root p e.value) rest t₁)) h₂ in
    λ j. record { cell = cell j; value = value j } ∷ more j

table_fits :
    (at : ℕ) (es : List Effect) → at + effects_words es ≤ 4294967296 + 2 * length es → all_below 4294967296 (effects_table at es) ≡ true
unfolding effects_table effects_words
table_fits at [] room = no_words_fit
table_fits at (e ∷ es) room =
    let p : ℕ = after (after at e.cell) e.value in
    let size = effects_long p es in
    fit_words _ _ (omega arith) (fit_words _ _ (omega arith) (table_fits p es (omega arith)))

effects_fit :
    (at : ℕ) (es : List Effect) → good_effects es ≡ true → at + effects_words es ≤ 4294967296 + 2 * length es
    → all_below 4294967296 (effects_rows at es) ≡ true
unfolding effects_rows effects_words good_effects
effects_fit at [] good room = no_words_fit
effects_fit at (e ∷ es) good room =
    let g = and_parts (fits_depth e.cell 32) _ good in
    let g' = and_parts (fits_depth e.value 32) _ g.1 in
    let p : ℕ = after at e.cell in
    let size = effects_long (after p e.value) es in
    below_append _ (expr_rows at e.cell) _ (rows_fit 32 at e.cell g.0 (omega arith))
    (below_append _ (expr_rows p e.value) _ (rows_fit 32 p e.value g'.0 (omega arith))
    (effects_fit (after p e.value) es g'.1 (omega arith)))

-- a good rule: its bounds and the count of its effects are small, its guard is not too deep, and its effects are good
pub record GoodRule (u : Rule) : Type 0 where
  pub first : u.first_bound ≤ 256
  pub second : u.second_bound ≤ 256
  pub few : length u.effects ≤ 255
  pub guard : fits_depth u.guard 32 ≡ true
  pub effects : good_effects u.effects ≡ true

pub good_parts : (u : Rule) (us : List Rule) → good_rules (u ∷ us) ≡ true → GoodRule u × (good_rules us ≡ true)
unfolding good_rules
good_parts u us h =
    let p = and_parts ((leb u.first_bound 256 && leb u.second_bound 256) && leb (length u.effects) 255) _ h in
    let q = and_parts (leb u.first_bound 256 && leb u.second_bound 256) _ p.0 in
    let r = and_parts (leb u.first_bound 256) _ q.0 in
    let s = and_parts (fits_depth u.guard 32) _ p.1 in
    let t = and_parts (good_effects u.effects) _ s.1 in (
      record {
        first = leb-true _ 256 r.0;
        second = leb-true _ 256 r.1;
        few = leb-true _ 255 q.1;
        guard = s.0;
        effects = t.0;
      },
      t.1,
    )

body_long : (at : ℕ) (u : Rule) → length (rule_body at u) ≡ rule_words u
body_long at u =
    let p : ℕ = effects_place at u in
    omega (
      arith,
      length-append (effects_table p u.effects) (expr_rows (guard_place at u) u.guard ++ effects_rows p u.effects),
      length-append (expr_rows (guard_place at u) u.guard) (effects_rows p u.effects),
      table_long p u.effects,
      rows_long (guard_place at u) u.guard,
      effects_long p u.effects,
    )

rule_there : (m : List ℕ) (table at : ℕ) (u : Rule) → GoodRule u → Has m table (rule_row at u) → Has m at (rule_body at u) → rule_at_word m table ≡ u
unfolding rule_at_word
rule_there m table at u good t h =
    let p : ℕ = effects_place at u in
    let g : ℕ = guard_place at u in
    let back = has_back m at (effects_table p u.effects) (expr_rows g u.guard ++ effects_rows p u.effects) (2 * length u.effects) (table_long p u.effects) h in
    let end = has_back m g (expr_rows g u.guard) (effects_rows p u.effects) (4 * expr_parts u.guard) (rows_long g u.guard) back in
    let zeroth : table ≡ table + 0 = omega arith in
    let first = ap (λ i. get_or m i 0) zeroth ∙ t 0 (omega arith) in
    let second = t 1 (omega arith) in
    let guard = ap (expr_at m) (t 2 (omega arith)) ∙ expr_there m g u.guard good.guard (has_front m g (expr_rows g u.guard) (effects_rows p u.effects) back) in
    let count = t 3 (omega arith) in
    let place = t 4 (omega arith) in
    let effects = (λ j. effects_at m (place j) (count j))
    ∙ effects_there m at p u.effects good.effects (has_front m at (effects_table p u.effects) (expr_rows g u.guard ++ effects_rows p u.effects) h) end in
    λ j. record { first_bound = first j; second_bound = second j; guard = guard j; effects = effects j }

body_fits : (at : ℕ) (u : Rule) → GoodRule u → at + rule_words u ≤ 4294967296 → all_below 4294967296 (rule_body at u) ≡ true
body_fits at u good room =
    let p : ℕ = effects_place at u in
    let g : ℕ = guard_place at u in
    let size = effects_long p u.effects in
    below_append _ (effects_table p u.effects) _ (table_fits p u.effects (omega arith))
    (below_append _ (expr_rows g u.guard) _ (rows_fit 32 g u.guard good.guard (omega arith))
    (effects_fit p u.effects good.effects (omega arith)))

row_fits : (at : ℕ) (u : Rule) → GoodRule u → at + rule_words u ≤ 4294967296 → at < 4294967296 → all_below 4294967296 (rule_row at u) ≡ true
row_fits at u good room small =
    let size = effects_long (effects_place at u) u.effects in
    fit_words _ _ (omega (arith, good.first)) (fit_words _ _ (omega (arith, good.second)) (fit_words _ _ (omega arith)
    (fit_words _ _ (omega (arith, good.few)) (fit_words _ _ small no_words_fit))))

-- rules
rows_are_five : (at : ℕ) (us : List Rule) → length (rules_table at us) ≡ 5 * length us
unfolding rules_table
rows_are_five at [] = refl
rows_are_five at (u ∷ us) = omega (arith, length-append (rule_row at u) (rules_table (at + rule_words u) us), rows_are_five (at + rule_words u) us)

bodies_long : (at : ℕ) (us : List Rule) → length (rules_bodies at us) ≡ rules_words us
unfolding rules_bodies rules_words
bodies_long at [] = refl
bodies_long at (u ∷ us) =
    omega (arith, length-append (rule_body at u) (rules_bodies (at + rule_words u) us), body_long at u, bodies_long (at + rule_words u) us)

rules_there :
    (m : List ℕ) (table at : ℕ) (us : List Rule) → good_rules us ≡ true → Has m table (rules_table at us) → Has m at (rules_bodies at us)
    → rules_at m table (length us) ≡ us
unfolding rules_at rules_table rules_bodies
rules_there m table at [] good t h = refl
rules_there m table at (u ∷ us) good t h =
    let g = good_parts u us good in
    let next : ℕ = at + rule_words u in
    let one = rule_there m table at u g.0 (has_front m table (rule_row at u) (rules_table next us) t)
    (has_front m at (rule_body at u) (rules_bodies next us) h) in
    let rest = rules_there m (table + 5) next us g.1 (has_back m table (rule_row at u) (rules_table next us) 5 refl t)
    (has_back m at (rule_body at u) (rules_bodies next us) (rule_words u) (body_long at u) h) in
    λ j. one j ∷ rest j

rules_fit :
    (at : ℕ) (us : List Rule) → good_rules us ≡ true → at + rules_words us < 4294967296
    → (all_below 4294967296 (rules_table at us) ≡ true) × (all_below 4294967296 (rules_bodies at us) ≡ true)
unfolding rules_table rules_bodies rules_words
rules_fit at [] good room = (no_words_fit, no_words_fit)
rules_fit at (u ∷ us) good room =
    let g = good_parts u us good in
    let rest = rules_fit (at + rule_words u) us g.1 (omega arith) in (
      below_append _ (rule_row at u) _ (row_fits at u g.0 (omega arith) (omega arith)) rest.0,
      below_append _ (rule_body at u) _ (body_fits at u g.0 (omega arith)) rest.1,
    )

-- what is good of a good game
pub record Good (g : Game) : Type 0 where
  pub players : g.players ≤ 4
  pub cells : length g.start ≤ 256
  pub start : all_below 65536 g.start ≡ true
  pub few_rules : length g.rules ≤ 64
  pub rules : good_rules g.rules ≡ true
  pub few_moves : possible_moves g.rules ≤ 4096
  pub terminal : fits_depth g.terminal 32 ≡ true
  pub payoff : fits_depth g.payoff 32 ≡ true

pub is_good : (g : Game) → good_game g ≡ true → Good g
unfolding good_game
is_good g h =
    let p = and_parts ((leb 1 g.players && leb g.players 4) && ((leb 1 (length g.start) && leb (length g.start) 256) && all_below 65536 g.start)) _ h in
    let a = and_parts (leb 1 g.players && leb g.players 4) _ p.0 in
    let b = and_parts (leb 1 (length g.start) && leb (length g.start) 256) _ a.1 in
    let q = and_parts (leb (length g.rules) 64 && good_rules g.rules) _ p.1 in
    let c = and_parts (leb (length g.rules) 64) _ q.0 in
    let r = and_parts (leb (possible_moves g.rules) 4096 && leb (game_parts g) 16384) _ q.1 in
    let s = and_parts (fits_depth g.terminal 32) _ r.1 in
    record {
      players = leb-true _ 4 (and_parts (leb 1 g.players) _ a.0).1;
      cells = leb-true _ 256 (and_parts (leb 1 (length g.start)) _ b.0).1;
      start = b.1;
      few_rules = leb-true _ 64 c.0;
      rules = c.1;
      few_moves = leb-true _ 4096 (and_parts (leb (possible_moves g.rules) 4096) _ r.0).0;
      terminal = s.0;
      payoff = s.1;
    }

pub small_fit : (xs : List ℕ) → all_below 65536 xs ≡ true → all_below 4294967296 xs ≡ true
unfolding all_below
small_fit [] h = refl
small_fit (x ∷ xs) h =
    let p = and_parts (ltb x 65536) _ h in
    and_from _ _ (lt-ltb x 4294967296 (omega (arith, ltb-true x 65536 p.0))) (small_fit xs p.1)

module _ (g : Game) (good : good_game g ≡ true) where
  -- the parts of the words, from the last to the first
  exprs : List ℕ
  exprs = expr_rows (terminal_place g) g.terminal ++ expr_rows (payoff_place g) g.payoff

  bodies : List ℕ
  bodies = rules_bodies (bodies_place g) g.rules ++ exprs

  tables : List ℕ
  tables = rules_table (bodies_place g) g.rules ++ bodies

  cells : List ℕ
  cells = g.start ++ tables

  there : (m : List ℕ) → Has m 0 (encoded_header g ++ cells) → game_at m ≡ g
  unfolding game_at exprs bodies tables cells
  there m h =
      let k = is_good g good in
      let h₁ = has_back m 0 (encoded_header g) cells 5 refl h in
      let h₂ = has_back m 5 g.start tables (length g.start) refl h₁ in
      let row : ℕ = 5 + length g.start in
      let h₃ = has_back m row (rules_table (bodies_place g) g.rules) bodies (5 * length g.rules) (rows_are_five (bodies_place g) g.rules) h₂ in
      let h₄ = has_back m (bodies_place g) (rules_bodies (bodies_place g) g.rules) exprs (rules_words g.rules) (bodies_long (bodies_place g) g.rules) h₃ in
      let h₅ = has_back m (terminal_place g) (expr_rows (terminal_place g) g.terminal) (expr_rows (payoff_place g) g.payoff) (4 * expr_parts g.terminal)
      (rows_long (terminal_place g) g.terminal) h₄ in
      let players = h 0 (omega arith) in
      let many-cells = h 1 (omega arith) in
      let many-rules = h 2 (omega arith) in
      let start = ap (words_at m 5) many-cells ∙ words_there m 5 g.start (has_front m 5 g.start tables h₁) in
      let rules = (λ j. rules_at m (5 + many-cells j) (many-rules j))
      ∙ rules_there m row (bodies_place g) g.rules k.rules (has_front m row (rules_table (bodies_place g) g.rules) bodies h₂)
      (has_front m (bodies_place g) (rules_bodies (bodies_place g) g.rules) exprs h₃) in
      let terminal = ap (expr_at m) (h 3 (omega arith))
      ∙ expr_there m (terminal_place g) g.terminal k.terminal
      (has_front m (terminal_place g) (expr_rows (terminal_place g) g.terminal) (expr_rows (payoff_place g) g.payoff) h₄) in
      let payoff = ap (expr_at m) (h 4 (omega arith)) ∙ expr_there m (payoff_place g) g.payoff k.payoff h₅ in
      λ j. record { players = players j; start = start j; rules = rules j; terminal = terminal j; payoff = payoff j }

  long : length (encoded_header g ++ cells) ≡ words_needed (size_of g)
  unfolding exprs bodies tables cells
  long =
      let a = length-append g.start tables in
      let b = length-append (rules_table (bodies_place g) g.rules) bodies in
      let c = length-append (rules_bodies (bodies_place g) g.rules) exprs in
      let d = length-append (expr_rows (terminal_place g) g.terminal) (expr_rows (payoff_place g) g.payoff) in
      omega (
        arith,
        game_takes g,
        rows_are_five (bodies_place g) g.rules,
        bodies_long (bodies_place g) g.rules,
        rows_long (terminal_place g) g.terminal,
        rows_long (payoff_place g) g.payoff,
      )

  fit : all_below 4294967296 (encoded_header g ++ cells) ≡ true
  unfolding exprs bodies tables cells
  fit =
      let k = is_good g good in
      let all : after (payoff_place g) g.payoff < 4294967296 =
      omega (arith, game_takes g, words_are_enough g good, few_game_parts g good) in
      let rules = rules_fit (bodies_place g) g.rules k.rules (omega arith) in
      fit_words _ _ (omega (arith, k.players)) (fit_words _ _ (omega (arith, k.cells)) (fit_words _ _ (omega (arith, k.few_rules))
      (fit_words _ _ (omega arith) (fit_words _ _ (omega arith)
      (below_append _ g.start _ (small_fit g.start k.start) (below_append _ (rules_table (bodies_place g) g.rules) _ rules.0
      (below_append _ (rules_bodies (bodies_place g) g.rules) _ rules.1
      (below_append _ (expr_rows (terminal_place g) g.terminal) _ (rows_fit 32 (terminal_place g) g.terminal k.terminal (omega arith))
      (rows_fit 32 (payoff_place g) g.payoff k.payoff (omega arith))))))))))

pub every_game_has_memory : EveryGameHasMemory
unfolding encoded exprs bodies tables cells
every_game_has_memory g good =
    let here : Has (encoded g) 0 (encoded g) = λ k l. let e : 0 + k ≡ k = omega arith in ap (λ i. get_or (encoded g) i 0) e in
    (there g good (encoded g) here, long g good, fit g good)
