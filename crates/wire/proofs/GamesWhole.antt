-- All bytes of a game, step by step.
use Rattle.std.proofs.Common.{◌≡◌, ℕ, zero, suc, ◌+◌, ◌*◌, ◌<◌, ◌≤◌, Bool, not, ◌&&◌, ◌||◌, List, [], ◌∷◌, length, take, drop, Some, None, is_some, sym, refl, ap, ◌∙◌, ⊎_elim, arith}
use Rattle.std.specs.Prelude.{option_map}
use Rattle.std.proofs.Math.Bool.{and-true}
use Rattle.std.proofs.lemmas.Bool.{cases_lt}
use Rattle.std.proofs.lemmas.List.{drop-drop, length-drop}
use Rattle.rules.specs.Rules.{Expr, Rule, Game}
use Rattle.rules.specs.Bounds.{fits_depth, expr_parts, game_parts}
use Rattle.wire.specs.declared.walks.Totals.{Totals}
use Rattle.wire.specs.Numbers.{bytes_value}
use Rattle.wire.specs.Exprs.{Parsed, got, unreadable, and_then, part, read_exprs}
use Rattle.wire.specs.Excess.{shallow_rules, shallow}
use Rattle.wire.specs.Games.{read_number, read_cells, read_rules, read_game, whole, parse_game}
use Rattle.wire.specs.GamesWalk.{as_read, exprs_parts, within_levels, behind, totals_of, found_of}
use Rattle.wire.proofs.ExprsBack.{sized}
use Rattle.wire.proofs.GamesHead.{none_read, was_read}
use Rattle.wire.proofs.GamesRule.{number_at, word_short, byte_read, no_byte, is_fit, either_not}
use Rattle.wire.proofs.GamesRules.{rules_sized}

-- cells of two bytes each
cells_there : (n : ℕ) (bs : List ℕ) → 2 * n ≤ length bs → (cs : List ℕ) × (read_cells n bs ≡ got cs (drop (2 * n) bs)) × (length cs ≡ n)
unfolding read_cells
cells_there zero bs h = ([], refl, refl)
cells_there (suc n) bs h =
    let c : ℕ = bytes_value (take 2 bs) in
    let more = cells_there n (drop 2 bs) (omega (arith, length-drop 2 bs)) in
    let rest : drop (2 * n) (drop 2 bs) ≡ drop (2 * suc n) bs = drop-drop (2 * n) 2 bs ∙ ap (λ k. drop k bs) (omega arith) in (
      c ∷ more.0,
      ap (λ x. and_then x (λ c r. and_then (read_cells n r) (λ cs q. got (c ∷ cs) q))) (number_at 2 bs 0 (omega arith))
          ∙ ap (λ x. and_then x (λ cs q. got (c ∷ cs) q)) more.1 ∙ ap (got (c ∷ more.0)) rest,
      ap suc more.2,
    )

cells_short : (n : ℕ) (bs : List ℕ) → length bs < 2 * n → read_cells n bs ≡ unreadable
unfolding read_cells
cells_short zero bs h = absurd (omega arith)
cells_short (suc n) bs h =
    ⊎_elim (λ lt. ap (λ x. and_then x (λ c r. and_then (read_cells n r) (λ cs q. got (c ∷ cs) q))) (word_short bs lt))
    (λ ge.
    ap (λ x. and_then x (λ c r. and_then (read_cells n r) (λ cs q. got (c ∷ cs) q))) (number_at 2 bs 0 (omega arith))
    ∙ ap (λ x. and_then x (λ cs q. got (bytes_value (take 2 bs) ∷ cs) q)) (cells_short n (drop 2 bs) (omega (arith, length-drop 2 bs))))
    (cases_lt (length bs) 2)

-- what is read, one part of a game after the other
abbrev game_of : ℕ → List ℕ → List Rule → List Expr → Game
game_of p cs us es = record { players = p; start = cs; rules = us; terminal = part es 0; payoff = part es 1 }

abbrev after_last : ℕ → List ℕ → List Rule → List Expr → List ℕ → Parsed Game
after_last p cs us es r = got (game_of p cs us es) r

abbrev after_rules : ℕ → List ℕ → List Rule → List ℕ → Parsed Game
after_rules p cs us r = and_then (read_exprs 2 r) (after_last p cs us)

abbrev after_rule_count : ℕ → List ℕ → ℕ → List ℕ → Parsed Game
after_rule_count p cs m r = and_then (read_rules m r) (after_rules p cs)

abbrev after_cells : ℕ → List ℕ → List ℕ → Parsed Game
after_cells p cs r = and_then (read_number 1 r) (after_rule_count p cs)

abbrev after_cell_count : ℕ → ℕ → List ℕ → Parsed Game
after_cell_count p n r = and_then (read_cells n r) (after_cells p)

abbrev after_players : ℕ → List ℕ → Parsed Game
after_players p r = and_then (read_number 2 r) (after_cell_count p)

-- the two expressions at the end
last_counted :
    (es : List Expr) → length es ≡ 2
    → (expr_parts (part es 0) + expr_parts (part es 1) ≡ exprs_parts es) × ((fits_depth (part es 0) 32 && fits_depth (part es 1) 32) ≡ within_levels 33 es)
unfolding exprs_parts within_levels
last_counted [] h = absurd (omega arith)
last_counted (a ∷ []) h = absurd (omega arith)
last_counted (a ∷ b ∷ []) h = (omega arith, ap (λ t. fits_depth a 32 && t) (sym (and-true (fits_depth b 32))))
last_counted (a ∷ b ∷ c ∷ es) h = absurd (omega arith)

pub no_game : (bs : List ℕ) → read_game bs ≡ unreadable → None ≡ option_map found_of (parse_game bs)
unfolding parse_game
no_game bs h = ap (λ p. option_map found_of (whole p)) (sym h)

pub no_players : (bs : List ℕ) → length bs ≡ 0 → read_game bs ≡ unreadable
unfolding read_game
no_players bs h = ap (λ x. and_then x after_players) (no_byte bs h)

module _ (bs r₁ : List ℕ) (p : ℕ) (players : bs ≡ p ∷ r₁) where
  players_read : read_game bs ≡ after_players p r₁
  unfolding read_game
  players_read = ap (λ x. and_then x after_players) (ap (read_number 1) players ∙ byte_read p r₁)

  pub no_cell_count : unreadable ≡ read_number 2 r₁ → read_game bs ≡ unreadable
  no_cell_count h = players_read ∙ ap (λ x. and_then x (after_cell_count p)) (sym h)

  module _ (r₂ : List ℕ) (n : ℕ) (cell_count : got n r₂ ≡ read_number 2 r₁) where
    cell_count_read : read_game bs ≡ after_cell_count p n r₂
    cell_count_read = players_read ∙ ap (λ x. and_then x (after_cell_count p)) (sym cell_count)

    pub no_cells : length r₂ < 2 * n → read_game bs ≡ unreadable
    no_cells h = cell_count_read ∙ ap (λ x. and_then x (after_cells p)) (cells_short n r₂ h)

    module _ (r₃ : List ℕ) (long : 2 * n ≤ length r₂) (cells : r₃ ≡ drop (2 * n) r₂) where
      start : List ℕ
      start = (cells_there n r₂ long).0

      cells_read : read_game bs ≡ after_cells p start r₃
      unfolding start
      cells_read =
          let cs = cells_there n r₂ long in
          cell_count_read ∙ ap (λ x. and_then x (after_cells p)) cs.1 ∙ ap (after_cells p cs.0) (sym cells)

      pub no_rule_count : length r₃ ≡ 0 → read_game bs ≡ unreadable
      no_rule_count h = cells_read ∙ ap (λ x. and_then x (after_rule_count p start)) (no_byte r₃ h)

      module _ (r₄ : List ℕ) (m : ℕ) (rule_count : r₃ ≡ m ∷ r₄) where
        rule_count_read : read_game bs ≡ after_rule_count p start m r₄
        rule_count_read = cells_read ∙ ap (λ x. and_then x (after_rule_count p start)) (ap (read_number 1) rule_count ∙ byte_read m r₄)

        pub no_rules : unreadable ≡ as_read (totals_of 0) (read_rules m r₄) → read_game bs ≡ unreadable
        no_rules h = rule_count_read ∙ ap (λ x. and_then x (after_rules p start)) (none_read (totals_of 0) _ h)

        module _ (r₅ : List ℕ) (t : Totals) (rules : got t r₅ ≡ as_read (totals_of 0) (read_rules m r₄)) where
          read : (us : List Rule) × (read_rules m r₄ ≡ got us r₅) × (t ≡ totals_of 0 us)
          read = was_read (totals_of 0) (read_rules m r₄) t r₅ rules

          rules_read : read_game bs ≡ after_rules p start read.0 r₅
          rules_read = rule_count_read ∙ ap (λ x. and_then x (after_rules p start)) read.1

          pub no_last : unreadable ≡ as_read exprs_parts (read_exprs 2 r₅) → read_game bs ≡ unreadable
          no_last h = rules_read ∙ ap (λ x. and_then x (after_last p start read.0)) (none_read exprs_parts _ h)

          module _ (r₆ : List ℕ) (x : ℕ) (last : got x r₆ ≡ as_read exprs_parts (read_exprs 2 r₅)) where
            ends : (es : List Expr) × (read_exprs 2 r₅ ≡ got es r₆) × (x ≡ exprs_parts es)
            ends = was_read exprs_parts (read_exprs 2 r₅) x r₆ last

            game_read : read_game bs ≡ got (game_of p start read.0 ends.0) r₆
            game_read = rules_read ∙ ap (λ y. and_then y (after_last p start read.0)) ends.1

            pub left_over : 0 < length r₆ → None ≡ option_map found_of (parse_game bs)
            unfolding parse_game
            left_over h = go r₆ h ∙ ap (λ y. option_map found_of (whole y)) (sym game_read)
              where
                go : (r : List ℕ) → 0 < length r → None ≡ option_map found_of (whole (got (game_of p start read.0 ends.0) r))
                go [] h = absurd (omega arith)
                go (b ∷ r) h = refl

            pub game_found :
                (deep : Bool) → length r₆ ≡ 0 → deep ≡ (t.deep || not (is_some (behind 33 (read_exprs 2 r₅))))
                → Some (record { players = p; cells = n; rules = m; totals = record { effects = t.effects; moves = t.moves; parts = t.parts + x; bound = t.bound; deep = deep } })
                ≡ option_map found_of (parse_game bs)
            unfolding parse_game game_parts shallow found_of start
            game_found deep h is =
                let g : Game = game_of p (cells_there n r₂ long).0 read.0 ends.0 in
                let two = last_counted ends.0 (sized 2 r₅ ends.0 r₆ ends.1).0 in
                let count : n ≡ length g.start = sym (cells_there n r₂ long).2 in
                let many : m ≡ length g.rules = sym (rules_sized m r₄ read.0 r₅ read.1) in
                let parts : t.parts + x ≡ game_parts g = omega (arith, ap (λ s. s.parts) read.2, ends.2, two.0) in
                let depth : deep ≡ not (shallow_rules g.rules && (fits_depth g.terminal 32 && fits_depth g.payoff 32)) =
                is ∙ (λ i. (read.2 i).deep || not (is_some (behind 33 (ends.1 i)))) ∙ ap (λ b. not (shallow_rules g.rules) || not b) (is_fit (within_levels 33 ends.0) r₆)
                ∙ either_not (shallow_rules g.rules) (within_levels 33 ends.0) ∙ ap (λ b. not (shallow_rules g.rules && b)) (sym two.1) in
                (λ i. Some (record { players = p; cells = count i; rules = many i; totals = record { effects = (read.2 i).effects; moves = (read.2 i).moves; parts = parts i; bound = (read.2 i).bound; deep = depth i } }))
                ∙ go r₆ h ∙ ap (λ y. option_map found_of (whole y)) (sym game_read)
              where
                go : (r : List ℕ) → length r ≡ 0
                    → Some (found_of (game_of p (cells_there n r₂ long).0 read.0 ends.0)) ≡ option_map found_of (whole (got (game_of p (cells_there n r₂ long).0 read.0 ends.0) r))
                go [] h = refl
                go (b ∷ r) h = absurd (omega arith)
