-- Lists in memory: how long they are, what stands in them, and effects one by one.
use Rattle.std.proofs.Common.{◌≡◌, ℕ, zero, suc, ◌+◌, ◌-◌, ◌*◌, ◌<◌, ◌≤◌, List, length, get_or, set, sym, refl, ap, ◌∙◌, arith}
use Rattle.std.proofs.lemmas.List.{get_or_past}
use Rattle.rules.specs.Rules.{no_rule, rule_at, eval, apply_effects}
use Rattle.eval.specs.Memory.{expr_at}
use Rattle.rows.specs.Layout.{words_at, effect_at, effects_at, rule_at_word, rules_at, game_at}
use Rattle.rows.specs.declared.read.GameRow.{GameRow}
use Rattle.rows.specs.Reading.{header, IsGame, rule_of, IsRule}

module _ (m : List ℕ) where
  -- the words of a list in memory
  length_words : (n i : ℕ) → length (words_at m i n) ≡ n
  unfolding words_at
  length_words zero i = refl
  length_words (suc n) i = ap suc (length_words n (i + 1))

  get_d_words : (n k i : ℕ) → k < n → get_or (words_at m i n) k 0 ≡ get_or m (i + k) 0
  unfolding words_at
  get_d_words zero k i h = absurd (omega arith)
  get_d_words (suc n) zero i h = let e : i ≡ i + 0 = omega arith in ap (λ j. get_or m j 0) e
  get_d_words (suc n) (suc k) i h =
      let e : i + 1 + k ≡ i + suc k = omega arith in
      get_d_words n k (i + 1) (omega arith) ∙ ap (λ j. get_or m j 0) e

  -- and its rules
  length_rules : (n i : ℕ) → length (rules_at m i n) ≡ n
  unfolding rules_at
  length_rules zero i = refl
  length_rules (suc n) i = ap suc (length_rules n (i + 5))

  get_d_rules : (n k i : ℕ) → k < n → get_or (rules_at m i n) k no_rule ≡ rule_at_word m (i + 5 * k)
  unfolding rules_at
  get_d_rules zero k i h = absurd (omega arith)
  get_d_rules (suc n) zero i h = let e : i ≡ i + 5 * 0 = omega arith in ap (rule_at_word m) e
  get_d_rules (suc n) (suc k) i h =
      let e : i + 5 + 5 * k ≡ i + 5 * suc k = omega arith in
      get_d_rules n k (i + 5) (omega arith) ∙ ap (rule_at_word m) e

  -- the first words say how many cells and rules the game has
  pub cells_are : get_or m 1 0 ≡ length (game_at m).start
  unfolding game_at
  cells_are = sym (length_words (get_or m 1 0) 5)

  pub rules_are : get_or m 2 0 ≡ length (game_at m).rules
  unfolding game_at
  rules_are = sym (length_rules (get_or m 2 0) (5 + get_or m 1 0))

  -- words that are read one by one are the header, and this says what the game is
  pub header_from : {p c r t g : ℕ}
      → p ≡ get_or m 0 0 → c ≡ get_or m 1 0 → r ≡ get_or m 2 0 → t ≡ get_or m 3 0 → g ≡ get_or m 4 0
      → record { players = p; cells = c; rules = r; terminal = t; payoff = g } ≡ header m
  header_from ep ec er et eg = rw (ep, ec, er, et, eg) refl

  header_is_game : IsGame m (header m)
  unfolding game_at
  header_is_game = record { players_are = refl; cells_are = cells_are; rules_are = rules_are; terminal_is = refl; payoff_is = refl }

  pub is_game : {row : GameRow} → row ≡ header m → IsGame m row
  is_game e = rw e header_is_game

  -- a cell at the start, on the board and past it
  pub start_there : {n i v : ℕ} → n ≡ get_or m 1 0 → i < n → v ≡ get_or m (5 + i) 0 → v ≡ get_or (game_at m).start i 0
  unfolding game_at
  start_there {n} {i} en h ev = ev ∙ sym (get_d_words (get_or m 1 0) i 5 (omega arith))

  pub start_past : {n i : ℕ} → n ≡ get_or m 1 0 → n ≤ i → 0 ≡ get_or (game_at m).start i 0
  start_past {n} {i} en h = let l = cells_are in sym (get_or_past (game_at m).start i 0 (omega arith))

  -- where the game has no rule r
  pub rule_past : {n r : ℕ} → n ≡ get_or m 2 0 → n ≤ r → length (game_at m).rules ≤ r
  rule_past en h = let l = rules_are in omega arith

  rule_there : (r : ℕ) → r < get_or m 2 0 → rule_at (game_at m) r ≡ rule_at_word m (5 + get_or m 1 0 + 5 * r)
  unfolding game_at
  rule_there r h = get_d_rules (get_or m 2 0) r (5 + get_or m 1 0) h

  rule_words : (i : ℕ) {a b g n e : ℕ}
      → a ≡ get_or m i 0 → b ≡ get_or m (i + 1) 0 → g ≡ get_or m (i + 2) 0 → n ≡ get_or m (i + 3) 0 → e ≡ get_or m (i + 4) 0
      → rule_of m (record { first_bound = a; second_bound = b; guard = g; effects = n; effects_at = e }) ≡ rule_at_word m i
  unfolding rule_at_word
  rule_words i ea eb eg en ee = rw (ea, eb, eg, en, ee) refl

  -- where it has one, the words read are those of that rule
  pub rule_found : {k w r a b g n e : ℕ} → k ≡ get_or m 2 0 → r < k → w ≡ get_or m 1 0
      → let i : ℕ = 5 + w + 5 * r in
      a ≡ get_or m i 0 → b ≡ get_or m (i + 1) 0 → g ≡ get_or m (i + 2) 0 → n ≡ get_or m (i + 3) 0 → e ≡ get_or m (i + 4) 0
      → IsRule m r (record { first_bound = a; second_bound = b; guard = g; effects = n; effects_at = e })
  rule_found {k} {w} {r} ek h ew ea eb eg en ee =
      let l = rules_are in
      let same : 5 + w + 5 * r ≡ 5 + get_or m 1 0 + 5 * r = omega arith in
      record {
        there = omega arith;
        same = rule_words (5 + w + 5 * r) ea eb eg en ee ∙ ap (rule_at_word m) same ∙ sym (rule_there r (omega arith));
      }

-- Effects in memory m, for a move's numbers x and y and the player me.
module _ (m : List ℕ) (x y me : ℕ) where
  step : (n i : ℕ) (p : List ℕ) → apply_effects (effects_at m i (suc n)) p x y me
      ≡ apply_effects (effects_at m (i + 2) n) (set p (eval (expr_at m (get_or m i 0)) p x y me) (eval (expr_at m (get_or m (i + 1) 0)) p x y me)) x y me
  unfolding effects_at effect_at apply_effects
  step n i p = refl

  -- what is left after the effect with number i, in the position q that it makes of p, gives the same as what was left before it
  pub one_more : (at : ℕ) (p : List ℕ) {n i a b j v : ℕ} {q : List ℕ} → i < n
      → a ≡ get_or m (at + 2 * i) 0 → j ≡ eval (expr_at m a) p x y me
      → b ≡ get_or m (at + 2 * i + 1) 0 → v ≡ eval (expr_at m b) p x y me → q ≡ set p j v
      → apply_effects (effects_at m (at + 2 * (i + 1)) (n - (i + 1))) q x y me ≡ apply_effects (effects_at m (at + 2 * i) (n - i)) p x y me
  one_more at p {n} {i} h ea ej eb ev eq =
      let en : n - i ≡ suc (n - (i + 1)) = omega arith in
      let ei : at + 2 * (i + 1) ≡ at + 2 * i + 2 = omega arith in
      let e = step (n - (i + 1)) (at + 2 * i) p in
      rw (en, ei) cc

  -- after the last effect the position stays
  pub none_left : (n i at : ℕ) (p : List ℕ) → n ≤ i → apply_effects (effects_at m at (n - i)) p x y me ≡ p
  unfolding effects_at apply_effects
  none_left n i at p h = let e : n - i ≡ 0 = omega arith in rw e refl
