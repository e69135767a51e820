-- Loading a rule: its guard, its effects, and its own words.
use Rattle.std.proofs.Common.{◌≡◌, ℕ, zero, suc, ◌+◌, ◌*◌, ◌<◌, ◌≤◌, true, ◌&&◌, leb, List, [], ◌∷◌, length, get_or, drop, Some, None, sym, refl, ap, ◌∙◌, arith}
use Rattle.std.proofs.lemmas.Bool.{and_parts, and_from}
use Rattle.rules.specs.Rules.{Expr, Rule}
use Rattle.rules.specs.Bounds.{fits_depth, expr_parts, good_effects, good_rules}
use Rattle.wire.specs.Exprs.{got, part, read_exprs}
use Rattle.wire.specs.Games.{read_number, effects_of, read_rule}
use Rattle.wire.specs.GamesWalk.{exprs_parts, within_levels, word_at}
use Rattle.wire.proofs.ExprsBack.{with_got, not_got, same_got, sized}
use Rattle.wire.proofs.GamesRule.{no_bounds, bounds_read, number_at, number_short, byte_is}
use Rattle.rows.specs.declared.loading.End.{End}
use Rattle.rows.specs.Layout.{effect_at, effects_at, rule_at_word}
use Rattle.rows.specs.Load.{exprs_at, effects_words, rule_words, Placed, ExprsThere, PlacesExprs, RuleThere, RuleWritten}

-- expressions by twos are effects: their words, and whether they are too deep
effects_from : (n : ℕ) (fs : List Expr) → length fs ≡ 2 * n
    → (effects_words (effects_of fs) ≡ 2 * n + 4 * exprs_parts fs) × (good_effects (effects_of fs) ≡ within_levels 33 fs)
unfolding effects_of effects_words exprs_parts good_effects within_levels
effects_from zero [] h = (refl, refl)
effects_from zero (a ∷ fs) h = absurd (omega arith)
effects_from (suc n) [] h = absurd (omega arith)
effects_from (suc n) (a ∷ []) h = absurd (omega arith)
effects_from (suc n) (a ∷ b ∷ fs) h =
    let ih = effects_from n fs (omega arith) in (omega (arith, ih.0), ap (λ t. fits_depth a 32 && (fits_depth b 32 && t)) ih.1)

-- places by twos are places of effects
effects_by_twos : (m : List ℕ) (i n : ℕ) → effects_at m i n ≡ effects_of (exprs_at m i (2 * n))
unfolding effects_of effects_at effect_at exprs_at
effects_by_twos m i zero = refl
effects_by_twos m i (suc n) =
    let e : 2 * suc n ≡ suc (suc (2 * n)) = omega arith in
    let two : i + 1 + 1 ≡ i + 2 = omega arith in
    ap (λ l. effect_at m i ∷ l) (effects_by_twos m (i + 2) n) ∙ ap (λ j. effect_at m i ∷ effects_of (exprs_at m j (2 * n))) (sym two)
    ∙ ap (λ k. effects_of (exprs_at m i k)) (sym e)

-- one expression
one_expr : (es : List Expr) → length es ≡ 1 → fits_depth (part es 0) 32 ≡ true → (exprs_parts es ≡ expr_parts (part es 0)) × (within_levels 33 es ≡ true)
unfolding exprs_parts within_levels
one_expr [] h f = absurd (omega arith)
one_expr (a ∷ []) h f = (omega arith, and_from _ _ f refl)
one_expr (a ∷ b ∷ es) h f = absurd (omega arith)

-- a good rule's expressions are not too deep
good_parts : (u : Rule) → good_rules (u ∷ []) ≡ true → (fits_depth u.guard 32 ≡ true) × (good_effects u.effects ≡ true)
unfolding good_rules
good_parts u h =
    let p = and_parts ((leb u.first_bound 256 && leb u.second_bound 256) && leb (length u.effects) 255) _ h in
    let q = and_parts (fits_depth u.guard 32) _ p.1 in
    (q.0, (and_parts (good_effects u.effects) _ q.1).0)

-- the parts of a rule that can be read
pub record RuleParts (bs : List ℕ) (u : Rule) (q : List ℕ) : Type 0 where
  pub guards : List Expr
  pub past : List ℕ
  pub count : ℕ
  pub front : List ℕ
  pub others : List Expr
  pub reads_guard : read_exprs 1 (drop 4 bs) ≡ got guards past
  pub reads_count : read_number 1 past ≡ got count front
  pub reads_others : read_exprs (2 * count) front ≡ got others q
  pub is : u ≡ record { first_bound = word_at bs 0; second_bound = word_at bs 2; guard = part guards 0; effects = effects_of others }
  pub guard_fits : within_levels 33 guards ≡ true
  pub others_fit : within_levels 33 others ≡ true
  pub words : rule_words u ≡ 4 * exprs_parts guards + 2 * count + 4 * exprs_parts others

-- a good rule that can be read has these parts
pub rule_parts : (bs : List ℕ) (u : Rule) (q : List ℕ) → 4 ≤ length bs → read_rule bs ≡ got u q → good_rules (u ∷ []) ≡ true → RuleParts bs u q
rule_parts bs u q long h good =
    with_got (read_exprs 1 (drop 4 bs)) _ u q _ (sym (bounds_read bs 0 long) ∙ h) (λ es r₃ e₃ h₃.
    with_got (read_number 1 r₃) _ u q _ h₃ (λ n r₄ e₄ h₄.
    with_got (read_exprs (2 * n) r₄) _ u q _ h₄ (λ fs r₅ e₅ h₅.
    let v : Rule = record { first_bound = word_at bs 0; second_bound = word_at bs 2; guard = part es 0; effects = effects_of fs } in
    let e = same_got v u r₅ q h₅ in
    let fits = good_parts v (ap (λ w. good_rules (w ∷ [])) e.0 ∙ good) in
    let one = one_expr es (sized 1 (drop 4 bs) es r₃ e₃).0 fits.0 in
    let twos = effects_from n fs (sized (2 * n) r₄ fs r₅ e₅).0 in
    record {
      guards = es;
      past = r₃;
      count = n;
      front = r₄;
      others = fs;
      reads_guard = e₃;
      reads_count = e₄;
      reads_others = e₅ ∙ ap (got fs) e.1;
      is = sym e.0;
      guard_fits = one.1;
      others_fit = sym twos.1 ∙ fits.1;
      words = sym (ap rule_words e.0) ∙ omega (arith, one.0, twos.0);
    })))

-- too few bytes for a rule's bounds
pub no_bytes : (bs : List ℕ) (at room : ℕ) (u : Rule) (q : List ℕ) → length bs < 4 → RuleThere bs at room u q → ⊥
no_bytes bs at room u q short there = not_got u q (sym (no_bounds bs 0 (omega arith)) ∙ there.reads)

-- a good rule that can be read, and has room
module _
    (bs : List ℕ) (at row : ℕ) (xs qs : List ℕ) (long : 4 ≤ length bs) (tail : qs ≡ drop 4 bs) (u : Rule) (q : List ℕ) (before : row + 5 ≤ at)
    (there : RuleThere bs at (length xs) u q)
  where
    -- its parts
    parts : RuleParts bs u q
    parts = rule_parts bs u q long there.reads there.fit

    -- a rule's guard is there
    guard_there : ExprsThere qs 1 at (length xs) parts.guards parts.past
    guard_there = record { reads = ap (read_exprs 1) tail ∙ parts.reads_guard; fit = parts.guard_fits; enough = omega (arith, parts.words, there.enough); small = there.small }

    -- so its guard is not refused
    pub no_guard : (ys : List ℕ) → PlacesExprs qs 1 xs ys (row + 2) at None → ⊥
    no_guard ys refused = refused parts.guards parts.past (omega arith) guard_there

    -- with the guard loaded
    module _ (ys : List ℕ) (g : End) (size : length ys ≡ length xs) (loaded : PlacesExprs qs 1 xs ys (row + 2) at (Some g)) where
      -- it is placed
      guard : Placed (List Expr) (λ m. exprs_at m (row + 2) 1) parts.guards (4 * exprs_parts parts.guards) parts.past (row + 2) 1 at xs ys g
      guard = loaded parts.guards parts.past (omega arith) guard_there

      -- the count of effects follows
      at_count : read_number 1 g.rest.now ≡ got parts.count parts.front
      at_count = ap (read_number 1) (sym guard.left) ∙ parts.reads_count

      -- so there is a byte for it
      pub no_count : length g.rest.now ≡ 0 → ⊥
      no_count h = not_got parts.count parts.front (sym (number_short 1 g.rest.now 0 (omega arith)) ∙ at_count)

      module _ (n b : ℕ) (rest : List ℕ) (num : n ≡ b) (first : g.rest.now ≡ b ∷ rest) where
        -- the count, and the bytes after it
        counted : (n ≡ parts.count) × (rest ≡ parts.front)
        counted =
            let e = same_got _ parts.count rest parts.front (sym (number_at 1 (b ∷ rest) 0 (omega arith)) ∙ ap (read_number 1) (sym first) ∙ at_count) in
            (num ∙ sym (byte_is (b ∷ rest) 0 (omega arith)) ∙ e.0, e.1)

        -- the places of the effects' expressions are numbers of four bytes
        pub no_room : 4294967295 < g.next + 2 * n → ⊥
        no_room h = omega (arith, counted.0, guard.ends, parts.words, there.enough, there.small)

        -- the expressions of a rule's effects are there
        others_there : (m : ℕ) → m ≡ g.next + 2 * n → ExprsThere rest (2 * n) m (length ys) parts.others q
        others_there m sum = record {
          reads = (λ j. read_exprs (2 * counted.0 j) (counted.1 j)) ∙ parts.reads_others;
          fit = parts.others_fit;
          enough = omega (arith, counted.0, guard.ends, parts.words, there.enough);
          small = omega (arith, there.small);
        }

        -- so they are not refused
        pub no_others : (zs : List ℕ) (m : ℕ) → m ≡ g.next + 2 * n → PlacesExprs rest (2 * n) ys zs g.next m None → ⊥
        no_others zs m sum refused = refused parts.others q (omega arith) (others_there m sum)

        -- with its own words written, the rule is placed
        pub rule_placed :
            (zs ws : List ℕ) (e : End) (a b m : ℕ) → m ≡ g.next + 2 * n → length zs ≡ length ys → a ≡ word_at bs 0 → b ≡ word_at bs 2
            → PlacesExprs rest (2 * n) ys zs g.next m (Some e) → (row + 5 ≤ length zs → RuleWritten row a b n g.next zs ws)
            → Placed Rule (λ m. rule_at_word m row) u (rule_words u) q row 5 at xs ws e
        unfolding rule_at_word exprs_at
        rule_placed zs ws e a b m sum same_size is-a is_b more written =
            let w = written (omega (arith, there.enough)) in
            let others = more parts.others q (omega arith) (others_there m sum) in
            let far : at ≤ g.next = omega (arith, guard.ends) in
            let end : e.next ≡ g.next + 2 * n + 4 * exprs_parts parts.others = omega (arith, others.ends) in
            record {
              left = others.left;
              ends = omega (arith, counted.0, guard.ends, parts.words);
              below = λ k h. w.below k h ∙ others.below k (omega arith) ∙ guard.below k (omega arith);
              between = λ k h l. w.above k h ∙ others.below k (omega arith) ∙ guard.between k (omega arith) l;
              stays = λ vs table here.
                  let word : (k : ℕ) → k < 5 → get_or vs (row + k) 0 ≡ get_or ws (row + k) 0 = λ k h. table (row + k) (omega arith) (omega arith) in
                  let zero_more : row + 0 ≡ row = omega arith in
                  let first : get_or vs row 0 ≡ word_at bs 0 = ap (λ k. get_or vs k 0) (sym zero_more) ∙ word 0 (omega arith) ∙ ap (λ k. get_or ws k 0) zero_more ∙ w.first_is ∙ is-a in
                  let second : get_or vs (row + 1) 0 ≡ word_at bs 2 = word 1 (omega arith) ∙ w.second_is ∙ is_b in
                  let count : get_or vs (row + 3) 0 ≡ n = word 3 (omega arith) ∙ w.count_is in
                  let place : get_or vs (row + 4) 0 ≡ g.next = word 4 (omega arith) ∙ w.place_is in
                  let guards : exprs_at vs (row + 2) 1 ≡ parts.guards =
                  guard.stays vs (λ k h l.
                  let is : k ≡ row + 2 = omega arith in
                  ap (λ j. get_or vs j 0) is ∙ word 2 (omega arith) ∙ w.guard ∙ ap (λ j. get_or zs j 0) (sym is) ∙ others.below k (omega arith))
                  (λ k h l. here k h (omega arith) ∙ w.above k (omega arith) ∙ others.below k l) in
                  let effects : exprs_at vs g.next (2 * n) ≡ parts.others =
                  others.stays vs (λ k h l. here k (omega arith) (omega arith) ∙ w.above k (omega arith))
                  (λ k h l. here k (omega arith) l ∙ w.above k (omega arith)) in
                  (λ j. record {
                    first_bound = first j;
                    second_bound = second j;
                    guard = part (guards j) 0;
                    effects = ((λ j. effects_at vs (place j) (count j)) ∙ effects_by_twos vs g.next n ∙ ap effects_of effects) j;
                  }) ∙ sym parts.is;
            }
