-- A rule at the front of the bytes, step by step; and at a place of them.
use Rattle.std.proofs.Common.{◌≡◌, ℕ, zero, suc, ◌+◌, ◌-◌, ◌*◌, ◌<◌, ◌≤◌, Bool, true, false, cond, not, ◌&&◌, ◌||◌, List, [], ◌∷◌, length, get_or, take, drop, Some, None, is_some, sym, refl, ap, ◌∙◌, ⊎_elim, arith}
use Rattle.std.proofs.Math.Bool.{and-true}
use Rattle.std.proofs.lemmas.Bool.{cond-true, cond-false, le-leb, lt-leb, cases_lt}
use Rattle.std.proofs.lemmas.List.{drop_more, drop-drop, length-drop}
use Rattle.rules.specs.Rules.{Expr, Rule}
use Rattle.rules.specs.Bounds.{fits_depth, expr_parts, effect_parts, rule_parts, possible_moves, good_effects}
use Rattle.wire.specs.Numbers.{bytes_value}
use Rattle.wire.specs.Fields.{word_at}
use Rattle.wire.specs.Exprs.{Parsed, got, unreadable, and_then, part, read_exprs}
use Rattle.wire.specs.Excess.{bound_excess, shallow_rules}
use Rattle.wire.specs.Games.{read_number, effects_of, read_rule, total_effects}
use Rattle.wire.specs.GamesWalk.{as_read, exprs_parts, within_levels, behind, rule_bound, one_total}
use Rattle.wire.proofs.FieldLists as FieldLists
use Rattle.wire.proofs.ExprsBack.{not_got, same_got, sized}
use Rattle.wire.proofs.GamesHead.{none_read, was_read}

-- the two bytes at i
two_front : (bs : List ℕ) (i : ℕ) → i + 2 ≤ length bs → drop i bs ≡ get_or bs i 0 ∷ get_or bs (i + 1) 0 ∷ drop (i + 2) bs
two_front bs i h =
    let two : i + 1 + 1 ≡ i + 2 = omega arith in
    drop_more bs i 0 (omega arith) ∙ ap (λ l. get_or bs i 0 ∷ l) (drop_more bs (i + 1) 0 (omega arith) ∙ ap (λ n. get_or bs (i + 1) 0 ∷ drop n bs) two)

pub word_is : (bs : List ℕ) (i : ℕ) → i + 2 ≤ length bs → get_or bs i 0 + 256 * get_or bs (i + 1) 0 ≡ word_at bs i
unfolding bytes_value
word_is bs i h =
    let x : ℕ = get_or bs i 0 in
    let y : ℕ = get_or bs (i + 1) 0 in
    let sum : x + 256 * y ≡ x + 256 * (y + 256 * 0) = omega arith in
    sum ∙ ap (λ l. bytes_value (take 2 l)) (sym (two_front bs i h))

pub byte_is : (bs : List ℕ) (i : ℕ) → i < length bs → bytes_value (take 1 (drop i bs)) ≡ get_or bs i 0
unfolding bytes_value
byte_is bs i h =
    let x : ℕ = get_or bs i 0 in
    let sum : x + 256 * 0 ≡ x = omega arith in
    ap (λ l. bytes_value (take 1 l)) (drop_more bs i 0 h) ∙ sum

pub number_at : (w : ℕ) (bs : List ℕ) (i : ℕ) → i + w ≤ length bs → read_number w (drop i bs) ≡ got (bytes_value (take w (drop i bs))) (drop (i + w) bs)
unfolding read_number
number_at w bs i h =
    cond-true _ _ _ (le-leb w (length (drop i bs)) (omega (arith, length-drop i bs))) ∙ ap (got (bytes_value (take w (drop i bs)))) (drop-drop w i bs)

pub number_short : (w : ℕ) (bs : List ℕ) (i : ℕ) → length bs - i < w → read_number w (drop i bs) ≡ unreadable
unfolding read_number
number_short w bs i h = cond-false _ _ _ (lt-leb w (length (drop i bs)) (omega (arith, length-drop i bs)))

-- what is read, one part of a rule after the other
abbrev rule_of : ℕ → ℕ → List Expr → List Expr → Rule
rule_of a b es fs = record { first_bound = a; second_bound = b; guard = part es 0; effects = effects_of fs }

abbrev after_effects : ℕ → ℕ → List Expr → List Expr → List ℕ → Parsed Rule
after_effects a b es fs q = got (rule_of a b es fs) q

abbrev after_count : ℕ → ℕ → List Expr → ℕ → List ℕ → Parsed Rule
after_count a b es n r = and_then (read_exprs (2 * n) r) (after_effects a b es)

abbrev after_guard : ℕ → ℕ → List Expr → List ℕ → Parsed Rule
after_guard a b es r = and_then (read_number 1 r) (after_count a b es)

abbrev after_second : ℕ → ℕ → List ℕ → Parsed Rule
after_second a b r = and_then (read_exprs 1 r) (after_guard a b)

abbrev after_first : ℕ → List ℕ → Parsed Rule
after_first a r = and_then (read_number 2 r) (after_second a)

module _ (bs : List ℕ) (i : ℕ) where
  first_bound_read : i + 2 ≤ length bs → read_rule (drop i bs) ≡ after_first (word_at bs i) (drop (i + 2) bs)
  unfolding read_rule
  first_bound_read h = ap (λ x. and_then x after_first) (number_at 2 bs i h)

  pub no_bounds : length bs - i < 4 → read_rule (drop i bs) ≡ unreadable
  unfolding read_rule
  no_bounds h =
      ⊎_elim (λ lt. ap (λ x. and_then x after_first) (number_short 2 bs i (omega arith)))
      (λ ge. first_bound_read ge ∙ ap (λ x. and_then x (after_second (word_at bs i))) (number_short 2 bs (i + 2) (omega arith)))
      (cases_lt (length bs) (i + 2))

  module _ (long : i + 4 ≤ length bs) where
    pub bounds_read : read_rule (drop i bs) ≡ after_second (word_at bs i) (word_at bs (i + 2)) (drop (i + 4) bs)
    bounds_read =
        let four : i + 2 + 2 ≡ i + 4 = omega arith in
        first_bound_read (omega arith) ∙ ap (λ x. and_then x (after_second (word_at bs i))) (number_at 2 bs (i + 2) (omega arith))
        ∙ ap (λ n. after_second (word_at bs i) (word_at bs (i + 2)) (drop n bs)) four

-- the same at the front of the bytes
pub word_short : (bs : List ℕ) → length bs < 2 → read_number 2 bs ≡ unreadable
word_short bs h = number_short 2 bs 0 (omega arith)

pub word_read : (bs : List ℕ) (n : ℕ) → n ≡ get_or bs 0 0 + 256 * get_or bs 1 0 → 2 ≤ length bs → got n (drop 2 bs) ≡ read_number 2 bs
word_read bs n is h = ap (λ v. got v (drop 2 bs)) (is ∙ sym (FieldLists.word_is bs 0)) ∙ sym (number_at 2 bs 0 (omega arith))

-- a number of two bytes that was read at the front, and the second one
pub number_was : (bs r : List ℕ) (a : ℕ) → got a r ≡ read_number 2 bs → (a ≡ word_at bs 0) × (r ≡ drop 2 bs)
number_was bs r a h =
    ⊎_elim (λ lt. absurd (not_got a r (sym (h ∙ word_short bs lt))))
    (λ ge. same_got a (word_at bs 0) r (drop 2 bs) (h ∙ number_at 2 bs 0 (omega arith))) (cases_lt (length bs) 2)

pub second_was : (bs r₁ r₂ : List ℕ) (a b : ℕ) → got a r₁ ≡ read_number 2 bs → got b r₂ ≡ read_number 2 r₁ → b ≡ word_at bs 2
second_was bs r₁ r₂ a b h k = (number_was r₁ r₂ b k).0 ∙ ap (λ r. word_at r 0) (number_was bs r₁ a h).1

pub byte_read : (x : ℕ) (bs : List ℕ) → read_number 1 (x ∷ bs) ≡ got x bs
byte_read x bs = number_at 1 (x ∷ bs) 0 (omega arith) ∙ ap (λ n. got n bs) (byte_is (x ∷ bs) 0 (omega arith))

pub no_byte : (bs : List ℕ) → length bs ≡ 0 → read_number 1 bs ≡ unreadable
no_byte bs h = number_short 1 bs 0 (omega arith)

-- expressions by twos, counted
effects_counted :
    (n : ℕ) (fs : List Expr) → length fs ≡ 2 * n
    → (length (effects_of fs) ≡ n) × (effect_parts (effects_of fs) ≡ n + exprs_parts fs) × (good_effects (effects_of fs) ≡ within_levels 33 fs)
unfolding effects_of effect_parts exprs_parts good_effects within_levels
effects_counted zero [] h = (refl, refl, refl)
effects_counted zero (a ∷ fs) h = absurd (omega arith)
effects_counted (suc n) [] h = absurd (omega arith)
effects_counted (suc n) (a ∷ []) h = absurd (omega arith)
effects_counted (suc n) (a ∷ b ∷ fs) h =
    let ih = effects_counted n fs (omega arith) in
    (ap suc ih.0, omega (arith, ih.1), ap (λ t. fits_depth a 32 && (fits_depth b 32 && t)) ih.2)

guard_counted : (es : List Expr) → length es ≡ 1 → (expr_parts (part es 0) ≡ exprs_parts es) × (fits_depth (part es 0) 32 ≡ within_levels 33 es)
unfolding exprs_parts within_levels
guard_counted [] h = absurd (omega arith)
guard_counted (a ∷ []) h = (omega arith, sym (and-true (fits_depth a 32)))
guard_counted (a ∷ b ∷ es) h = absurd (omega arith)

-- whether expressions are too deep, by the bytes behind them
pub is_fit : {X : Type 0} (t : Bool) (x : X) → is_some (cond t (Some x) None) ≡ t
is_fit true x = refl
is_fit false x = refl

pub either_not : (a b : Bool) → (not a || not b) ≡ not (a && b)
either_not true true = refl
either_not true false = refl
either_not false b = refl

-- a rule, part by part
pub no_first : (bs : List ℕ) → unreadable ≡ read_number 2 bs → read_rule bs ≡ unreadable
unfolding read_rule
no_first bs h = ap (λ x. and_then x after_first) (sym h)

module _ (bs r₁ : List ℕ) (a : ℕ) (first : got a r₁ ≡ read_number 2 bs) where
  first_read : read_rule bs ≡ after_first a r₁
  unfolding read_rule
  first_read = ap (λ x. and_then x after_first) (sym first)

  pub no_second : unreadable ≡ read_number 2 r₁ → read_rule bs ≡ unreadable
  no_second h = first_read ∙ ap (λ x. and_then x (after_second a)) (sym h)

  module _ (r₂ : List ℕ) (b : ℕ) (second : got b r₂ ≡ read_number 2 r₁) where
    second_read : read_rule bs ≡ after_second a b r₂
    second_read = first_read ∙ ap (λ x. and_then x (after_second a)) (sym second)

    pub no_guard : unreadable ≡ as_read exprs_parts (read_exprs 1 r₂) → read_rule bs ≡ unreadable
    no_guard h = second_read ∙ ap (λ x. and_then x (after_guard a b)) (none_read exprs_parts _ h)

    module _ (r₃ : List ℕ) (g : ℕ) (guard : got g r₃ ≡ as_read exprs_parts (read_exprs 1 r₂)) where
      guards : List Expr
      guards = (was_read exprs_parts (read_exprs 1 r₂) g r₃ guard).0

      guard_read : read_rule bs ≡ after_guard a b guards r₃
      unfolding guards
      guard_read = second_read ∙ ap (λ x. and_then x (after_guard a b)) (was_read exprs_parts (read_exprs 1 r₂) g r₃ guard).1

      pub no_count : length r₃ ≡ 0 → read_rule bs ≡ unreadable
      no_count h = guard_read ∙ ap (λ x. and_then x (after_count a b guards)) (no_byte r₃ h)

      module _ (r₄ : List ℕ) (n : ℕ) (count : r₃ ≡ n ∷ r₄) where
        count_read : read_rule bs ≡ after_count a b guards n r₄
        count_read = guard_read ∙ ap (λ x. and_then x (after_count a b guards)) (ap (read_number 1) count ∙ byte_read n r₄)

        pub no_effects : unreadable ≡ as_read exprs_parts (read_exprs (2 * n) r₄) → read_rule bs ≡ unreadable
        no_effects h = count_read ∙ ap (λ x. and_then x (after_effects a b guards)) (none_read exprs_parts _ h)

        module _ (r₅ : List ℕ) (x : ℕ) (effects : got x r₅ ≡ as_read exprs_parts (read_exprs (2 * n) r₄)) where
          values : List Expr
          values = (was_read exprs_parts (read_exprs (2 * n) r₄) x r₅ effects).0

          rule_read : read_rule bs ≡ got (rule_of a b guards values) r₅
          unfolding values
          rule_read = count_read ∙ ap (λ y. and_then y (after_effects a b guards)) (was_read exprs_parts (read_exprs (2 * n) r₄) x r₅ effects).1

          pub rule_found :
              (k : ℕ) (deep : Bool) → deep ≡ (not (is_some (behind 33 (read_exprs 1 r₂))) || not (is_some (behind 33 (read_exprs (2 * n) r₄))))
              → got (record { effects = n; moves = a * b; parts = 1 + g + n + x; bound = rule_bound k a b; deep = deep }) r₅ ≡ as_read (one_total k) (read_rule bs)
          unfolding guards values total_effects possible_moves rule_parts bound_excess shallow_rules
          rule_found k deep is =
              let G = was_read exprs_parts (read_exprs 1 r₂) g r₃ guard in
              let V = was_read exprs_parts (read_exprs (2 * n) r₄) x r₅ effects in
              let one = guard_counted G.0 (sized 1 r₂ G.0 r₃ G.1).0 in
              let twos = effects_counted n V.0 (sized (2 * n) r₄ V.0 r₅ V.1).0 in
              let u : Rule = rule_of a b G.0 V.0 in
              let count : n ≡ length u.effects + 0 = omega (arith, twos.0) in
              let moves : a * b ≡ a * b + 0 = omega arith in
              let parts : 1 + g + n + x ≡ 1 + expr_parts u.guard + effect_parts u.effects + 0 = omega (arith, G.2, V.2, one.0, twos.1) in
              let depth : deep ≡ not ((fits_depth u.guard 32 && good_effects u.effects) && true) =
              is ∙ (λ i. not (is_some (behind 33 (G.1 i))) || not (is_some (behind 33 (V.1 i))))
              ∙ (λ i. not (is_fit (within_levels 33 G.0) r₃ i) || not (is_fit (within_levels 33 V.0) r₅ i))
              ∙ either_not (within_levels 33 G.0) (within_levels 33 V.0)
              ∙ (λ i. not (sym one.1 i && sym twos.2 i)) ∙ ap not (sym (and-true (fits_depth u.guard 32 && good_effects u.effects))) in
              (λ i. got (record { effects = count i; moves = moves i; parts = parts i; bound = rule_bound k a b; deep = depth i }) r₅)
              ∙ sym (ap (as_read (one_total k)) rule_read)
