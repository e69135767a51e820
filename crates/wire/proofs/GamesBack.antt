-- What was read as a game was written so; and good games can be written.
use Rattle.std.proofs.Common.{◌≡◌, ℕ, zero, suc, ◌*◌, ◌^◌, ◌<◌, Bool, true, ◌&&◌, ltb, leb, List, [], ◌∷◌, ◌++◌, length, take, drop, Some, sym, refl, ap, ◌∙◌, subst, append_assoc, arith}
use Rattle.std.proofs.lemmas.Bool.{and_parts, and_from, lt-ltb, leb-true}
use Rattle.std.proofs.lemmas.List.{append-nil, length-take-le, take-append-drop}
use Rattle.rules.specs.Rules.{Expr, Rule, Game}
use Rattle.rules.specs.Bounds.{all_below}
use Rattle.wire.specs.Numbers.{number_bytes, bytes_value}
use Rattle.wire.specs.Exprs.{expr_bytes, expr_fits, Parsed, got, unreadable, part, read_exprs}
use Rattle.wire.specs.Games.{cells_bytes, effects_bytes, rule_bytes, rules_bytes, game_bytes, effects_fit, rule_fits, rules_fit, fits_bytes, read_number, read_cells, effects_of, read_rule, read_rules, read_game, whole, parse_game, GameWritesBack}
use Rattle.wire.proofs.Numbers.{bytes_of_value}
use Rattle.wire.proofs.ExprsNumbers.{value_below}
use Rattle.wire.proofs.Exprs.{exprs_bytes, exprs_fit}
use Rattle.wire.proofs.ExprsBack.{with_got, same_got, cond_got, sized, wrote_exprs}

below_parts : (xs ys : List ℕ) → all_below 256 (xs ++ ys) ≡ true → (all_below 256 xs ≡ true) × (all_below 256 ys ≡ true)
unfolding all_below
below_parts [] ys h = (refl, h)
below_parts (x ∷ xs) ys h =
    let p = and_parts (ltb x 256) (all_below 256 (xs ++ ys)) h in
    let q = below_parts xs ys p.1 in
    (and_from _ _ p.0 q.0, q.1)

-- bytes are those of what was read, which fits, and others
pub record Wrote (bs front : List ℕ) (fits : Bool) (r : List ℕ) : Type 0 where
  pub bytes : bs ≡ front ++ r
  pub good : fits ≡ true
  pub left : all_below 256 r ≡ true

wrote : (bs front : List ℕ) (fits : Bool) (r : List ℕ) → all_below 256 bs ≡ true → bs ≡ front ++ r → fits ≡ true → Wrote bs front fits r
wrote bs front fits r al e f = record { bytes = e; good = f; left = (below_parts front r (ap (all_below 256) (sym e) ∙ al)).1 }

number_wrote : (w : ℕ) (bs : List ℕ) (n : ℕ) (r : List ℕ) → all_below 256 bs ≡ true → read_number w bs ≡ got n r → Wrote bs (number_bytes w n) (ltb n (256 ^ w)) r
unfolding read_number
number_wrote w bs n r al h =
    let g = cond_got (leb w (length bs)) (got (bytes_value (take w bs)) (drop w bs)) n r h in
    let e = same_got (bytes_value (take w bs)) n (drop w bs) r g.1 in
    let len : length (take w bs) ≡ w = length-take-le w bs (leb-true w (length bs) g.0) in
    let all : all_below 256 (take w bs) ≡ true = (below_parts (take w bs) (drop w bs) (ap (all_below 256) (take-append-drop w bs) ∙ al)).0 in
    let is : number_bytes w n ≡ take w bs = (λ i. number_bytes (sym len i) (sym e.0 i)) ∙ bytes_of_value (take w bs) all in
    let low : n < 256 ^ w = subst (λ v. v < 256 ^ w) e.0 (subst (λ k. bytes_value (take w bs) < 256 ^ k) len (value_below (take w bs) all)) in
    wrote bs (number_bytes w n) _ r al (sym (take-append-drop w bs) ∙ (λ i. sym is i ++ e.1 i)) (lt-ltb n (256 ^ w) low)

cells_wrote :
    (n : ℕ) (bs cs r : List ℕ) → all_below 256 bs ≡ true → read_cells n bs ≡ got cs r
    → Wrote bs (cells_bytes cs) (all_below 65536 cs) r × (length cs ≡ n)
unfolding read_cells cells_bytes all_below
cells_wrote zero bs cs r al h =
    let e = same_got [] cs bs r h in
    (wrote bs (cells_bytes cs) _ r al (e.1 ∙ ap (λ l. cells_bytes l ++ r) e.0) (sym (ap (all_below 65536) e.0)), sym (ap length e.0))
cells_wrote (suc n) bs cs r al h =
    with_got (read_number 2 bs) _ cs r _ h (λ d q₁ e₁ h₁. with_got (read_cells n q₁) _ cs r _ h₁ (λ ds q₂ e₂ h₂.
    let one = number_wrote 2 bs d q₁ al e₁ in
    let others = cells_wrote n q₁ ds q₂ one.left e₂ in
    let e = same_got (d ∷ ds) cs q₂ r h₂ in
    let flat : number_bytes 2 d ++ (cells_bytes ds ++ q₂) ≡ cells_bytes (d ∷ ds) ++ q₂ = sym (append_assoc (number_bytes 2 d) (cells_bytes ds) q₂) in (
      wrote bs (cells_bytes cs) _ r al
          (one.bytes ∙ ap (λ l. number_bytes 2 d ++ l) others.0.bytes ∙ flat ∙ (λ i. cells_bytes (e.0 i) ++ e.1 i))
          (ap (all_below 65536) (sym e.0) ∙ and_from _ _ one.good others.0.good),
      ap length (sym e.0) ∙ ap suc others.1,
    )))

pub one_part : (es : List Expr) → length es ≡ 1 → es ≡ part es 0 ∷ []
one_part [] h = absurd (omega arith)
one_part (a ∷ []) h = refl
one_part (a ∷ b ∷ es) h = absurd (omega arith)

pub two_parts : (es : List Expr) → length es ≡ 2 → es ≡ part es 0 ∷ part es 1 ∷ []
two_parts [] h = absurd (omega arith)
two_parts (a ∷ []) h = absurd (omega arith)
two_parts (a ∷ b ∷ []) h = refl
two_parts (a ∷ b ∷ c ∷ es) h = absurd (omega arith)

-- expressions by twos are effects
effects_back :
    (n : ℕ) (es : List Expr) → length es ≡ 2 * n
    → (exprs_bytes es ≡ effects_bytes (effects_of es)) × (exprs_fit es ≡ effects_fit (effects_of es)) × (length (effects_of es) ≡ n)
unfolding exprs_bytes exprs_fit effects_of effects_bytes effects_fit
effects_back zero [] h = (refl, refl, refl)
effects_back zero (a ∷ es) h = absurd (omega arith)
effects_back (suc n) [] h = absurd (omega arith)
effects_back (suc n) (a ∷ []) h = absurd (omega arith)
effects_back (suc n) (a ∷ b ∷ es) h =
    let ih = effects_back n es (omega arith) in
    (ap (λ l. expr_bytes a ++ (expr_bytes b ++ l)) ih.0, ap (λ t. expr_fits a && (expr_fits b && t)) ih.1, ap suc ih.2)

pub exprs_wrote : (n : ℕ) (bs : List ℕ) (es : List Expr) (r : List ℕ) → all_below 256 bs ≡ true → read_exprs n bs ≡ got es r → Wrote bs (exprs_bytes es) (exprs_fit es) r
exprs_wrote n bs es r al h = let p = wrote_exprs n bs es r al h in wrote bs (exprs_bytes es) (exprs_fit es) r al p.0 p.1

rule_made :
    (bs r₁ r₂ r₃ r₄ r₅ : List ℕ) (a b n : ℕ) (es fs : List Expr) → all_below 256 bs ≡ true → read_number 2 bs ≡ got a r₁ → read_number 2 r₁ ≡ got b r₂
    → read_exprs 1 r₂ ≡ got es r₃ → read_number 1 r₃ ≡ got n r₄ → read_exprs (2 * n) r₄ ≡ got fs r₅
    → let u : Rule = record { first_bound = a; second_bound = b; guard = part es 0; effects = effects_of fs } in Wrote bs (rule_bytes u) (rule_fits u) r₅
unfolding rule_bytes rule_fits exprs_bytes exprs_fit
rule_made bs r₁ r₂ r₃ r₄ r₅ a b n es fs al e₁ e₂ e₃ e₄ e₅ =
    let w₁ = number_wrote 2 bs a r₁ al e₁ in
    let w₂ = number_wrote 2 r₁ b r₂ w₁.left e₂ in
    let w₃ = exprs_wrote 1 r₂ es r₃ w₂.left e₃ in
    let w₄ = number_wrote 1 r₃ n r₄ w₃.left e₄ in
    let w₅ = exprs_wrote (2 * n) r₄ fs r₅ w₄.left e₅ in
    let one = one_part es (sized 1 r₂ es r₃ e₃).0 in
    let twos = effects_back n fs (sized (2 * n) r₄ fs r₅ e₅).0 in
    let u : Rule = record { first_bound = a; second_bound = b; guard = part es 0; effects = effects_of fs } in
    let guard-bytes : exprs_bytes es ≡ expr_bytes (part es 0) = ap exprs_bytes one ∙ append-nil (expr_bytes (part es 0)) in
    let guard_fits = and_parts (expr_fits (part es 0)) true (ap exprs_fit (sym one) ∙ w₃.good) in
    let x₁ : List ℕ = number_bytes 2 a in
    let x₂ : List ℕ = number_bytes 2 b in
    let x₃ : List ℕ = expr_bytes (part es 0) in
    let x₄ : List ℕ = number_bytes 1 (length (effects_of fs)) in
    let x₅ : List ℕ = effects_bytes (effects_of fs) in
    let flat : x₁ ++ (x₂ ++ (x₃ ++ (x₄ ++ (x₅ ++ r₅)))) ≡ rule_bytes u ++ r₅ = simp append_assoc in
    let four : r₃ ≡ x₄ ++ r₄ = w₄.bytes ∙ ap (λ k. number_bytes 1 k ++ r₄) (sym twos.2) in
    let five : r₄ ≡ x₅ ++ r₅ = w₅.bytes ∙ ap (λ l. l ++ r₅) twos.0 in
    wrote bs (rule_bytes u) _ r₅ al
    (w₁.bytes ∙ ap (λ l. x₁ ++ l) (w₂.bytes ∙ ap (λ l. x₂ ++ l) (w₃.bytes ∙ (λ i. guard-bytes i ++ (four ∙ ap (λ l. x₄ ++ l) five) i))) ∙ flat)
    (and_from _ _ (and_from _ _ w₁.good w₂.good)
    (and_from _ _ guard_fits.0 (and_from _ _ (ap (λ k. ltb k 256) twos.2 ∙ w₄.good) (sym twos.1 ∙ w₅.good))))

rule_wrote : (bs : List ℕ) (u : Rule) (r : List ℕ) → all_below 256 bs ≡ true → read_rule bs ≡ got u r → Wrote bs (rule_bytes u) (rule_fits u) r
unfolding read_rule
rule_wrote bs u r al h =
    let X : Type 0 = Wrote bs (rule_bytes u) (rule_fits u) r in
    with_got (read_number 2 bs) _ u r X h (λ a r₁ e₁ h₁. with_got (read_number 2 r₁) _ u r X h₁ (λ b r₂ e₂ h₂.
    with_got (read_exprs 1 r₂) _ u r X h₂ (λ es r₃ e₃ h₃. with_got (read_number 1 r₃) _ u r X h₃ (λ n r₄ e₄ h₄.
    with_got (read_exprs (2 * n) r₄) _ u r X h₄ (λ fs r₅ e₅ h₅.
    let e = same_got (record { first_bound = a; second_bound = b; guard = part es 0; effects = effects_of fs }) u r₅ r h₅ in
    subst (λ q. Wrote bs (rule_bytes u) (rule_fits u) q) e.1
    (subst (λ v. Wrote bs (rule_bytes v) (rule_fits v) r₅) e.0 (rule_made bs r₁ r₂ r₃ r₄ r₅ a b n es fs al e₁ e₂ e₃ e₄ e₅)))))))

rules_wrote :
    (n : ℕ) (bs : List ℕ) (us : List Rule) (r : List ℕ) → all_below 256 bs ≡ true → read_rules n bs ≡ got us r
    → Wrote bs (rules_bytes us) (rules_fit us) r × (length us ≡ n)
unfolding read_rules rules_bytes rules_fit
rules_wrote zero bs us r al h =
    let e = same_got [] us bs r h in
    (wrote bs (rules_bytes us) _ r al (e.1 ∙ ap (λ l. rules_bytes l ++ r) e.0) (sym (ap rules_fit e.0)), sym (ap length e.0))
rules_wrote (suc n) bs us r al h =
    with_got (read_rule bs) _ us r _ h (λ v q₁ e₁ h₁. with_got (read_rules n q₁) _ us r _ h₁ (λ vs q₂ e₂ h₂.
    let one = rule_wrote bs v q₁ al e₁ in
    let others = rules_wrote n q₁ vs q₂ one.left e₂ in
    let e = same_got (v ∷ vs) us q₂ r h₂ in
    let flat : rule_bytes v ++ (rules_bytes vs ++ q₂) ≡ rules_bytes (v ∷ vs) ++ q₂ = sym (append_assoc (rule_bytes v) (rules_bytes vs) q₂) in (
      wrote bs (rules_bytes us) _ r al
          (one.bytes ∙ ap (λ l. rule_bytes v ++ l) others.0.bytes ∙ flat ∙ (λ i. rules_bytes (e.0 i) ++ e.1 i))
          (ap rules_fit (sym e.0) ∙ and_from _ _ one.good others.0.good),
      ap length (sym e.0) ∙ ap suc others.1,
    )))

game_made :
    (bs r₁ r₂ r₃ r₄ r₅ : List ℕ) (p n m : ℕ) (cs : List ℕ) (us : List Rule) (es : List Expr) → all_below 256 bs ≡ true → read_number 1 bs ≡ got p r₁
    → read_number 2 r₁ ≡ got n r₂ → read_cells n r₂ ≡ got cs r₃ → read_number 1 r₃ ≡ got m r₄ → read_rules m r₄ ≡ got us r₅ → read_exprs 2 r₅ ≡ got es []
    → let g : Game = record { players = p; start = cs; rules = us; terminal = part es 0; payoff = part es 1 } in
    (bs ≡ game_bytes g) × (fits_bytes g ≡ true)
unfolding game_bytes fits_bytes exprs_bytes exprs_fit
game_made bs r₁ r₂ r₃ r₄ r₅ p n m cs us es al e₁ e₂ e₃ e₄ e₅ e₆ =
    let w₁ = number_wrote 1 bs p r₁ al e₁ in
    let w₂ = number_wrote 2 r₁ n r₂ w₁.left e₂ in
    let w₃ = cells_wrote n r₂ cs r₃ w₂.left e₃ in
    let w₄ = number_wrote 1 r₃ m r₄ w₃.0.left e₄ in
    let w₅ = rules_wrote m r₄ us r₅ w₄.left e₅ in
    let w₆ = exprs_wrote 2 r₅ es [] w₅.0.left e₆ in
    let two = two_parts es (sized 2 r₅ es [] e₆).0 in
    let last : r₅ ≡ expr_bytes (part es 0) ++ expr_bytes (part es 1) =
    w₆.bytes ∙ append-nil (exprs_bytes es) ∙ ap exprs_bytes two ∙ ap (λ l. expr_bytes (part es 0) ++ l) (append-nil (expr_bytes (part es 1))) in
    let fit₀ = and_parts (expr_fits (part es 0)) (expr_fits (part es 1) && true) (ap exprs_fit (sym two) ∙ w₆.good) in
    let fit₁ = and_parts (expr_fits (part es 1)) true fit₀.1 in
    let x₂ : List ℕ = number_bytes 2 (length cs) in
    let x₄ : List ℕ = number_bytes 1 (length us) in
    let s₂ : r₁ ≡ x₂ ++ r₂ = w₂.bytes ∙ ap (λ k. number_bytes 2 k ++ r₂) (sym w₃.1) in
    let s₄ : r₃ ≡ x₄ ++ r₄ = w₄.bytes ∙ ap (λ k. number_bytes 1 k ++ r₄) (sym w₅.1) in (
      w₁.bytes ∙ ap (λ l. number_bytes 1 p ++ l) (s₂ ∙ ap (λ l. x₂ ++ l) (w₃.0.bytes ∙ ap (λ l. cells_bytes cs ++ l)
          (s₄ ∙ ap (λ l. x₄ ++ l) (w₅.0.bytes ∙ ap (λ l. rules_bytes us ++ l) last)))),
      and_from _ _ (and_from _ _ w₁.good (and_from _ _ (ap (λ k. ltb k 65536) w₃.1 ∙ w₂.good) w₃.0.good))
          (and_from _ _ (and_from _ _ (ap (λ k. ltb k 256) w₅.1 ∙ w₄.good) w₅.0.good) (and_from _ _ fit₀.0 fit₁.0)),
    )

pub whole_got : (p : Parsed Game) (g : Game) → whole p ≡ Some g → p ≡ got g []
whole_got (got f []) g h = let e : f ≡ g = cc in ap (λ x. got x []) e
whole_got (got f (b ∷ r)) g h = let z : ◌≡◌ {A = ℕ} 0 1 = cc in absurd (omega arith)
whole_got unreadable g h = let z : ◌≡◌ {A = ℕ} 0 1 = cc in absurd (omega arith)

pub game_writes_back : GameWritesBack
unfolding parse_game read_game
game_writes_back bs g al h =
    let X : Type 0 = (bs ≡ game_bytes g) × (fits_bytes g ≡ true) in
    with_got (read_number 1 bs) _ g [] X (whole_got (read_game bs) g h) (λ p r₁ e₁ h₁. with_got (read_number 2 r₁) _ g [] X h₁ (λ n r₂ e₂ h₂.
    with_got (read_cells n r₂) _ g [] X h₂ (λ cs r₃ e₃ h₃. with_got (read_number 1 r₃) _ g [] X h₃ (λ m r₄ e₄ h₄.
    with_got (read_rules m r₄) _ g [] X h₄ (λ us r₅ e₅ h₅. with_got (read_exprs 2 r₅) _ g [] X h₅ (λ es r₆ e₆ h₆.
    let e = same_got (record { players = p; start = cs; rules = us; terminal = part es 0; payoff = part es 1 }) g r₆ [] h₆ in
    subst (λ v. (bs ≡ game_bytes v) × (fits_bytes v ≡ true)) e.0
    (game_made bs r₁ r₂ r₃ r₄ r₅ p n m cs us es al e₁ e₂ e₃ e₄ e₅ (e₆ ∙ ap (got es) e.1))))))))
