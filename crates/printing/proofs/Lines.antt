-- The lines of a game, put one after the other.
use Rattle.std.proofs.Common.{◌≡◌, ℕ, ◌%◌, ◌<◌, true, ◌&&◌, ltb, List, [], ◌∷◌, ◌++◌, length, get_or, drop, codes, decimal, sym, refl, ap, ◌∙◌, subst, append_assoc, append-nil}
use Rattle.std.proofs.lemmas.Bool.{and_parts, and_from, ltb-true, lt-ltb}
use Rattle.rules.specs.Rules.{Expr, Game}
use Rattle.rules.specs.Bounds.{all_below}
use Rattle.wire.specs.Exprs.{expr_bytes, expr_fits}
use Rattle.wire.specs.Games.{cells_bytes, effects_bytes, rule_bytes, game_bytes, fits_bytes}
use Rattle.wire.specs.Numbers.{number_bytes}
use Rattle.wire.specs.Fields.{field_at}
use Rattle.wire.proofs.Numbers.{length_bytes}
use Rattle.text.specs.Grammar.{number}
use Rattle.game_text.specs.Text.{expr_pieces, number_pieces}
use Rattle.printing.specs.declared.writer.Writer.{Writer}
use Rattle.printing.specs.Games.{spaced, numbers_text, line, printed_effects, printed_rules, printed}
use Rattle.printing.specs.Puts.{Wrote}
use Rattle.printing.specs.Sorts.{cells, effects, rules, effect_bytes}
use Rattle.printing.specs.Walk.{exprs_bytes, exprs_fit, exprs_pieces, Walked, OnePut, AllPut, EachPut, exprs_text, exprs_line}
use Rattle.printing.proofs.Fits.{rule_parts, game_parts}
use Rattle.printing.proofs.Putting.{join}
use Rattle.printing.proofs.Standing.{rest_at, two_at, byte_at}

pub line_put :
    (w : List ℕ) {bs left : List ℕ} {n : ℕ} {a b c d : Writer} → Wrote a w b → AllPut exprs_bytes exprs_fit exprs_text n bs b c left → Wrote c (10 ∷ []) d →
    AllPut exprs_bytes exprs_fit (exprs_line w) n bs a d left
unfolding line
line_put w h one g es rest e f l = let k = one es rest e f l in record { wrote = join h (join k.wrote g); next = k.next }

pub cell_put : {bs left : List ℕ} {a b : Writer} (v : ℕ) → v ≡ field_at bs 0 % 65536 → Wrote a (32 ∷ decimal v) b → left ≡ drop 2 bs → OnePut cells bs a b left
cell_put {a = a} {b = b} v is h on n rest e f = record {
  wrote = subst (λ x. Wrote a (32 ∷ decimal x) b) (is ∙ two_at n rest (ltb-true n 65536 f) e) h;
  next = rest_at 2 (number_bytes 2 n) on e (length_bytes 2 n);
}

-- an effect: the cell's expression and the value's
pub effect_put : {bs left : List ℕ} {a b : Writer} → AllPut exprs_bytes exprs_fit (exprs_line (codes "  set")) 2 bs a b left → OnePut effects bs a b left
unfolding exprs_bytes exprs_fit exprs_pieces
effect_put {left = left} {a = a} {b = b} h e rest stands fits =
    let p = and_parts (expr_fits e.cell) (expr_fits e.value) fits in
    let bytes : expr_bytes e.cell ++ (expr_bytes e.value ++ []) ≡ effect_bytes e = ap (λ x. expr_bytes e.cell ++ x) (append-nil (expr_bytes e.value)) in
    let pieces : expr_pieces e.cell ++ (expr_pieces e.value ++ []) ≡ expr_pieces e.cell ++ expr_pieces e.value =
    ap (λ x. expr_pieces e.cell ++ x) (append-nil (expr_pieces e.value))
    in
    subst (λ ps. Walked a b (line (codes "  set") ps) left rest) pieces
    (h (e.cell ∷ e.value ∷ []) rest (stands ∙ ap (λ x. x ++ rest) (sym bytes))
    (and_from (expr_fits e.cell) (expr_fits e.value && true) p.0 (and_from (expr_fits e.value) true p.1 refl)) refl)

-- a line of one expression
alone :
    (w : List ℕ) {bs left : List ℕ} {a b : Writer} (e : Expr) (rest : List ℕ) → AllPut exprs_bytes exprs_fit (exprs_line w) 1 bs a b left → bs ≡ expr_bytes e ++ rest →
    expr_fits e ≡ true → Walked a b (line w (expr_pieces e)) left rest
unfolding exprs_bytes exprs_fit exprs_pieces
alone w {left = left} {a = a} {b = b} e rest h stands fits =
    subst (λ ps. Walked a b (line w ps) left rest) (append-nil (expr_pieces e))
    (h (e ∷ []) rest (stands ∙ ap (λ x. x ++ rest) (sym (append-nil (expr_bytes e)))) (and_from (expr_fits e) true fits refl) refl)

-- two numbers of two bytes
pair :
    {bs left : List ℕ} {a b : Writer} (n m : ℕ) (rest : List ℕ) → EachPut cells 2 bs a b left → bs ≡ number_bytes 2 n ++ (number_bytes 2 m ++ rest) →
    n < 65536 → m < 65536 → Walked a b (spaced (number n ∷ number m ∷ [])) left rest
unfolding cells_bytes all_below number_pieces
pair n m rest h stands f g =
    h (n ∷ m ∷ []) rest
    (stands ∙ ap (λ x. number_bytes 2 n ++ x) (ap (λ x. x ++ rest) (sym (append-nil (number_bytes 2 m)))) ∙ sym (append_assoc (number_bytes 2 n) (number_bytes 2 m ++ []) rest))
    (and_from (ltb n 65536) (ltb m 65536 && true) (lt-ltb n 65536 f) (and_from (ltb m 65536) true (lt-ltb m 65536 g) refl)) refl

regroup : (w a n m : List ℕ) → w ++ (a ++ (n ++ m)) ≡ (w ++ (a ++ n)) ++ m
regroup w a n m = simp append_assoc

-- a rule: its bounds, its guard and its effects
pub rule_put :
    {bs r₂ r₄ r₅ left : List ℕ} {a₀ a₁ a₂ a₃ a₄ a₅ : Writer} (v : ℕ) → Wrote a₀ (codes "rule") a₁ → EachPut cells 2 bs a₁ a₂ r₂ → Wrote a₂ (10 ∷ []) a₃ →
    AllPut exprs_bytes exprs_fit (exprs_line (codes "  may")) 1 r₂ a₃ a₄ r₄ → v ≡ get_or r₄ 0 0 → r₅ ≡ drop 1 r₄ → EachPut effects v r₅ a₄ a₅ left →
    OnePut rules bs a₀ a₅ left
unfolding rule_bytes line
rule_put {bs = bs} {a₀ = a₀} {a₅ = a₅} v h₁ h₂ h₃ h₄ is on h₅ u rest stands fits =
    let a = u.first_bound in
    let b = u.second_bound in
    let n = length u.effects in
    let f = rule_parts u fits in
    let bytes : bs ≡ number_bytes 2 a ++ (number_bytes 2 b ++ (expr_bytes u.guard ++ (number_bytes 1 n ++ (effects_bytes u.effects ++ rest)))) =
    stands ∙ simp append_assoc
    in
    let w₂ = pair a b _ h₂ bytes f.first f.second in
    let w₄ = alone (codes "  may") u.guard _ h₄ w₂.next f.guard in
    let count : v ≡ n = is ∙ byte_at n _ f.count w₄.next in
    let w₅ = h₅ u.effects rest (rest_at 1 (number_bytes 1 n) on w₄.next (length_bytes 1 n)) f.effects (sym count) in
    let may : List ℕ = line (codes "  may") (expr_pieces u.guard) ++ printed_effects u.effects in
    record {
      wrote =
          subst (λ x. Wrote a₀ x a₅) (regroup (codes "rule") (spaced (number a ∷ number b ∷ [])) (10 ∷ []) may)
          (join h₁ (join w₂.wrote (join h₃ (join w₄.wrote w₅.wrote))));
      next = w₅.next;
    }

lines : (p d n c cs t : List ℕ) → p ++ (d ++ ((n ++ c) ++ (cs ++ (n ++ t)))) ≡ (p ++ (d ++ n)) ++ ((c ++ (cs ++ n)) ++ t)
lines p d n c cs t = simp append_assoc

game_text :
    (g : Game) (v : ℕ) → v ≡ g.players →
    codes "players"
    ++ ((32 ∷ decimal v) ++ ((10 ∷ codes "cells") ++ (numbers_text g.start ++ ((10 ∷ []) ++ (printed_rules g.rules
    ++ (line (codes "over") (expr_pieces g.terminal) ++ line (codes "gain") (expr_pieces g.payoff)))))))
    ≡ printed g
unfolding printed line spaced
game_text g v e =
    let t : List ℕ = printed_rules g.rules ++ (line (codes "over") (expr_pieces g.terminal) ++ line (codes "gain") (expr_pieces g.payoff)) in
    lines (codes "players") (32 ∷ decimal v) (10 ∷ []) (codes "cells") (numbers_text g.start) t
    ∙ ap (λ x. (codes "players" ++ ((32 ∷ x) ++ (10 ∷ []))) ++ ((codes "cells" ++ (numbers_text g.start ++ (10 ∷ []))) ++ t))
    (ap decimal e ∙ sym (append-nil (decimal g.players)))

-- the whole game
pub game_put :
    {bs r₁ r₂ r₄ r₅ r₆ r₇ r₈ : List ℕ} {a₀ a₁ a₂ a₃ a₄ a₅ a₆ a₇ a₈ : Writer} (p n m : ℕ) → p ≡ get_or bs 0 0 → r₁ ≡ drop 1 bs → Wrote a₀ (codes "players") a₁ →
    Wrote a₁ (32 ∷ decimal p) a₂ → Wrote a₂ (10 ∷ codes "cells") a₃ → n ≡ field_at r₁ 0 % 65536 → r₂ ≡ drop 2 r₁ → EachPut cells n r₂ a₃ a₄ r₄ → Wrote a₄ (10 ∷ []) a₅ →
    m ≡ get_or r₄ 0 0 → r₅ ≡ drop 1 r₄ → EachPut rules m r₅ a₅ a₆ r₆ → AllPut exprs_bytes exprs_fit (exprs_line (codes "over")) 1 r₆ a₆ a₇ r₇ →
    AllPut exprs_bytes exprs_fit (exprs_line (codes "gain")) 1 r₇ a₇ a₈ r₈ → (g : Game) → bs ≡ game_bytes g → fits_bytes g ≡ true → Wrote a₀ (printed g) a₈
unfolding game_bytes
game_put {a₀ = a₀} {a₈ = a₈} v₁ v₂ v₅ is₁ on₁ h₁ h₂ h₃ is₂ on₂ h₄ h₅ is₅ on₅ h₆ h₇ h₈ g e fits =
    let p = g.players in
    let n = length g.start in
    let m = length g.rules in
    let f = game_parts g fits in
    let players : v₁ ≡ p = is₁ ∙ byte_at p _ f.players e in
    let b₁ = rest_at 1 (number_bytes 1 p) on₁ e (length_bytes 1 p) in
    let cells : v₂ ≡ n = is₂ ∙ two_at n _ f.size b₁ in
    let w₄ = h₄ g.start _ (rest_at 2 (number_bytes 2 n) on₂ b₁ (length_bytes 2 n)) f.start (sym cells) in
    let rules : v₅ ≡ m = is₅ ∙ byte_at m _ f.count w₄.next in
    let w₆ = h₆ g.rules _ (rest_at 1 (number_bytes 1 m) on₅ w₄.next (length_bytes 1 m)) f.rules (sym rules) in
    let w₇ = alone (codes "over") g.terminal _ h₇ w₆.next f.terminal in
    let w₈ = alone (codes "gain") g.payoff [] h₈ (w₇.next ∙ sym (append-nil (expr_bytes g.payoff))) f.payoff in
    subst (λ x. Wrote a₀ x a₈) (game_text g v₁ players)
    (join h₁ (join h₂ (join h₃ (join w₄.wrote (join h₅ (join w₆.wrote (join w₇.wrote w₈.wrote)))))))
