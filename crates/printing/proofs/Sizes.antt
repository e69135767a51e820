-- How large printed games are.
use Rattle.std.proofs.Common.{◌≡◌, ℕ, ◌+◌, ◌*◌, ◌<◌, ◌≤◌, true, ◌&&◌, ltb, List, [], ◌∷◌, ◌++◌, length, codes, decimal, ap, ◌∙◌, arith}
use Rattle.std.proofs.lemmas.Fmt.{length-decimal-le}
use Rattle.std.proofs.lemmas.List.{length-append}
use Rattle.std.proofs.lemmas.Bool.{and_parts, ltb-true}
use Rattle.rules.specs.Rules.{Expr, Num, Cell, First, Second, Me, Add, Sub, Mul, Div, Rem, Lt, Eq, If, Effect, Rule}
use Rattle.rules.specs.Bounds.{all_below}
use Rattle.wire.specs.Exprs.{expr_bytes, expr_fits}
use Rattle.wire.specs.Games.{cells_bytes, effects_bytes, rule_bytes, rules_bytes, game_bytes, effects_fit, rule_fits, rules_fit}
use Rattle.wire.specs.Numbers.{number_bytes}
use Rattle.wire.proofs.Numbers.{length_bytes}
use Rattle.text.specs.Grammar.{Piece, number}
use Rattle.game_text.specs.Text.{expr_pieces, number_pieces}
use Rattle.printing.specs.Games.{spaced, line, printed_effects, printed_rules, printed, PrintedFits}
use Rattle.printing.proofs.Fits.{rule_parts, game_parts}
use Rattle.printing.proofs.Heads.{spaced_append, head_some}

decimal_short : (n : ℕ) → n < 65536 → length (decimal n) ≤ 5
decimal_short n l = length-decimal-le 5 n (omega arith) (omega arith) (omega arith)

line_size : (w : List ℕ) (ps : List Piece) → length (line w ps) ≡ length w + (length (spaced ps) + 1)
unfolding line
line_size w ps = length-append w (spaced ps ++ (10 ∷ [])) ∙ ap (λ n. length w + n) (length-append (spaced ps) (10 ∷ []))

spaced_size : (ps qs : List Piece) → length (spaced (ps ++ qs)) ≡ length (spaced ps) + length (spaced qs)
spaced_size ps qs = ap length (spaced_append ps qs) ∙ length-append (spaced ps) (spaced qs)

-- an expression: a word of at most six letters and a blank to a byte
abbrev Small : Expr → Type 0
Small e = length (spaced (expr_pieces e)) ≤ 7 * length (expr_bytes e)

both_small : (a b : Expr) → Small a → Small b → length (spaced (expr_pieces a ++ expr_pieces b)) ≤ 7 * length (expr_bytes a ++ expr_bytes b)
both_small a b h k = omega (arith, spaced_size (expr_pieces a) (expr_pieces b), length-append (expr_bytes a) (expr_bytes b))

expr_small : (e : Expr) → expr_fits e ≡ true → Small e
unfolding expr_bytes expr_fits expr_pieces spaced number_bytes
expr_small (Num n) h = omega (arith, length-append {A = ℕ} (decimal n) [], decimal_short n (ltb-true n 65536 h))
expr_small (Cell a) h = omega (arith, expr_small a h)
expr_small First h = omega arith
expr_small Second h = omega arith
expr_small Me h = omega arith
expr_small (Add a b) h = let p = and_parts (expr_fits a) (expr_fits b) h in omega (arith, both_small a b (expr_small a p.0) (expr_small b p.1))
expr_small (Sub a b) h = let p = and_parts (expr_fits a) (expr_fits b) h in omega (arith, both_small a b (expr_small a p.0) (expr_small b p.1))
expr_small (Mul a b) h = let p = and_parts (expr_fits a) (expr_fits b) h in omega (arith, both_small a b (expr_small a p.0) (expr_small b p.1))
expr_small (Div a b) h = let p = and_parts (expr_fits a) (expr_fits b) h in omega (arith, both_small a b (expr_small a p.0) (expr_small b p.1))
expr_small (Rem a b) h = let p = and_parts (expr_fits a) (expr_fits b) h in omega (arith, both_small a b (expr_small a p.0) (expr_small b p.1))
expr_small (Lt a b) h = let p = and_parts (expr_fits a) (expr_fits b) h in omega (arith, both_small a b (expr_small a p.0) (expr_small b p.1))
expr_small (Eq a b) h = let p = and_parts (expr_fits a) (expr_fits b) h in omega (arith, both_small a b (expr_small a p.0) (expr_small b p.1))
expr_small (If a b c) h =
    let p = and_parts (expr_fits a) (expr_fits b && expr_fits c) h in
    let q = and_parts (expr_fits b) (expr_fits c) p.1 in
    omega (
      arith,
      spaced_size (expr_pieces a) (expr_pieces b ++ expr_pieces c),
      length-append (expr_bytes a) (expr_bytes b ++ expr_bytes c),
      expr_small a p.0,
      both_small b c (expr_small b q.0) (expr_small c q.1),
    )

cells_small : (ns : List ℕ) → all_below 65536 ns ≡ true → length (spaced (number_pieces ns)) ≤ 3 * length (cells_bytes ns)
unfolding all_below number_pieces cells_bytes spaced
cells_small [] h = omega arith
cells_small (n ∷ ns) h =
    let p = and_parts (ltb n 65536) (all_below 65536 ns) h in
    omega (
      arith,
      length-append (decimal n) (spaced (number_pieces ns)),
      decimal_short n (ltb-true n 65536 p.0),
      cells_small ns p.1,
      length-append (number_bytes 2 n) (cells_bytes ns),
      length_bytes 2 n,
    )

effects_small : (es : List Effect) → effects_fit es ≡ true → length (printed_effects es) ≤ 10 * length (effects_bytes es)
unfolding effects_fit printed_effects effects_bytes
effects_small [] h = omega arith
effects_small (e ∷ es) h =
    let p = and_parts (expr_fits e.cell) (expr_fits e.value && effects_fit es) h in
    let q = and_parts (expr_fits e.value) (effects_fit es) p.1 in
    let ps : List Piece = expr_pieces e.cell ++ expr_pieces e.value in
    omega (
      arith,
      length-append (line (codes "  set") ps) (printed_effects es),
      line_size (codes "  set") ps,
      spaced_size (expr_pieces e.cell) (expr_pieces e.value),
      expr_small e.cell p.0,
      expr_small e.value q.0,
      head_some e.cell,
      head_some e.value,
      effects_small es q.1,
      length-append (expr_bytes e.cell) (expr_bytes e.value ++ effects_bytes es),
      length-append (expr_bytes e.value) (effects_bytes es),
    )

rules_small : (us : List Rule) → rules_fit us ≡ true → length (printed_rules us) ≤ 10 * length (rules_bytes us)
unfolding rules_fit printed_rules rules_bytes rule_bytes spaced
rules_small [] h = omega arith
rules_small (u ∷ us) h =
    let a = u.first_bound in
    let b = u.second_bound in
    let n = length u.effects in
    let one = and_parts (rule_fits u) (rules_fit us) h in
    let f = rule_parts u one.0 in
    let bounds : List Piece = number a ∷ number b ∷ [] in
    let head : length (line (codes "rule") bounds) ≤ 17 =
    omega (
      arith,
      line_size (codes "rule") bounds,
      length-append (decimal a) (32 ∷ (decimal b ++ [])),
      length-append {A = ℕ} (decimal b) [],
      decimal_short a f.first,
      decimal_short b f.second,
    )
    in
    let may : List ℕ = line (codes "  may") (expr_pieces u.guard) in
    let effects : List ℕ = printed_effects u.effects in
    let text : length (printed_rules (u ∷ us)) ≡ length (line (codes "rule") bounds) + (length may + (length effects + length (printed_rules us))) =
    length-append (line (codes "rule") bounds) (may ++ (effects ++ printed_rules us))
    ∙ ap (λ x. length (line (codes "rule") bounds) + x)
    (length-append may (effects ++ printed_rules us) ∙ ap (λ x. length may + x) (length-append effects (printed_rules us)))
    in
    let bytes : length (rule_bytes u) ≡ 5 + (length (expr_bytes u.guard) + length (effects_bytes u.effects)) =
    omega (
      arith,
      length-append (number_bytes 2 a) (number_bytes 2 b ++ (expr_bytes u.guard ++ (number_bytes 1 n ++ effects_bytes u.effects))),
      length-append (number_bytes 2 b) (expr_bytes u.guard ++ (number_bytes 1 n ++ effects_bytes u.effects)),
      length-append (expr_bytes u.guard) (number_bytes 1 n ++ effects_bytes u.effects),
      length-append (number_bytes 1 n) (effects_bytes u.effects),
      length_bytes 2 a,
      length_bytes 2 b,
      length_bytes 1 n,
    )
    in
    omega (
      arith,
      line_size (codes "  may") (expr_pieces u.guard),
      expr_small u.guard f.guard,
      effects_small u.effects f.effects,
      rules_small us one.1,
      length-append (rule_bytes u) (rules_bytes us),
    )

pub fits : PrintedFits
unfolding printed game_bytes spaced
fits g h =
    let p = g.players in
    let n = length g.start in
    let m = length g.rules in
    let f = game_parts g h in
    let players : List ℕ = line (codes "players") (number p ∷ []) in
    let cells : List ℕ = line (codes "cells") (number_pieces g.start) in
    let over : List ℕ = line (codes "over") (expr_pieces g.terminal) in
    let gain : List ℕ = line (codes "gain") (expr_pieces g.payoff) in
    let rules : List ℕ = printed_rules g.rules in
    let text : length (printed g) ≡ length players + (length cells + (length rules + (length over + length gain))) =
    length-append players (cells ++ (rules ++ (over ++ gain)))
    ∙ ap (λ x. length players + x)
    (length-append cells (rules ++ (over ++ gain))
    ∙ ap (λ x. length cells + x) (length-append rules (over ++ gain) ∙ ap (λ x. length rules + x) (length-append over gain)))
    in
    let ends : List ℕ = expr_bytes g.terminal ++ expr_bytes g.payoff in
    let bytes :
    length (game_bytes g) ≡ 4 + (length (cells_bytes g.start) + (length (rules_bytes g.rules) + (length (expr_bytes g.terminal) + length (expr_bytes g.payoff)))) =
    omega (
      arith,
      length-append (number_bytes 1 p) (number_bytes 2 n ++ (cells_bytes g.start ++ (number_bytes 1 m ++ (rules_bytes g.rules ++ ends)))),
      length-append (number_bytes 2 n) (cells_bytes g.start ++ (number_bytes 1 m ++ (rules_bytes g.rules ++ ends))),
      length-append (cells_bytes g.start) (number_bytes 1 m ++ (rules_bytes g.rules ++ ends)),
      length-append (number_bytes 1 m) (rules_bytes g.rules ++ ends),
      length-append (rules_bytes g.rules) ends,
      length-append (expr_bytes g.terminal) (expr_bytes g.payoff),
      length_bytes 1 p,
      length_bytes 2 n,
      length_bytes 1 m,
    )
    in
    omega (
      arith,
      line_size (codes "players") (number p ∷ []),
      length-append {A = ℕ} (decimal p) [],
      decimal_short p (omega (arith, f.players)),
      line_size (codes "cells") (number_pieces g.start),
      cells_small g.start f.start,
      rules_small g.rules f.rules,
      line_size (codes "over") (expr_pieces g.terminal),
      expr_small g.terminal f.terminal,
      line_size (codes "gain") (expr_pieces g.payoff),
      expr_small g.payoff f.payoff,
    )
