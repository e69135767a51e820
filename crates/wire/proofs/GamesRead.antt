-- Games are read as they are written, and only so; and good games can be written.
use Rattle.std.proofs.Common.{◌≡◌, ℕ, suc, ◌*◌, ◌^◌, ◌<◌, ◌≤◌, true, ◌&&◌, ltb, List, [], ◌∷◌, ◌++◌, length, refl, ap, ◌∙◌, append_assoc, arith}
use Rattle.std.proofs.lemmas.Bool.{and_parts, ltb-true, le-leb, cond-true}
use Rattle.std.proofs.lemmas.List.{append-nil, length-append, take_at, drop_at}
use Rattle.rules.specs.Rules.{Expr, Effect, Rule}
use Rattle.rules.specs.Bounds.{all_below}
use Rattle.wire.specs.Numbers.{number_bytes, bytes_value}
use Rattle.wire.specs.Exprs.{expr_bytes, expr_fits, got, read_exprs}
use Rattle.wire.specs.Games.{cells_bytes, effects_bytes, rule_bytes, rules_bytes, game_bytes, effects_fit, rule_fits, rules_fit, fits_bytes, read_number, read_cells, effects_of, read_rule, read_rules, read_game, parse_game, GameReadsBack}
use Rattle.wire.proofs.Numbers.{length_bytes, value_of_bytes}
use Rattle.wire.proofs.Exprs.{push, reads_expr}

number_reads : (w n : ℕ) (r : List ℕ) → n < 256 ^ w → read_number w (number_bytes w n ++ r) ≡ got n r
unfolding read_number
number_reads w n r h =
    let l : List ℕ = number_bytes w n in
    let s : length l ≡ w = length_bytes w n in
    let enough : w ≤ length (l ++ r) = omega (arith, length-append l r) in
    cond-true _ _ _ (le-leb w (length (l ++ r)) enough) ∙ (λ i. got (bytes_value (take_at l r w s i)) (drop_at l r w s i)) ∙ ap (λ v. got v r) (value_of_bytes w n h)

cells_read : (cs r : List ℕ) → all_below 65536 cs ≡ true → read_cells (length cs) (cells_bytes cs ++ r) ≡ got cs r
unfolding read_cells cells_bytes all_below
cells_read [] r h = refl
cells_read (c ∷ cs) r h =
    let p = and_parts (ltb c 65536) (all_below 65536 cs) h in
    let one : read_number 2 (number_bytes 2 c ++ (cells_bytes cs ++ r)) ≡ got c (cells_bytes cs ++ r) = number_reads 2 c (cells_bytes cs ++ r) (ltb-true c 65536 p.0) in
    let others : read_cells (length cs) (cells_bytes cs ++ r) ≡ got cs r = cells_read cs r p.1 in
    rw (append_assoc (number_bytes 2 c) (cells_bytes cs) r, one, others)

-- one expression, or two
one_reads : (e : Expr) (r : List ℕ) → expr_fits e ≡ true → read_exprs 1 (expr_bytes e ++ r) ≡ got (e ∷ []) r
unfolding read_exprs
one_reads e r h = reads_expr e 0 r h

two_read : (a b : Expr) (r : List ℕ) → expr_fits a ≡ true → expr_fits b ≡ true → read_exprs 2 (expr_bytes a ++ (expr_bytes b ++ r)) ≡ got (a ∷ b ∷ []) r
two_read a b r h k = reads_expr a 1 (expr_bytes b ++ r) h ∙ ap (push a) (one_reads b r k)

-- the expressions of effects, one after the other
abbrev exprs_of : List Effect → List Expr
exprs_of [] = []
exprs_of (e ∷ es) = e.cell ∷ e.value ∷ exprs_of es

paired : (es : List Effect) → effects_of (exprs_of es) ≡ es
unfolding effects_of
paired [] = refl
paired (e ∷ es) = ap (λ l. e ∷ l) (paired es)

effects_read : (es : List Effect) (r : List ℕ) → effects_fit es ≡ true → read_exprs (2 * length es) (effects_bytes es ++ r) ≡ got (exprs_of es) r
unfolding read_exprs effects_bytes effects_fit
effects_read [] r h = refl
effects_read (e ∷ es) r h =
    let p = and_parts (expr_fits e.cell) (expr_fits e.value && effects_fit es) h in
    let q = and_parts (expr_fits e.value) (effects_fit es) p.1 in
    let n : ℕ = 2 * length es in
    let two : 2 * suc (length es) ≡ suc (suc n) = omega arith in
    let u : List ℕ = expr_bytes e.cell in
    let v : List ℕ = expr_bytes e.value in
    let w : List ℕ = effects_bytes es in
    let flat : (u ++ (v ++ w)) ++ r ≡ u ++ (v ++ (w ++ r)) = simp append_assoc in
    (λ i. read_exprs (two i) (flat i)) ∙ reads_expr e.cell (suc n) (v ++ (w ++ r)) p.0
    ∙ ap (push e.cell) (reads_expr e.value n (w ++ r) q.0 ∙ ap (push e.value) (effects_read es r q.1))

rule_reads : (u : Rule) (r : List ℕ) → rule_fits u ≡ true → read_rule (rule_bytes u ++ r) ≡ got u r
unfolding read_rule rule_bytes rule_fits
rule_reads u r h =
    let p = and_parts (ltb u.first_bound 65536 && ltb u.second_bound 65536) _ h in
    let q = and_parts (ltb u.first_bound 65536) (ltb u.second_bound 65536) p.0 in
    let s = and_parts (expr_fits u.guard) (ltb (length u.effects) 256 && effects_fit u.effects) p.1 in
    let t = and_parts (ltb (length u.effects) 256) (effects_fit u.effects) s.1 in
    let n : ℕ = length u.effects in
    let x₅ : List ℕ = effects_bytes u.effects ++ r in
    let x₄ : List ℕ = number_bytes 1 n ++ x₅ in
    let x₃ : List ℕ = expr_bytes u.guard ++ x₄ in
    let x₂ : List ℕ = number_bytes 2 u.second_bound ++ x₃ in
    let flat : rule_bytes u ++ r ≡ number_bytes 2 u.first_bound ++ x₂ = simp append_assoc in
    ap read_rule flat
    ∙ rw (
      number_reads 2 u.first_bound x₂ (ltb-true _ 65536 q.0),
      number_reads 2 u.second_bound x₃ (ltb-true _ 65536 q.1),
      one_reads u.guard x₄ s.0,
      number_reads 1 n x₅ (ltb-true n 256 t.0),
      effects_read u.effects r t.1,
      paired u.effects,
    )

rules_read : (us : List Rule) (r : List ℕ) → rules_fit us ≡ true → read_rules (length us) (rules_bytes us ++ r) ≡ got us r
unfolding read_rules rules_bytes rules_fit
rules_read [] r h = refl
rules_read (u ∷ us) r h =
    let p = and_parts (rule_fits u) (rules_fit us) h in
    rw (append_assoc (rule_bytes u) (rules_bytes us) r, rule_reads u (rules_bytes us ++ r) p.0, rules_read us r p.1)

pub game_reads_back : GameReadsBack
unfolding parse_game read_game game_bytes fits_bytes
game_reads_back g h =
    let p = and_parts (ltb g.players 256 && (ltb (length g.start) 65536 && all_below 65536 g.start)) _ h in
    let q = and_parts (ltb g.players 256) _ p.0 in
    let s = and_parts (ltb (length g.start) 65536) (all_below 65536 g.start) q.1 in
    let t = and_parts (ltb (length g.rules) 256 && rules_fit g.rules) _ p.1 in
    let v = and_parts (ltb (length g.rules) 256) (rules_fit g.rules) t.0 in
    let w = and_parts (expr_fits g.terminal) (expr_fits g.payoff) t.1 in
    let x₆ : List ℕ = expr_bytes g.terminal ++ (expr_bytes g.payoff ++ []) in
    let x₅ : List ℕ = rules_bytes g.rules ++ x₆ in
    let x₄ : List ℕ = number_bytes 1 (length g.rules) ++ x₅ in
    let x₃ : List ℕ = cells_bytes g.start ++ x₄ in
    let x₂ : List ℕ = number_bytes 2 (length g.start) ++ x₃ in
    rw (
      ← append-nil (expr_bytes g.payoff),
      number_reads 1 g.players x₂ (ltb-true _ 256 q.0),
      number_reads 2 (length g.start) x₃ (ltb-true _ 65536 s.0),
      cells_read g.start x₄ s.1,
      number_reads 1 (length g.rules) x₅ (ltb-true _ 256 v.0),
      rules_read g.rules x₆ v.1,
      two_read g.terminal g.payoff [] w.0 w.1,
    )
