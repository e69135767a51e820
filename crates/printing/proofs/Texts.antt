-- What is printed of a game is its text.
use Rattle.std.proofs.Common.{◌≡◌, ℕ, ◌+◌, ◌%◌, ◌^◌, ◌<◌, true, false, ◌&&◌, ltb, List, [], ◌∷◌, ◌++◌, codes, decimal, sym, refl, ap, ◌∙◌, subst, append_assoc, append-nil, arith, rules}
use Rattle.std.proofs.lemmas.Fmt.{decimal_nonempty, decimal_by_steps, digits_decimal, digits_value-decimal}
use Rattle.std.proofs.lemmas.Str.Parse.{IsNumeralModel, numerals_by_fold}
use Rattle.std.proofs.lemmas.Bool.{and_parts, ltb-true, ne_eqb}
use Rattle.rules.specs.Rules.{Expr, Num, Cell, First, Second, Me, Add, Sub, Mul, Div, Rem, Lt, Eq, If, Effect, Rule}
use Rattle.rules.specs.Bounds.{all_below}
use Rattle.wire.specs.Exprs.{expr_fits}
use Rattle.wire.specs.Games.{effects_fit, rule_fits, rules_fit}
use Rattle.text.specs.Grammar.{Piece, word, number, blank, digit, all, value_from, Spells, Written, end, piece, printed_piece}
use Rattle.game_text.specs.Text.{blanked, expr_pieces, number_pieces, effects_pieces, rules_pieces, game_pieces}
use Rattle.printing.proofs.Fits.{rule_parts, game_parts}
use Rattle.printing.specs.Games.{spaced, line, printed_effects, printed_rules, printed, PrintedIsText}

-- what is printed of a number is its digits
own : IsNumeralModel (λ ds. all digit ds ≡ true) (value_from 0)
unfolding all value_from
own = numerals_by_fold _ (search rules) value_from (search rules)

-- bytes that are no white space and no comment stay as they are
abbrev Plain : List ℕ → Type 0
Plain bs = (rest : List ℕ) → blanked false (bs ++ rest) ≡ bs ++ blanked false rest

digit_plain : (d : ℕ) → d < 10 → Plain ((48 + d) ∷ [])
unfolding blanked
digit_plain d l rest =
    let b : ℕ = 48 + d in
    simp (ne_eqb b 35 (λ e. omega arith), ne_eqb b 32 (λ e. omega arith), ne_eqb b 9 (λ e. omega arith), ne_eqb b 10 (λ e. omega arith), ne_eqb b 13 (λ e. omega arith))

decimal_plain : (n : ℕ) → n < 2 ^ 64 → Plain (decimal n)
decimal_plain =
    decimal_by_steps (λ m ds. Plain ds) (λ m l. digit_plain m l)
    (λ m ds l h rest.
    ap (blanked false) (append_assoc ds ((48 + m % 10) ∷ []) rest) ∙ h ((48 + m % 10) ∷ rest) ∙ ap (λ x. ds ++ x) (digit_plain (m % 10) (omega arith) rest)
    ∙ sym (append_assoc ds ((48 + m % 10) ∷ []) (blanked false rest)))

-- a piece that is printed as it may be written
record Fine (p : Piece) : Type 0 where
  pub plain : Plain (printed_piece p)
  pub spells : Spells p (printed_piece p)

abbrev AllFine : List Piece → Type 0
AllFine [] = Unit {0}
AllFine (p ∷ ps) = Fine p × AllFine ps

fine_append : (ps qs : List Piece) → AllFine ps → AllFine qs → AllFine (ps ++ qs)
fine_append [] qs h k = k
fine_append (p ∷ ps) qs h k = (h.0, fine_append ps qs h.1 k)

number_fine : (n : ℕ) → n < 65536 → Fine (number n)
number_fine n l =
    let m : n < 2 ^ 64 = omega arith in
    record { plain = decimal_plain n m; spells = (decimal_nonempty n m, digits_decimal own n m, digits_value-decimal own n m, omega arith) }

word_fine : (w : List ℕ) → Plain w → Fine (word w)
word_fine w h = record { plain = h; spells = refl }

both_fine : (w : List ℕ) (a b : Expr) → Plain w → (expr_fits a ≡ true → AllFine (expr_pieces a)) → (expr_fits b ≡ true → AllFine (expr_pieces b)) → (expr_fits a && expr_fits b) ≡ true → AllFine (word w ∷ (expr_pieces a ++ expr_pieces b))
both_fine w a b h f g fits =
    let p = and_parts (expr_fits a) (expr_fits b) fits in (word_fine w h, fine_append (expr_pieces a) (expr_pieces b) (f p.0) (g p.1))

expr_fine : (e : Expr) → expr_fits e ≡ true → AllFine (expr_pieces e)
unfolding expr_fits expr_pieces blanked
expr_fine (Num n) h = (number_fine n (ltb-true n 65536 h), tt)
expr_fine (Cell a) h = (word_fine (codes "cell") (λ rest. refl), expr_fine a h)
expr_fine First h = (word_fine (codes "first") (λ rest. refl), tt)
expr_fine Second h = (word_fine (codes "second") (λ rest. refl), tt)
expr_fine Me h = (word_fine (codes "me") (λ rest. refl), tt)
expr_fine (Add a b) h = both_fine (codes "+") a b (λ rest. refl) (expr_fine a) (expr_fine b) h
expr_fine (Sub a b) h = both_fine (codes "-") a b (λ rest. refl) (expr_fine a) (expr_fine b) h
expr_fine (Mul a b) h = both_fine (codes "*") a b (λ rest. refl) (expr_fine a) (expr_fine b) h
expr_fine (Div a b) h = both_fine (codes "/") a b (λ rest. refl) (expr_fine a) (expr_fine b) h
expr_fine (Rem a b) h = both_fine (codes "rest") a b (λ rest. refl) (expr_fine a) (expr_fine b) h
expr_fine (Lt a b) h = both_fine (codes "below") a b (λ rest. refl) (expr_fine a) (expr_fine b) h
expr_fine (Eq a b) h = both_fine (codes "same") a b (λ rest. refl) (expr_fine a) (expr_fine b) h
expr_fine (If a b c) h =
    let p = and_parts (expr_fits a) (expr_fits b && expr_fits c) h in
    let q = and_parts (expr_fits b) (expr_fits c) p.1 in
    (word_fine (codes "if") (λ rest. refl), fine_append (expr_pieces a) (expr_pieces b ++ expr_pieces c) (expr_fine a p.0) (fine_append (expr_pieces b) (expr_pieces c) (expr_fine b q.0) (expr_fine c q.1)))

numbers_fine : (ns : List ℕ) → all_below 65536 ns ≡ true → AllFine (number_pieces ns)
unfolding all_below number_pieces
numbers_fine [] h = tt
numbers_fine (n ∷ ns) h = let p = and_parts (ltb n 65536) (all_below 65536 ns) h in (number_fine n (ltb-true n 65536 p.0), numbers_fine ns p.1)

-- a blank more in front
more_space : {least : ℕ} {ps : List Piece} {xs : List ℕ} → Written least ps xs → Written 1 ps (32 ∷ xs)
unfolding all
more_space (end xs h) = end (32 ∷ xs) h
more_space (piece gap ds rest enough space spelled more) = piece (32 ∷ gap) ds rest (omega arith) space spelled more

-- pieces with a blank in front of each
spaced_written :
    (ps qs : List Piece) (rest : List ℕ) → AllFine ps → Written 1 qs (blanked false rest) → Written 1 (ps ++ qs) (blanked false (spaced ps ++ rest))
unfolding spaced blanked all
spaced_written [] qs rest h k = k
spaced_written (p ∷ ps) qs rest h k =
    let text : blanked false ((printed_piece p ++ spaced ps) ++ rest) ≡ printed_piece p ++ blanked false (spaced ps ++ rest) =
    ap (blanked false) (append_assoc (printed_piece p) (spaced ps) rest) ∙ h.0.plain (spaced ps ++ rest)
    in
    subst (λ x. Written 1 (p ∷ (ps ++ qs)) (32 ∷ x)) (sym text)
    (piece (32 ∷ []) (printed_piece p) (blanked false (spaced ps ++ rest)) (omega arith) refl h.0.spells (spaced_written ps qs rest h.1 k))

-- a line, indented or not, and then others
module _ (gap w : List ℕ) (white : all blank gap ≡ true) (indents : Plain gap) (plain : Plain w) where
  line_text : (ps : List Piece) (rest : List ℕ) → blanked false (line (gap ++ w) ps ++ rest) ≡ gap ++ (w ++ blanked false (spaced ps ++ (10 ∷ rest)))
  unfolding line
  line_text ps rest =
      ap (blanked false) (simp append_assoc) ∙ indents (w ++ (spaced ps ++ (10 ∷ rest))) ∙ ap (λ x. gap ++ x) (plain (spaced ps ++ (10 ∷ rest)))

  line_written :
      (ps qs : List Piece) (rest : List ℕ) → AllFine ps → Written 1 qs (32 ∷ blanked false rest) →
      Written 0 (word w ∷ (ps ++ qs)) (blanked false (line (gap ++ w) ps ++ rest))
  unfolding blanked
  line_written ps qs rest h k =
      subst (λ x. Written 0 (word w ∷ (ps ++ qs)) x) (sym (line_text ps rest))
      (piece gap w (blanked false (spaced ps ++ (10 ∷ rest))) (omega arith) white refl (spaced_written ps qs (10 ∷ rest) h k))

effects_written :
    (es : List Effect) (qs : List Piece) (rest : List ℕ) → effects_fit es ≡ true → Written 1 qs (32 ∷ blanked false rest) →
    Written 1 (effects_pieces es ++ qs) (32 ∷ blanked false (printed_effects es ++ rest))
unfolding effects_fit effects_pieces printed_effects blanked all
effects_written [] qs rest h k = k
effects_written (e ∷ es) qs rest h k =
    let p = and_parts (expr_fits e.cell) (expr_fits e.value && effects_fit es) h in
    let q = and_parts (expr_fits e.value) (effects_fit es) p.1 in
    let ps : List Piece = expr_pieces e.cell ++ expr_pieces e.value in
    let fine : AllFine ps = fine_append (expr_pieces e.cell) (expr_pieces e.value) (expr_fine e.cell p.0) (expr_fine e.value q.0) in
    let text : (line (codes "  set") ps ++ printed_effects es) ++ rest ≡ line (codes "  set") ps ++ (printed_effects es ++ rest) =
    append_assoc (line (codes "  set") ps) (printed_effects es) rest
    in
    let pieces : word (codes "set") ∷ (ps ++ (effects_pieces es ++ qs)) ≡ word (codes "set") ∷ ((expr_pieces e.cell ++ (expr_pieces e.value ++ effects_pieces es)) ++ qs) =
    ap (λ x. word (codes "set") ∷ x) (simp append_assoc)
    in
    subst (λ x. Written 1 x (32 ∷ blanked false ((line (codes "  set") ps ++ printed_effects es) ++ rest))) pieces
    (subst (λ x. Written 1 (word (codes "set") ∷ (ps ++ (effects_pieces es ++ qs))) (32 ∷ blanked false x)) (sym text)
    (more_space
    (line_written (32 ∷ 32 ∷ []) (codes "set") refl (λ r. refl) (λ r. refl) ps (effects_pieces es ++ qs) (printed_effects es ++ rest) fine
    (effects_written es qs rest q.1 k))))

-- the first two lines of a rule
abbrev rule_line : Rule → List ℕ
rule_line u = line (codes "rule") (number u.first_bound ∷ number u.second_bound ∷ [])

abbrev may_line : Rule → List ℕ
may_line u = line (codes "  may") (expr_pieces u.guard)

rules_written :
    (us : List Rule) (qs : List Piece) (rest : List ℕ) → rules_fit us ≡ true → Written 1 qs (32 ∷ blanked false rest) →
    Written 1 (rules_pieces us ++ qs) (32 ∷ blanked false (printed_rules us ++ rest))
unfolding rules_fit rules_pieces printed_rules blanked all
rules_written [] qs rest h k = k
rules_written (u ∷ us) qs rest h k =
    let a = u.first_bound in
    let b = u.second_bound in
    let one = and_parts (rule_fits u) (rules_fit us) h in
    let f = rule_parts u one.0 in
    let after : List ℕ = printed_effects u.effects ++ (printed_rules us ++ rest) in
    let left : List Piece = effects_pieces u.effects ++ (rules_pieces us ++ qs) in
    let text : printed_rules (u ∷ us) ++ rest ≡ rule_line u ++ (may_line u ++ after) = simp append_assoc in
    let pieces :
    word (codes "rule") ∷ number a ∷ number b ∷ word (codes "may") ∷ (expr_pieces u.guard ++ left) ≡ rules_pieces (u ∷ us) ++ qs =
    ap (λ x. word (codes "rule") ∷ number a ∷ number b ∷ word (codes "may") ∷ x) (simp append_assoc)
    in
    subst (λ x. Written 1 x (32 ∷ blanked false (printed_rules (u ∷ us) ++ rest))) pieces
    (subst (λ x. Written 1 (word (codes "rule") ∷ number a ∷ number b ∷ word (codes "may") ∷ (expr_pieces u.guard ++ left)) (32 ∷ blanked false x)) (sym text)
    (more_space
    (line_written [] (codes "rule") refl (λ r. refl) (λ r. refl) (number a ∷ number b ∷ []) (word (codes "may") ∷ (expr_pieces u.guard ++ left)) (may_line u ++ after)
    (number_fine a f.first, (number_fine b f.second, tt))
    (more_space
    (line_written (32 ∷ 32 ∷ []) (codes "may") refl (λ r. refl) (λ r. refl) (expr_pieces u.guard) left after (expr_fine u.guard f.guard)
    (effects_written u.effects (rules_pieces us ++ qs) (printed_rules us ++ rest) f.effects (rules_written us qs rest one.1 k)))))))

pub is_text : PrintedIsText
unfolding game_pieces printed blanked all
is_text g fits =
    let f = game_parts g fits in
    let gain : List ℕ = line (codes "gain") (expr_pieces g.payoff) in
    let over : List ℕ = line (codes "over") (expr_pieces g.terminal) in
    let gains : Written 1 (word (codes "gain") ∷ expr_pieces g.payoff) (32 ∷ blanked false gain) =
    subst (λ x. Written 1 (word (codes "gain") ∷ expr_pieces g.payoff) (32 ∷ blanked false x)) (append-nil gain)
    (subst (λ x. Written 1 (word (codes "gain") ∷ x) (32 ∷ blanked false (gain ++ []))) (append-nil (expr_pieces g.payoff))
    (more_space (line_written [] (codes "gain") refl (λ r. refl) (λ r. refl) (expr_pieces g.payoff) [] [] (expr_fine g.payoff f.payoff) (end (32 ∷ []) refl))))
    in
    let overs =
    more_space
    (line_written [] (codes "over") refl (λ r. refl) (λ r. refl) (expr_pieces g.terminal) (word (codes "gain") ∷ expr_pieces g.payoff) gain
    (expr_fine g.terminal f.terminal) gains)
    in
    let rules = rules_written g.rules _ (over ++ gain) f.rules overs in
    let cells =
    more_space (line_written [] (codes "cells") refl (λ r. refl) (λ r. refl) (number_pieces g.start) _ (printed_rules g.rules ++ (over ++ gain)) (numbers_fine g.start f.start) rules)
    in
    (fits, line_written [] (codes "players") refl (λ r. refl) (λ r. refl) (number g.players ∷ []) _ _ (number_fine g.players (omega (arith, f.players)), tt) cells)
