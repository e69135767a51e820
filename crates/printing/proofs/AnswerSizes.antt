-- How large the lines of answers are.
use Rattle.std.proofs.Common.{◌≡◌, ℕ, ◌+◌, ◌*◌, ◌<◌, ◌≤◌, true, cond, eqb, ltb, List, [], ◌∷◌, ◌++◌, length, codes, decimal, refl, arith}
use Rattle.std.proofs.lemmas.Fmt.{length-decimal-le}
use Rattle.std.proofs.lemmas.List.{length-append}
use Rattle.std.proofs.lemmas.Bool.{and_parts, and_from, ltb-true, cond_both}
use Rattle.rules.specs.declared.Move.{Move}
use Rattle.rules.specs.Calls.{Answer, refused, number, shown, listed, forced}
use Rattle.rules.specs.Bounds.{all_below}
use Rattle.wire.proofs.FieldLists.{length_fields_bytes}
use Rattle.answers.specs.Answers.{moves_fields, answer_fields, answer_bytes, fits_answer}
use Rattle.answers.proofs.AnswerBytes.{length_moves}
use Rattle.game_text.specs.Text.{number_pieces}
use Rattle.printing.specs.Games.{numbers_text, spaced}
use Rattle.printing.specs.Answers.{end_text, clocks_text, move_text, later_moves, moves_text, answer_text, AnswerTextFits}

-- all of the numbers fit four bytes
abbrev Fit : List ℕ → Type 0
Fit ns = all_below 4294967296 ns ≡ true

fit_head : (n : ℕ) (ns : List ℕ) → Fit (n ∷ ns) → (n < 4294967296) × Fit ns
unfolding all_below
fit_head n ns h = let p = and_parts (ltb n 4294967296) (all_below 4294967296 ns) h in (ltb-true n 4294967296 p.0, p.1)

fit_parts : (xs ys : List ℕ) → Fit (xs ++ ys) → Fit xs × Fit ys
unfolding all_below
fit_parts [] ys h = (refl, h)
fit_parts (x ∷ xs) ys h =
    let p = and_parts (ltb x 4294967296) (all_below 4294967296 (xs ++ ys)) h in
    let q = fit_parts xs ys p.1 in
    (and_from (ltb x 4294967296) (all_below 4294967296 xs) p.0 q.0, q.1)

decimal_small : (n : ℕ) → n < 4294967296 → length (decimal n) ≤ 10
decimal_small n l = length-decimal-le 10 n (omega arith) (omega arith) (omega arith)

numbers_small : (ns : List ℕ) → Fit ns → length (numbers_text ns) ≤ 11 * length ns
unfolding number_pieces spaced
numbers_small [] h = omega arith
numbers_small (n ∷ ns) h =
    let p = fit_head n ns h in omega (arith, length-append (decimal n) (numbers_text ns), decimal_small n p.0, numbers_small ns p.1)

end_small : (e : ℕ) → length (end_text e) ≤ 12
unfolding end_text
end_small e =
    cond_both (eqb e 0) (codes "goes on") (cond (eqb e 2) (codes "over by time") (codes "over")) (λ t. length t ≤ 12) (λ h. omega arith)
    (λ h. cond_both (eqb e 2) (codes "over by time") (codes "over") (λ t. length t ≤ 12) (λ k. omega arith) (λ k. omega arith))

clocks_small : (cs : List ℕ) → Fit cs → length (clocks_text cs) ≤ 8 + 11 * length cs
unfolding clocks_text
clocks_small [] h = omega arith
clocks_small (c ∷ cs) h = omega (arith, length-append (codes ", clocks") (numbers_text (c ∷ cs)), numbers_small (c ∷ cs) h)

abbrev three : Move → List ℕ
three v = v.rule ∷ v.first ∷ v.second ∷ []

move_small : (v : Move) (ns : List ℕ) → Fit (v.rule ∷ v.first ∷ v.second ∷ ns) → (length (move_text v) ≤ 32) × Fit ns
unfolding move_text
move_small v ns h =
    let p = fit_parts (three v) ns h in
    let q = fit_head v.rule (v.first ∷ v.second ∷ []) p.0 in
    let size = length-append (decimal v.rule) (numbers_text (v.first ∷ v.second ∷ [])) in
    (omega (arith, decimal_small v.rule q.0, numbers_small (v.first ∷ v.second ∷ []) q.1), p.1)

later_small : (vs : List Move) → Fit (moves_fields vs) → length (later_moves vs) ≤ 34 * length vs
unfolding moves_fields later_moves
later_small [] h = omega arith
later_small (v ∷ vs) h =
    let p = move_small v (moves_fields vs) h in omega (arith, p.0, length-append (move_text v) (later_moves vs), later_small vs p.1)

moves_small : (vs : List Move) → Fit (moves_fields vs) → length (moves_text vs) ≤ 4 + 34 * length vs
unfolding moves_fields moves_text
moves_small [] h = omega arith
moves_small (v ∷ vs) h =
    let p = move_small v (moves_fields vs) h in omega (arith, p.0, length-append (move_text v) (later_moves vs), later_small vs p.1)

-- a line is at most so long, by how many numbers the answer has
small : (a : Answer) → Fit (answer_fields a) → length (answer_text a) ≤ 12 * length (answer_fields a) + 8
unfolding answer_fields answer_text
small (refused r) h =
    let p = fit_head r.number (r.place ∷ []) h in
    let q = fit_head r.place [] p.1 in
    omega (
      arith,
      length-append (decimal r.number) (codes " at " ++ decimal r.place),
      decimal_small r.number p.0,
      decimal_small r.place q.0,
    )
small (number n) h = omega (arith, decimal_small n (fit_head n [] h).0)
small (shown p t e cs) h =
    let f = fit_head (length p) (p ++ (t ∷ e ∷ length cs ∷ cs)) h in
    let g = fit_parts p (t ∷ e ∷ length cs ∷ cs) f.1 in
    let k = fit_head t (e ∷ length cs ∷ cs) g.1 in
    let l = fit_parts (e ∷ length cs ∷ []) cs k.1 in
    let after : List ℕ = end_text e ++ clocks_text cs in
    omega (
      arith,
      length-append (numbers_text p) (codes ", turn " ++ (decimal t ++ (codes ", " ++ after))),
      numbers_small p g.0,
      length-append (decimal t) (codes ", " ++ after),
      decimal_small t k.0,
      length-append (end_text e) (clocks_text cs),
      end_small e,
      clocks_small cs l.1,
      length-append p (t ∷ e ∷ length cs ∷ cs),
    )
small (listed vs) h = let p = fit_head (length vs) (moves_fields vs) h in omega (arith, moves_small vs p.1, length_moves vs)
small (forced n) h = omega (arith, decimal_small n (fit_head n [] h).0)

pub text_fits : AnswerTextFits
unfolding fits_answer answer_bytes
text_fits a h = omega (arith, small a h, length_fields_bytes (answer_fields a))

-- and its counts fit four bytes, so there are not too many
few : (a : Answer) → Fit (answer_fields a) → length (answer_fields a) ≤ 12884901889
unfolding answer_fields
few (refused r) h = omega arith
few (number n) h = omega arith
few (shown p t e cs) h =
    let f = fit_head (length p) (p ++ (t ∷ e ∷ length cs ∷ cs)) h in
    let g = fit_parts p (t ∷ e ∷ length cs ∷ cs) f.1 in
    let k = fit_parts (t ∷ e ∷ []) (length cs ∷ cs) g.1 in
    omega (arith, f.0, (fit_head (length cs) cs k.1).0, length-append p (t ∷ e ∷ length cs ∷ cs))
few (listed vs) h = omega (arith, (fit_head (length vs) (moves_fields vs) h).0, length_moves vs)
few (forced n) h = omega arith

pub text_bounded : (a : Answer) → fits_answer a ≡ true → length (answer_text a) ≤ 18446744073709551615
unfolding fits_answer
text_bounded a h = omega (arith, small a h, few a h)
