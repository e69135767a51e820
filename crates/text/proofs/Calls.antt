-- One call a line, and printed calls are read back.
use Rattle.std.proofs.Common.{◌≡◌, ℕ, ◌^◌, ◌<◌, Bool, true, false, cond, ◌&&◌, eqb, List, [], ◌∷◌, ◌++◌, get_or, Ok, Err, Result, sym, refl, ap, ◌∙◌, subst, arith, rules}
use Rattle.std.proofs.lemmas.Fmt.{decimal_nonempty, digits_decimal, digits_value-decimal}
use Rattle.std.proofs.lemmas.List.{append-nil}
use Rattle.std.proofs.lemmas.Str.Parse.{IsNumeralModel, numerals_by_fold}
use Rattle.std.proofs.lemmas.Bool.Decides.{nat_tests}
use Rattle.std.specs.List.{AllByRecursion}
use Rattle.rules.specs.Bounds.{readable}
use Rattle.rules.specs.declared.Call.{Call}
use Rattle.rules.specs.declared.Call.TheVariants.{Sit, Play, Ticks, See, May, Back, CanForce}
use Rattle.text.specs.Grammar.{Piece, word, number, pieces, blank, digit, all, value_from, Spells, Written, end, piece, IsLine, Reads, printed_piece, printed_pieces, printed}
use Rattle.text.specs.Reader.{Form, done, the, ask, sit_form, play_form, ticks_form, see_form, may_form, back_form, force_form, call_of}
use Rattle.text.specs.Theorems.{OneCallALine, PrintedReadsBack}
use Rattle.text.proofs.Splits.{starts, split_unique}
use Rattle.text.proofs.Pieces.{Want, the_word, any_number, Solid, spelled_solid, spelled_same, ends_before}
use Rattle.text.proofs.Forms.{Begins, Says, Proper, says_stops}
use Rattle.text.proofs.Lines.{unwrite, form_of, proper, line_says, reads}

-- what begins so goes on in one way
begins_same :
    (w : Want) (least : ℕ) (L M : ℕ → List ℕ → Type 0) (xs : List ℕ) → Solid w → ((v : ℕ) (rest : List ℕ) → L v rest → starts digit rest ≡ false) →
    ((v : ℕ) (rest : List ℕ) → M v rest → starts digit rest ≡ false) → (h : Begins w least L xs) (k : Begins w least M xs) →
    (h.value ≡ k.value) × (h.rest ≡ k.rest)
begins_same w least L M xs solid stops stops' h k =
    let same = split_unique blank h.gap k.gap (h.ds ++ h.rest) (k.ds ++ k.rest) h.white k.white
    (spelled_solid w solid h.value h.ds h.rest h.spelled) (spelled_solid w solid k.value k.ds k.rest k.spelled)
    (sym h.cut ∙ k.cut) in
    spelled_same w h.value k.value h.ds k.ds h.rest k.rest h.spelled k.spelled
    (ends_before w h.rest (stops h.value h.rest h.then)) (ends_before w k.rest (stops' k.value k.rest k.then)) same.1

-- no line of one form is the line of two calls
says_same : (f : Form) → Proper f → (least : ℕ) (c d : Call) (xs : List ℕ) → Says f least c xs → Says f least d xs → c ≡ d
says_same (done e) p least c d xs h k = sym h.0 ∙ k.0
says_same (the w f) p least c d xs h k =
    let same = begins_same (the_word w) least (λ v rest. Says f 1 c rest) (λ v rest. Says f 1 d rest) xs p.0 (λ v. says_stops f c) (λ v. says_stops f d) h k in
    says_same f p.1 1 c d h.rest h.then (subst (λ ys. Says f 1 d ys) (sym same.1) k.then)
says_same (ask f) p least c d xs h k =
    let same =
    begins_same any_number least (λ v rest. Says (f v) 1 c rest) (λ v rest. Says (f v) 1 d rest) xs tt (λ v. says_stops (f v) c) (λ v. says_stops (f v) d) h k in
    says_same (f h.value) (p h.value) 1 c d h.rest h.then
    (subst (λ ys. Says (f h.value) 1 d ys) (sym same.1) (subst (λ v. Says (f v) 1 d k.rest) (sym same.0) k.then))

-- the first two letters tell the form
pub form_by : List ℕ → Form
form_by xs =
    cond (eqb (get_or xs 0 0) 115) (cond (eqb (get_or xs 1 0) 105) sit_form see_form)
    (cond (eqb (get_or xs 0 0) 112) play_form (cond (eqb (get_or xs 0 0) 116) ticks_form
    (cond (eqb (get_or xs 0 0) 109) may_form (cond (eqb (get_or xs 0 0) 98) back_form force_form))))

-- and whether the line says bytes
unfoldable pub says_bytes : List ℕ → Bool
says_bytes xs = eqb (get_or xs 0 0) 98 && eqb (get_or xs 1 0) 121

-- each call's first word tells its form
first_word :
    (c : Call) →
    (w : List ℕ) × (ps : List Piece) × (pieces c ≡ word w ∷ ps) × ((xs : List ℕ) → starts blank (w ++ xs) ≡ false)
    × ((xs : List ℕ) → form_by (w ++ xs) ≡ form_of c) × ((xs : List ℕ) → says_bytes (w ++ xs) ≡ false)
unfolding pieces form_by says_bytes
first_word (Sit n) = (_, _, refl, λ xs. refl, λ xs. refl, λ xs. refl)
first_word (Play t m v) = (_, _, refl, λ xs. refl, λ xs. refl, λ xs. refl)
first_word (Ticks n) = (_, _, refl, λ xs. refl, λ xs. refl, λ xs. refl)
first_word (See t) = (_, _, refl, λ xs. refl, λ xs. refl, λ xs. refl)
first_word (May t) = (_, _, refl, λ xs. refl, λ xs. refl, λ xs. refl)
first_word (Back t n) = (_, _, refl, λ xs. refl, λ xs. refl, λ xs. refl)
first_word (CanForce t m k d) = (_, _, refl, λ xs. refl, λ xs. refl, λ xs. refl)

-- what comes after the white space in front tells the form
pub begun :
    (c : Call) (line : List ℕ) → IsLine c line →
    (gap : List ℕ) × (xs : List ℕ) × (line ≡ gap ++ xs) × (all blank gap ≡ true) × (starts blank xs ≡ false) × (form_by xs ≡ form_of c)
    × (says_bytes xs ≡ false)
begun c line h =
    let f = first_word c in
    let u = unwrite (subst (λ ps. Written 0 ps line) f.2 h) in
    let same : f.0 ++ u.2 ≡ u.1 ++ u.2 = ap (λ ds. ds ++ u.2) (sym u.6) in
    (u.0, f.0 ++ u.2, u.3 ∙ ap (λ xs. u.0 ++ xs) (sym same), u.5, f.3 u.2, f.4 u.2, f.5 u.2)

-- no line is the line of two calls
pub one_call : OneCallALine
one_call c d line h k =
    let b = begun c line h in
    let b' = begun d line k in
    let after = (split_unique blank b.0 b'.0 b.1 b'.1 b.3 b'.3 b.4 b'.4 (sym b.2 ∙ b'.2)).1 in
    let form : form_of d ≡ form_of c = sym b'.5 ∙ sym (ap form_by after) ∙ b.5 in
    says_same (form_of c) (proper c) 0 c d line (line_says c line h) (subst (λ f. Says f 0 d line) form (line_says d line k))

-- one blank more in front
more_space : {ps : List Piece} {xs : List ℕ} → Written 0 ps xs → Written 1 ps (32 ∷ xs)
unfolding all
more_space (end xs h) = end (32 ∷ xs) h
more_space (piece gap ds rest enough white spelled more) = piece (32 ∷ gap) ds rest (omega arith) white spelled more

-- what is printed of a number is its digits
own : IsNumeralModel (λ ds. all digit ds ≡ true) (value_from 0)
unfolding all value_from
own = numerals_by_fold _ (search rules) value_from (search rules)

-- a piece that can be printed
abbrev Printable : Piece → Type 0
Printable (word w) = Unit {0}
Printable (number n) = n < 4294967296

-- a piece that is printed is so written
printed_spells : (p : Piece) → Printable p → Spells p (printed_piece p)
printed_spells (word w) h = refl
printed_spells (number n) h = let l : n < 2 ^ 64 = omega arith in (decimal_nonempty n l, digits_decimal own n l, digits_value-decimal own n l, h)

-- and so are several, with a blank between them
printed_written : (ps : List Piece) → AllByRecursion Printable ps → Written 0 ps (printed_pieces ps)
unfolding printed_pieces all
printed_written [] h = end [] refl
printed_written (p ∷ []) h =
    subst (λ xs. Written 0 (p ∷ []) xs) (append-nil (printed_piece p)) (piece [] (printed_piece p) [] (omega arith) refl (printed_spells p h.0) (end [] refl))
printed_written (p ∷ q ∷ ps) h =
    piece [] (printed_piece p) (32 ∷ printed_pieces (q ∷ ps)) (omega arith) refl (printed_spells p h.0) (more_space (printed_written (q ∷ ps) h.1))

-- the numbers of a readable call fit
printable : (c : Call) → readable c ≡ true → AllByRecursion Printable (pieces c)
unfolding pieces readable
printable (Sit n) e = grind (arith, nat_tests)
printable (Play t m v) e = grind (arith, nat_tests)
printable (Ticks n) e = grind (arith, nat_tests)
printable (See t) e = grind (arith, nat_tests)
printable (May t) e = grind (arith, nat_tests)
printable (Back t n) e = grind (arith, nat_tests)
printable (CanForce t m k d) e = grind (arith, nat_tests)

-- a printed call is read back: whatever is read back is the call, since the line is no other's
pub printed_back : PrintedReadsBack
unfolding printed
printed_back c e = (line, by_answer (call_of (printed c)) (reads (printed c)))
  where
    line : IsLine c (printed c)
    line = printed_written (pieces c) (printable c e)

    by_answer : (r : Result Call ℕ) → Reads (printed c) r → r ≡ Ok c
    by_answer (Ok d) h = ap Ok (one_call d c (printed c) h line)
    by_answer (Err n) h = absurd (h.0 c line)
