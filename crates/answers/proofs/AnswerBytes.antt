-- Answers come back from their bytes, and bytes from their answers.
use Rattle.std.proofs.Common.{◌≡◌, ℕ, zero, suc, ◌+◌, ◌*◌, true, cond, eqb, List, [], ◌∷◌, ◌++◌, length, get_or, take, drop, Some, None, Option, sym, refl, ap, ◌∙◌, subst, ⊎_elim, arith, length-append}
use Rattle.std.proofs.lemmas.Bool.{cond-true, cond-false, cond_both, cases_Bool, eqb-true, eq-eqb}
use Rattle.std.proofs.lemmas.List.{append-nil, take_at, drop_at, drop_all}
use Rattle.rules.specs.declared.Move.{Move}
use Rattle.rules.specs.Rules.{Position}
use Rattle.rules.specs.Calls.{Answer, refused, number, shown, listed, forced}
use Rattle.rules.specs.Bounds.{all_below}
use Rattle.wire.specs.Numbers.{number_bytes}
use Rattle.wire.specs.Fields.{fields_bytes, field_at, fields_at}
use Rattle.wire.proofs.FieldLists.{fields_split, fields_fit, fields_back, length_fields_at, length_fields_bytes, fields_at_append, three_fields}
use Rattle.answers.specs.Answers.{moves_fields, answer_kind, answer_fields, answer_bytes, fits_answer, moves_at, whole, cell_count, after_cells, clock_count, shown_at, parse_answer, AnswerReadsBack, AnswerWritesBack}

pub length_answer : (a : Answer) → length (answer_bytes a) ≡ 1 + 4 * length (answer_fields a)
unfolding answer_bytes
length_answer a = omega (arith, length_fields_bytes (answer_fields a))

pub length_shown : (p : Position) (t e : ℕ) (cs : List ℕ) → length (answer_bytes (shown p t e cs)) ≡ 17 + 4 * length p + 4 * length cs
unfolding answer_fields
length_shown p t e cs = length_answer (shown p t e cs) ∙ omega (arith, length-append p (t ∷ e ∷ length cs ∷ cs))

pub length_moves : (vs : List Move) → length (moves_fields vs) ≡ 3 * length vs
unfolding moves_fields
length_moves [] = refl
length_moves (v ∷ vs) = omega (arith, length_moves vs)

-- lists of the same length that are equal together are equal
same_parts : (xs ys us vs : List ℕ) → length xs ≡ length us → xs ++ ys ≡ us ++ vs → (xs ≡ us) × (ys ≡ vs)
same_parts xs ys us vs long e = (
  sym (take_at xs ys (length us) long) ∙ ap (take (length us)) e ∙ take_at us vs (length us) refl,
  sym (drop_at xs ys (length us) long) ∙ ap (drop (length us)) e ∙ drop_at us vs (length us) refl,
)

-- the fields of an answer come back, where they all fit
module _ (a : Answer) (fit : fits_answer a ≡ true) where
  back : fields_at (answer_bytes a) 1 (length (answer_fields a)) ≡ answer_fields a
  unfolding answer_bytes fits_answer
  back = fields_back (answer_bytes a) [] 1 (answer_fields a) fit (sym (append-nil (fields_bytes (answer_fields a))))

-- so do the moves
moves_back : (bs : List ℕ) (vs : List Move) (i : ℕ) → fields_at bs i (length (moves_fields vs)) ≡ moves_fields vs → moves_at bs i (length vs) ≡ vs
unfolding moves_fields moves_at
moves_back bs [] i e = refl
moves_back bs (v ∷ vs) i e =
    let all : field_at bs i ∷ field_at bs (i + 4) ∷ field_at bs (i + 8) ∷ fields_at bs (i + 12) (length (moves_fields vs)) ≡ moves_fields (v ∷ vs) =
    sym (three_fields bs i (length (moves_fields vs))) ∙ e in
    λ j.
    record { rule = get_or (all j) 0 0; first = get_or (all j) 1 0; second = get_or (all j) 2 0 } ∷ moves_back bs vs (i + 12) (ap (drop 3) all) j

-- and a position
shown_back :
    (bs : List ℕ) (p : Position) (t e : ℕ) (cs : List ℕ)
    → fields_at bs 1 (length (answer_fields (shown p t e cs))) ≡ answer_fields (shown p t e cs)
    → (shown_at bs ≡ shown p t e cs) × (after_cells bs + 12 + 4 * clock_count bs ≡ 17 + 4 * length p + 4 * length cs)
unfolding answer_fields fields_at
shown_back bs p t e cs all =
    let n : cell_count bs ≡ length p = ap (λ l. get_or l 0 0) all in
    let tail : List ℕ = t ∷ e ∷ length cs ∷ cs in
    let split : fields_at bs 5 (length p) ++ fields_at bs (5 + 4 * length p) (length tail) ≡ p ++ tail =
    sym (fields_at_append bs (length p) 5 (length tail)) ∙ ap (fields_at bs 5) (sym (length-append p tail)) ∙ ap (drop 1) all in
    let both = same_parts (fields_at bs 5 (length p)) _ p tail (length_fields_at bs (length p) 5) split in
    let place : after_cells bs ≡ 5 + 4 * length p = ap (λ x. 5 + 4 * x) n in
    let rest : field_at bs (after_cells bs) ∷ field_at bs (after_cells bs + 4) ∷ field_at bs (after_cells bs + 8)
    ∷ fields_at bs (after_cells bs + 12) (length cs) ≡ tail =
    sym (three_fields bs (after_cells bs) (length cs)) ∙ ap (λ x. fields_at bs x (length tail)) place ∙ both.1 in
    let k : clock_count bs ≡ length cs = ap (λ l. get_or l 2 0) rest in (
      (λ j.
          shown ((ap (fields_at bs 5) n ∙ both.0) j) (get_or (rest j) 0 0) (get_or (rest j) 1 0)
          ((ap (fields_at bs (after_cells bs + 12)) k ∙ ap (drop 3) rest) j)),
      omega arith,
    )

pub whole_is : (bs : List ℕ) (n : ℕ) (a : Answer) → length bs ≡ n → whole bs n a ≡ Some a
whole_is bs n a e = cond-true (eqb (length bs) n) (Some a) None (eq-eqb (length bs) n e)

pub reads_back : AnswerReadsBack
unfolding parse_answer answer_bytes answer_kind answer_fields fields_bytes fields_at number_bytes
reads_back (refused r) fit = λ j. Some (refused (record { number = get_or (back (refused r) fit j) 0 0; place = get_or (back (refused r) fit j) 1 0 }))
reads_back (number n) fit = λ j. Some (number (get_or (back (number n) fit j) 0 0))
reads_back (shown p t e cs) fit =
    let bs : List ℕ = answer_bytes (shown p t e cs) in
    let same = shown_back bs p t e cs (back (shown p t e cs) fit) in
    let long : length bs ≡ after_cells bs + 12 + 4 * clock_count bs = length_shown p t e cs ∙ sym same.1 in
    whole_is bs (after_cells bs + 12 + 4 * clock_count bs) (shown_at bs) long ∙ ap Some same.0
reads_back (listed vs) fit =
    let bs : List ℕ = answer_bytes (listed vs) in
    let all = back (listed vs) fit in
    let n : field_at bs 1 ≡ length vs = ap (λ l. get_or l 0 0) all in
    let long : length bs ≡ 5 + 12 * field_at bs 1 = length_answer (listed vs) ∙ omega (arith, length_moves vs) in
    whole_is bs (5 + 12 * field_at bs 1) (listed (moves_at bs 5 (field_at bs 1))) long
    ∙ ap (λ l. Some (listed l)) (ap (moves_at bs 5) n ∙ moves_back bs vs 5 (ap (drop 1) all))
reads_back (forced n) fit = λ j. Some (forced (get_or (back (forced n) fit j) 0 0))

-- bytes that have the kind and the fields of an answer are its bytes
from_fields :
    (bs : List ℕ) (m : ℕ) (a : Answer) → all_below 256 bs ≡ true → length bs ≡ 1 + 4 * m → get_or bs 0 0 ≡ answer_kind a → answer_fields a ≡ fields_at bs 1 m
    → (bs ≡ answer_bytes a) × (fits_answer a ≡ true)
unfolding answer_bytes fits_answer
from_fields [] m a small long kind fields = absurd (omega arith)
from_fields (x ∷ bs) m a small long kind fields =
    let rest : bs ≡ fields_bytes (answer_fields a) =
    fields_split (x ∷ bs) m 1 small (omega arith) ∙ ap (λ l. fields_bytes (fields_at (x ∷ bs) 1 m) ++ l) (drop_all (1 + 4 * m) (x ∷ bs) (omega arith))
    ∙ append-nil (fields_bytes (fields_at (x ∷ bs) 1 m)) ∙ ap fields_bytes (sym fields) in
    ((λ j. kind j ∷ rest j), ap (all_below 4294967296) fields ∙ fields_fit (x ∷ bs) m 1 small (omega arith))

moves_fields_at : (bs : List ℕ) (n i : ℕ) → moves_fields (moves_at bs i n) ≡ fields_at bs i (3 * n)
unfolding moves_fields moves_at fields_at
moves_fields_at bs zero i = refl
moves_fields_at bs (suc n) i =
    let count : suc (suc (suc (3 * n))) ≡ 3 * suc n = omega arith in
    ap (λ l. field_at bs i ∷ field_at bs (i + 4) ∷ field_at bs (i + 8) ∷ l) (moves_fields_at bs n (i + 12)) ∙ sym (three_fields bs i (3 * n))
    ∙ ap (fields_at bs i) count

pub length_moves_at : (bs : List ℕ) (n i : ℕ) → length (moves_at bs i n) ≡ n
unfolding moves_at
length_moves_at bs zero i = refl
length_moves_at bs (suc n) i = ap suc (length_moves_at bs n (i + 12))

shown_fields : (bs : List ℕ) → answer_fields (shown_at bs) ≡ fields_at bs 1 (suc (cell_count bs + suc (suc (suc (clock_count bs)))))
unfolding answer_fields fields_at
shown_fields bs =
    let clocks : List ℕ = fields_at bs (after_cells bs + 12) (clock_count bs) in
    (λ j.
    length_fields_at bs (cell_count bs) 5 j ∷ (fields_at bs 5 (cell_count bs)
    ++ (field_at bs (after_cells bs) ∷ field_at bs (after_cells bs + 4) ∷ length_fields_at bs (clock_count bs) (after_cells bs + 12) j ∷ clocks)))
    ∙ ap (λ l. cell_count bs ∷ (fields_at bs 5 (cell_count bs) ++ l)) (sym (three_fields bs (after_cells bs) (clock_count bs)))
    ∙ ap (λ l. cell_count bs ∷ l) (sym (fields_at_append bs (cell_count bs) 5 (suc (suc (suc (clock_count bs))))))

listed_fields : (bs : List ℕ) → answer_fields (listed (moves_at bs 5 (field_at bs 1))) ≡ fields_at bs 1 (suc (3 * field_at bs 1))
unfolding answer_fields fields_at
listed_fields bs = λ j. length_moves_at bs (field_at bs 1) 5 j ∷ moves_fields_at bs (field_at bs 1) 5 j

-- what was read, and that there are just so many bytes
pub whole_some : (bs : List ℕ) (n : ℕ) (x a : Answer) → whole bs n x ≡ Some a → (length bs ≡ n) × (x ≡ a)
whole_some bs n x a e =
    ⊎_elim (λ t. let w = cond-true (eqb (length bs) n) (Some x) None t in (eqb-true (length bs) n t, (cc)))
    (λ f. let w = cond-false (eqb (length bs) n) (Some x) None f in let z : ◌≡◌ {A = ℕ} 0 1 = cc in absurd (omega arith)) (cases_Bool (eqb (length bs) n))

-- what has to be shown of each way of reading
abbrev Back : List ℕ → Answer → Option Answer → Type 0
Back bs a o = o ≡ Some a → (bs ≡ answer_bytes a) × (fits_answer a ≡ true)

module _ (bs : List ℕ) (a : Answer) (small : all_below 256 bs ≡ true) where
  back_whole :
      (m n : ℕ) (x : Answer) → n ≡ 1 + 4 * m → answer_fields x ≡ fields_at bs 1 m → get_or bs 0 0 ≡ answer_kind x → Back bs a (whole bs n x)
  back_whole m n x size fields kind e =
      let w = whole_some bs n x a e in
      subst (λ y. (bs ≡ answer_bytes y) × (fits_answer y ≡ true)) w.1 (from_fields bs m x small (w.0 ∙ size) kind fields)

  by_kind : (k : ℕ) (x y : Option Answer) → (get_or bs 0 0 ≡ k → Back bs a x) → Back bs a y → Back bs a (cond (eqb (get_or bs 0 0) k) x y)
  by_kind k x y here after = cond_both (eqb (get_or bs 0 0) k) x y (Back bs a) (λ e. here (eqb-true (get_or bs 0 0) k e)) (λ e. after)

pub writes_back : AnswerWritesBack
unfolding parse_answer answer_kind answer_fields fields_at
writes_back bs a small =
    by_kind bs a small 0 _ _ (back_whole bs a small 2 9 (refused (record { number = field_at bs 1; place = field_at bs 5 })) refl refl)
    (by_kind bs a small 1 _ _ (back_whole bs a small 1 5 (number (field_at bs 1)) refl refl)
    (by_kind bs a small 2 _ _
    (back_whole bs a small (suc (cell_count bs + suc (suc (suc (clock_count bs))))) (after_cells bs + 12 + 4 * clock_count bs) (shown_at bs) (omega arith)
    (shown_fields bs))
    (by_kind bs a small 3 _ _
    (back_whole bs a small (suc (3 * field_at bs 1)) (5 + 12 * field_at bs 1) (listed (moves_at bs 5 (field_at bs 1))) (omega arith) (listed_fields bs))
    (by_kind bs a small 4 _ _ (back_whole bs a small 1 5 (forced (field_at bs 1)) refl refl)
    (λ e. let z : ◌≡◌ {A = ℕ} 0 1 = cc in absurd (omega arith))))))
