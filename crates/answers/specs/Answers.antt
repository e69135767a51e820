-- Answers as bytes: a byte for the kind, and then numbers of four bytes each. Assumes nothing: these are definitions.
use Rattle.std.specs.Prelude.{◌≡◌, ℕ, zero, suc, ◌+◌, ◌*◌, Bool, true, cond, List, [], ◌∷◌, ◌++◌, length, Some, None, Option, ◌==◌, slice_index}
use Rattle.rules.specs.declared.Move.{Move}
use Rattle.rules.specs.Calls.{Answer, refused, number, shown, listed, forced}
use Rattle.rules.specs.Bounds.{all_below}
use Rattle.wire.specs.Fields.{fields_bytes, field_at, fields_at}

unfoldable pub moves_fields : List Move → List ℕ
moves_fields [] = []
moves_fields (v ∷ vs) = v.rule ∷ v.first ∷ v.second ∷ moves_fields vs

-- 0 a refusal, 1 a number, 2 a position, 3 a list of moves, 4 whether a gain can be forced
unfoldable pub answer_kind : Answer → ℕ
answer_kind (refused r) = 0
answer_kind (number n) = 1
answer_kind (shown p t e cs) = 2
answer_kind (listed vs) = 3
answer_kind (forced n) = 4

-- the numbers of an answer; cells, clocks and moves have their count before them
unfoldable pub answer_fields : Answer → List ℕ
answer_fields (refused r) = r.number ∷ r.place ∷ []
answer_fields (number n) = n ∷ []
answer_fields (shown p t e cs) = length p ∷ (p ++ (t ∷ e ∷ length cs ∷ cs))
answer_fields (listed vs) = length vs ∷ moves_fields vs
answer_fields (forced n) = n ∷ []

unfoldable pub answer_bytes : Answer → List ℕ
answer_bytes a = answer_kind a ∷ fields_bytes (answer_fields a)

-- the numbers and counts of an answer fit four bytes
unfoldable pub fits_answer : Answer → Bool
fits_answer a = all_below 4294967296 (answer_fields a)

-- the n moves that stand from place i on
unfoldable pub moves_at : List ℕ → ℕ → ℕ → List Move
moves_at bs i zero = []
moves_at bs i (suc n) = record { rule = field_at bs i; first = field_at bs (i + 4); second = field_at bs (i + 8) } ∷ moves_at bs (i + 12) n

-- the answer a, if there are n bytes
abbrev pub whole : List ℕ → ℕ → Answer → Option Answer
whole bs n a = cond (length bs == n) (Some a) None

-- a position in bytes: the count of its cells, the cells, whose turn, the end, the count of clocks, and the clocks
abbrev pub cell_count : List ℕ → ℕ
cell_count bs = field_at bs 1

abbrev pub after_cells : List ℕ → ℕ
after_cells bs = 5 + 4 * cell_count bs

abbrev pub clock_count : List ℕ → ℕ
clock_count bs = field_at bs (after_cells bs + 8)

abbrev pub shown_at : List ℕ → Answer
shown_at bs =
    shown (fields_at bs 5 (cell_count bs)) (field_at bs (after_cells bs)) (field_at bs (after_cells bs + 4))
    (fields_at bs (after_cells bs + 12) (clock_count bs))

-- the answer of kind k that bytes are
abbrev pub parse_as : ℕ → List ℕ → Option Answer
parse_as k bs =
    cond (k == 0) (whole bs 9 (refused (record { number = field_at bs 1; place = field_at bs 5 }))) (cond (k == 1) (whole bs 5 (number (field_at bs 1)))
    (cond (k == 2) (whole bs (after_cells bs + 12 + 4 * clock_count bs) (shown_at bs))
    (cond (k == 3) (whole bs (5 + 12 * field_at bs 1) (listed (moves_at bs 5 (field_at bs 1))))
    (cond (k == 4) (whole bs 5 (forced (field_at bs 1))) None))))

-- the answer that bytes are
unfoldable pub parse_answer : List ℕ → Option Answer
parse_answer bs = parse_as (slice_index bs 0) bs

-- an answer whose numbers fit comes back from its bytes
abbrev pub AnswerReadsBack : Type 0
AnswerReadsBack = (a : Answer) → fits_answer a ≡ true → parse_answer (answer_bytes a) ≡ Some a

-- bytes that are read as an answer are the bytes of that answer, and its numbers fit
abbrev pub AnswerWritesBack : Type 0
AnswerWritesBack =
    (bs : List ℕ) (a : Answer) → all_below 256 bs ≡ true → parse_answer bs ≡ Some a → (bs ≡ answer_bytes a) × (fits_answer a ≡ true)
