-- What is written in parts is the whole.
use Rattle.std.proofs.Common.{◌≡◌, ℕ, ◌+◌, ◌*◌, ◌≤◌, List, [], ◌∷◌, ◌++◌, length, set, sym, refl, ap, ◌∙◌, arith, length-append, length-set}
use Rattle.std.proofs.lemmas.List.{append_assoc}
use Rattle.wire.specs.Numbers.{number_bytes}
use Rattle.wire.specs.Fields.{fields_bytes, written}
use Rattle.wire.proofs.FieldLists.{length_fields_bytes, fields_append}
use Rattle.wire.proofs.Writing.{length_written, written_before, fields_then, first_field, then_field, then_fields, after_kind}
use Rattle.rules.specs.declared.Move.{Move}
use Rattle.answers.specs.Answers.{moves_fields, answer_kind, answer_fields, answer_bytes}
use Rattle.answers.specs.Writing.{list_head, moves_bytes, ListInParts}
use Rattle.answers.proofs.AnswerBytes.{length_moves}

-- a kind and one number, put by itself
pub one_written :
    (old new : List ℕ) (k n : ℕ) → 5 ≤ length old → new ≡ written 1 (number_bytes 4 n) (set old 0 k) → new ≡ written 0 (k ∷ fields_bytes (n ∷ [])) old
one_written old new k n fits e = after_kind old k (n ∷ []) (first_field (set old 0 k) 1 n e) fits

-- a position
pub shown_written :
    (old a b d e new cells clocks : List ℕ) (k t u : ℕ) → 17 + 4 * length cells + 4 * length clocks ≤ length old
    → a ≡ written 1 (number_bytes 4 (length cells)) (set old 0 k) → b ≡ written 5 (fields_bytes cells) a
    → d ≡ written (5 + 4 * length cells) (fields_bytes (t ∷ u ∷ [])) b
    → e ≡ written (5 + 4 * length cells + 8) (number_bytes 4 (length clocks)) d → new ≡ written (5 + 4 * length cells + 12) (fields_bytes clocks) e
    → new ≡ written 0 (k ∷ fields_bytes (length cells ∷ (cells ++ (t ∷ u ∷ length clocks ∷ clocks)))) old
shown_written old a b d e new cells clocks k t u fits ea eb ed ee en =
    let n : ℕ = length cells in
    let three : List ℕ = t ∷ u ∷ length clocks ∷ [] in
    let base : List ℕ = set old 0 k in
    let same : length base ≡ length old = length-set old 0 k in
    let with-cells : b ≡ written 1 (fields_bytes (n ∷ cells)) base =
    then_fields base 1 5 (n ∷ []) (first_field base 1 n ea) refl cells eb (omega arith) in
    let long : length b ≡ length base = ap length with-cells ∙ length_written 1 (fields_bytes (n ∷ cells)) base in
    let count : e ≡ written (5 + 4 * n) (fields_bytes three) b =
    then_field b (5 + 4 * n) (5 + 4 * n + 8) (t ∷ u ∷ []) ed refl (length clocks) ee (omega arith) in
    let with-three : e ≡ written 1 (fields_bytes ((n ∷ cells) ++ three)) base =
    then_fields base 1 (5 + 4 * n) (n ∷ cells) with-cells (omega arith) three count (omega arith) in
    let with-clocks : new ≡ written 1 (fields_bytes (((n ∷ cells) ++ three) ++ clocks)) base =
    then_fields base 1 (5 + 4 * n + 12) ((n ∷ cells) ++ three) with-three (omega (arith, length-append cells three)) clocks en (omega arith) in
    let joined : ((n ∷ cells) ++ three) ++ clocks ≡ n ∷ (cells ++ (t ∷ u ∷ length clocks ∷ clocks)) = append_assoc (n ∷ cells) three clocks in
    after_kind old k (n ∷ (cells ++ (t ∷ u ∷ length clocks ∷ clocks))) (with-clocks ∙ ap (λ l. written 1 (fields_bytes l) base) joined)
    (omega (arith, length-append cells (t ∷ u ∷ length clocks ∷ clocks)))

-- lists of moves, part by part
moves_push : (vs : List Move) (v : Move) → moves_fields (vs ++ (v ∷ [])) ≡ moves_fields vs ++ moves_fields (v ∷ [])
unfolding moves_fields
moves_push [] v = refl
moves_push (u ∷ vs) v = ap (λ l. u.rule ∷ u.first ∷ u.second ∷ l) (moves_push vs v)

pub list_in_parts : ListInParts
unfolding moves_bytes list_head answer_bytes answer_kind answer_fields
list_in_parts = (
  (λ old at vs v room.
      fields_then at (at + 12 * length vs) (moves_fields vs) (moves_fields (v ∷ [])) old (omega (arith, length_moves vs))
      (omega (arith, length_moves (v ∷ []))) ∙ ap (λ l. written at (fields_bytes l) old) (sym (moves_push vs v))),
  λ old vs room.
      written_before 0 5 (list_head (length vs)) (moves_bytes vs) old (omega (arith, length_fields_bytes (length vs ∷ [])))
      (omega (arith, length_fields_bytes (moves_fields vs), length_moves vs))
      ∙ ap (λ l. written 0 (3 ∷ l) old) (sym (fields_append (length vs ∷ []) (moves_fields vs))),
)
