-- The list of legal moves, written part by part.
use Rattle.std.proofs.Common.{◌≡◌, ℕ, ◌+◌, ◌-◌, ◌*◌, ◌<◌, ◌≤◌, leb, List, [], ◌∷◌, ◌++◌, length, take, set, Some, None, sym, refl, ap, ◌∙◌, inl, inr, append_assoc, append-nil, arith, length-append, length-take}
use lib.Seq.{take-append-add}
use Rattle.std.proofs.lemmas.List.{take-append-le}
use Rattle.std.proofs.lemmas.Bool.{cases_Bool, leb-true, leb-false, cond-true, cond-false}
use Rattle.rules.specs.declared.Move.{Move}
use Rattle.rules.specs.Calls.{listed}
use Rattle.wire.specs.Numbers.{number_bytes}
use Rattle.wire.specs.Fields.{fields_bytes, written, room}
use Rattle.wire.proofs.FieldLists.{length_fields_bytes}
use Rattle.wire.proofs.Writing.{written_nothing, written_none, length_written, fields_then, no_room, room_for}
use Rattle.answers.specs.Answers.{moves_fields, answer_fields, answer_bytes}
use Rattle.answers.specs.Writing.{list_head, moves_bytes, move_bytes}
use Rattle.answers.proofs.AnswerBytes.{length_moves}
use Rattle.answers.proofs.WritingLemmas.{one_written, list_in_parts}
use Rattle.play.specs.Listing.{most_moves, part_listed, AllListed, SomeListed}

-- how many bytes a list of moves has, and one move
length_list : (vs : List Move) → length (answer_bytes (listed vs)) ≡ 5 + 12 * length vs
unfolding answer_bytes answer_fields
length_list vs = omega (arith, length_fields_bytes (length vs ∷ moves_fields vs), length_moves vs)

length_move : (v : Move) → length (move_bytes v) ≡ 12
unfolding moves_bytes moves_fields
length_move v = length_fields_bytes (moves_fields (v ∷ []))

-- what an answer on the room for a move says
has_room : (i : ℕ) (v : Move) (old : List ℕ) {n : ℕ} → Some n ≡ room i (move_bytes v) old → i + 12 ≤ length old
unfolding room
has_room i v old {n} e =
    elim (cases_Bool (leb (i + length (move_bytes v)) (length old))) [
      | inl t ↦ omega (arith, leb-true _ _ t, length_move v)
      | inr t ↦ let x : Some n ≡ None = e ∙ cond-false _ _ _ t in let z : ◌≡◌ {A = ℕ} 0 1 = cc in absurd (omega arith)
    ]

lacks_room : (i : ℕ) (v : Move) (old : List ℕ) → None ≡ room i (move_bytes v) old → length old < i + 12
unfolding room
lacks_room i v old e =
    elim (cases_Bool (leb (i + length (move_bytes v)) (length old))) [
      | inl t ↦ let x : None ≡ Some (length (move_bytes v)) = e ∙ cond-true _ _ _ t in let z : ◌≡◌ {A = ℕ} 0 1 = cc in absurd (omega arith)
      | inr t ↦ omega (arith, leb-false _ _ t, length_move v)
    ]

-- no moves, written anywhere
none_there : (i : ℕ) (old : List ℕ) → old ≡ written i (moves_bytes []) old
unfolding moves_bytes moves_fields fields_bytes
none_there i old = sym (written_nothing i old)

-- moves written after others
moves_append : (us vs : List Move) → moves_fields (us ++ vs) ≡ moves_fields us ++ moves_fields vs
unfolding moves_fields
moves_append [] vs = refl
moves_append (u ∷ us) vs = ap (λ l. u.rule ∷ u.first ∷ u.second ∷ l) (moves_append us vs)

moves_then : (old : List ℕ) (n k : ℕ) (us vs : List Move) → k ≡ n + length us → 5 + 12 * (k + length vs) ≤ length old
    → written (5 + 12 * k) (moves_bytes vs) (written (5 + 12 * n) (moves_bytes us) old) ≡ written (5 + 12 * n) (moves_bytes (us ++ vs)) old
unfolding moves_bytes
moves_then old n k us vs e fits =
    fields_then (5 + 12 * n) (5 + 12 * k) (moves_fields us) (moves_fields vs) old (omega (arith, length_moves us)) (omega (arith, length_moves vs))
    ∙ ap (λ l. written (5 + 12 * n) (fields_bytes l) old) (sym (moves_append us vs))

-- One move after k others.
module _ (mid : List ℕ) {new : List ℕ} (k : ℕ) (v : Move) (e : new ≡ written (5 + 12 * k) (move_bytes v) mid) where
  pub one_listed : {n : ℕ} → Some n ≡ room (5 + 12 * k) (move_bytes v) mid → AllListed (v ∷ []) k mid new (k + 1)
  one_listed h = record { count = refl; fits = omega (arith, has_room (5 + 12 * k) v mid h); bytes = e }

  pub one_refused : 5 + 12 * k ≤ length mid → None ≡ room (5 + 12 * k) (move_bytes v) mid → SomeListed (v ∷ []) k mid new
  one_refused h lacks =
      let most = lacks_room (5 + 12 * k) v mid lacks in
      let full : most_moves mid - k ≡ 0 = omega arith in
      record {
        too_many = omega arith;
        bytes =
            e ∙ written_none (5 + 12 * k) (move_bytes v) mid (omega (arith, length_move v)) ∙ none_there (5 + 12 * k) mid
            ∙ ap (λ j. written (5 + 12 * k) (moves_bytes (take j (v ∷ []))) mid) (sym full);
      }

-- The moves us, and then vs.
same_length : {us : List Move} {n k : ℕ} {old mid : List ℕ} → AllListed us n old mid k → length mid ≡ length old
same_length {us} {n} {old = old} a = ap length a.bytes ∙ length_written (5 + 12 * n) (moves_bytes us) old

both_listed : {us vs : List Move} {n k j : ℕ} {old mid new : List ℕ} → AllListed us n old mid k → AllListed vs k mid new j → AllListed (us ++ vs) n old new j
both_listed {us} {vs} {n} {k} {old = old} a b = record {
  count = omega (arith, a.count, b.count, length-append us vs);
  fits = omega (arith, b.fits, same_length a);
  bytes =
      b.bytes ∙ ap (written (5 + 12 * k) (moves_bytes vs)) a.bytes
      ∙ moves_then old n k us vs a.count (omega (arith, b.count, b.fits, same_length a));
}

second_refused : {us vs : List Move} {n k : ℕ} {old mid new : List ℕ} → AllListed us n old mid k → SomeListed vs k mid new → SomeListed (us ++ vs) n old new
second_refused {us} {vs} {n} {k} {old} {mid} a b =
    let same = same_length a in
    let left : ℕ = most_moves mid - k in
    let most : most_moves old - n ≡ length us + left = omega (arith, a.count, a.fits) in
    record {
      too_many = omega (arith, a.count, b.too_many, length-append us vs);
      bytes =
          b.bytes ∙ ap (written (5 + 12 * k) (moves_bytes (take left vs))) a.bytes
          ∙ moves_then old n k us (take left vs) a.count (omega (arith, a.fits, length-take left vs))
          ∙ ap (λ l. written (5 + 12 * n) (moves_bytes l) old) (sym (ap (λ j. take j (us ++ vs)) most ∙ take-append-add us vs left));
    }

first_refused : {us : List Move} (vs : List Move) {n : ℕ} {old mid : List ℕ} → SomeListed us n old mid → SomeListed (us ++ vs) n old mid
first_refused {us} vs {n} {old} a = record {
  too_many = omega (arith, a.too_many, length-append us vs);
  bytes =
      a.bytes
      ∙ ap (λ l. written (5 + 12 * n) (moves_bytes l) old) (sym (take-append-le (most_moves old - n) us vs (omega (arith, a.too_many))));
}

-- A list at work: some of its moves are written after n others, which makes k, and those that are left follow.
pub record Listing (all left : List Move) (n : ℕ) (old now : List ℕ) (k : ℕ) : Type 0 where
  pub done : List Move
  pub parts : done ++ left ≡ all
  pub so_far : AllListed done n old now k

pub begun : (all : List Move) (n : ℕ) (old : List ℕ) → 5 + 12 * n ≤ length old → Listing all all n old old n
begun all n old h = record { done = []; parts = refl; so_far = record { count = omega arith; fits = h; bytes = none_there (5 + 12 * n) old } }

pub like : {all left : List Move} {n j k : ℕ} {old mid new : List ℕ} → new ≡ mid → j ≡ k → Listing all left n old mid k → Listing all left n old new j
like a b i = rw (a, b) i

module _ {all left : List Move} {n k : ℕ} {old mid : List ℕ} (i : Listing all left n old mid k) where
  pub skipped : {rest : List Move} → rest ≡ left → Listing all rest n old mid k
  skipped e = record { done = i.done; parts = ap (λ l. i.done ++ l) e ∙ i.parts; so_far = i.so_far }

  pub ended : left ≡ [] → AllListed all n old mid k
  ended e =
      let whole : i.done ≡ all = sym (append-nil i.done) ∙ ap (λ l. i.done ++ l) (sym e) ∙ i.parts in
      rw (← whole) i.so_far

  -- us are next
  joined : (us rest : List Move) → left ≡ us ++ rest → (i.done ++ us) ++ rest ≡ all
  joined us rest e = append_assoc i.done us rest ∙ ap (λ l. i.done ++ l) (sym e) ∙ i.parts

  pub went_on : {us : List Move} (rest : List Move) {new : List ℕ} {j : ℕ} → left ≡ us ++ rest → AllListed us k mid new j → Listing all rest n old new j
  went_on {us} rest e b = record { done = i.done ++ us; parts = joined us rest e; so_far = both_listed i.so_far b }

  pub stopped : {us : List Move} (rest : List Move) {new : List ℕ} → left ≡ us ++ rest → SomeListed us k mid new → SomeListed all n old new
  stopped {us} rest e b = rw (← joined us rest e) (first_refused rest (second_refused i.so_far b))

-- The whole list, and its head.
module _ (old : List ℕ) (vs : List Move) where
  pub refused : length old < 5 + 12 * length vs → None ≡ room 0 (answer_bytes (listed vs)) old
  refused h = no_room 0 (answer_bytes (listed vs)) old (omega (arith, length_list vs))

  pub nothing_written : length old < 5 → old ≡ part_listed vs old
  unfolding part_listed
  nothing_written h = sym (written_none 5 (moves_bytes (take (most_moves old) vs)) old (omega arith))

  pub some_written : {new : List ℕ} → SomeListed vs 0 old new → new ≡ part_listed vs old
  unfolding part_listed
  some_written a =
      let e : most_moves old - 0 ≡ most_moves old = omega arith in
      a.bytes ∙ ap (λ j. written 5 (moves_bytes (take j vs)) old) e

  module _ {k : ℕ} {mid : List ℕ} (a : AllListed vs 0 old mid k) where
    pub all_fits : Some (5 + 12 * k) ≡ room 0 (answer_bytes (listed vs)) old
    all_fits = room_for 0 (5 + 12 * k) (answer_bytes (listed vs)) old (omega (arith, a.count, length_list vs)) (omega (arith, a.fits))

    pub all_written : {new : List ℕ} → new ≡ written 1 (number_bytes 4 k) (set mid 0 3) → new ≡ written 0 (answer_bytes (listed vs)) old
    unfolding list_head
    all_written {new} e =
        let n : k ≡ length vs = omega (arith, a.count) in
        let same = same_length a in
        one_written mid new 3 k (omega (arith, a.fits)) e ∙ ap (λ i. written 0 (list_head i) mid) n ∙ ap (written 0 (list_head (length vs))) a.bytes
        ∙ list_in_parts.1 old vs (omega (arith, a.fits))
