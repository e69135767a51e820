-- What letters say, and how what is kept of them is read.
use Rattle.std.proofs.Common.{◌≡◌, ℕ, suc, ◌+◌, ◌*◌, ◌<◌, ◌≤◌, min, max, true, cond, eqb, ltb, List, [], ◌∷◌, length, take, Ok, Err, Option, Result, unwrap_or, sym, refl, ap, ◌∙◌, subst, inr, ⊎_elim, arith, length-take}
use Rattle.std.proofs.lemmas.List.{take_all, take-take, take_at, length-take-le}
use Rattle.std.proofs.lemmas.Bool.{cases_lt, cond-false, ne_eqb}
use Rattle.std.proofs.lemmas.Bool.Decides.{nat_tests}
use Rattle.rules.specs.declared.Call.{Call}
use Rattle.rules.specs.declared.Call.TheVariants.{Sit, Play, Ticks, See, May, Back, CanForce}
use Rattle.rules.specs.Bounds.{readable}
use Rattle.rules.specs.Calls.{call_number}
use Rattle.wire.specs.Calls.{call_bytes, field_count, parse_call, call_of as kind-call}
use Rattle.wire.specs.Fields.{fields_at, written, room}
use Rattle.wire.proofs.CallBytes.{length_call, reads_back}
use Rattle.wire.proofs.Writing.{room_for, written_front}
use Rattle.text.specs.Grammar.{Piece, word, number, pieces, Written, end, piece, Reads}
use Rattle.text.specs.Raw.{RawReads, Kept}
use Rattle.text.specs.declared.raw.Raw.{Raw}
use Rattle.text.proofs.Calls.{one_call}
use Rattle.text.proofs.RawLines.{one_bytes, not_both_sorts, longer_of_both}
use Rattle.commands.proofs.Meaning.{few_fields, first_tell}
use Rattle.server_commands.specs.declared.kept.CallBytes.{CallBytes}
use Rattle.server_commands.specs.Lines.{Says, ReadAsSaid}
use Rattle.commands.specs.declared.lines.Line.TheVariants as lines

pub call_few : (c : Call) → length (call_bytes c) ≤ 21
call_few c = omega (arith, length_call c, few_fields (call_number c))

-- so its bytes have room
pub call_kept :
    (c : Call) (old new : List ℕ) (r : Option ℕ) (n : ℕ) → length old ≡ 22 → r ≡ room 0 (call_bytes c) old → new ≡ written 0 (call_bytes c) old
    → n ≡ unwrap_or r 0 → (n ≡ length (call_bytes c)) × (take n new ≡ call_bytes c)
call_kept c old new r n long size bytes value =
    let fits : length (call_bytes c) ≤ length old = omega (arith, call_few c) in
    let count : n ≡ length (call_bytes c) = value ∙ ap (λ o. unwrap_or o 0) (size ∙ sym (room_for 0 (length (call_bytes c)) (call_bytes c) old refl (omega arith))) in
    (count, ap (take n) (bytes ∙ written_front (call_bytes c) old fits) ∙ take_at (call_bytes c) _ n (sym count))

-- as much as is kept of bytes
kept_part : (room : ℕ) (bs kept : List ℕ) (count n : ℕ) → n ≡ min count room → take count kept ≡ take room bs → take n kept ≡ take room bs
kept_part room bs kept count n e h =
    ⊎_elim
    (λ l.
    let full : n ≡ room = omega arith in
    ap (λ m. take m kept) full ∙ sym (take-take room count kept (omega arith)) ∙ ap (take room) h ∙ take-take room room bs (omega arith))
    (λ l. let part : n ≡ count = omega arith in ap (λ m. take m kept) part ∙ h) (cases_lt room count)

-- what reading bytes answers
abbrev BytesRead : List ℕ → Result Raw ℕ → Type 0
BytesRead s r = (said : Result (List ℕ) ℕ) × RawReads s said × Kept said r

-- a line that says bytes
pub by_bytes :
    (s : List ℕ) (raw : Raw) (k : CallBytes) → k.bytes ≡ raw.bytes → k.count ≡ min raw.count 22 → BytesRead s (Ok raw) → Says s (lines.Call k)
by_bytes s raw kept same e h = by_said h.0 h.1 h.2
  where
    by_said :
        (said : Result (List ℕ) ℕ) → RawReads s said → Kept said (Ok raw) → Says s (lines.Call kept)
    by_said (Ok bs) is k =
        inr
        (bs, is, (e ∙ omega (arith, k.0, length-take 22 bs), ap (take kept.count) same ∙ kept_part 22 bs raw.bytes raw.count kept.count e k.1))
    by_said (Err m) is k = absurd k

-- one of neither sort
pub by_neither : (s : List ℕ) (m n r : ℕ) → r ≡ max m n → BytesRead s (Err m) → Reads s (Err n) → Says s (lines.NoCall r)
by_neither s m n r e h k = subst (λ x. Says s (lines.NoCall x)) (sym e) (longer_of_both s m n (by_said h.0 h.1 h.2) k)
  where
    by_said : (said : Result (List ℕ) ℕ) → RawReads s said → Kept said (Err m) → RawReads s (Err m)
    by_said (Ok bs) is k = absurd k
    by_said (Err j) is k = subst (λ x. RawReads s (Err x)) (sym k) is

-- the numbers of pieces that are written fit
abbrev Fitting : List Piece → Type 0
Fitting [] = Unit {0}
Fitting (word w ∷ ps) = Fitting ps
Fitting (number n ∷ ps) = (n < 4294967296) × Fitting ps

fitting : {least : ℕ} {ps : List Piece} {xs : List ℕ} → Written least ps xs → Fitting ps
fitting (end xs h) = tt
fitting (piece {p = word w} gap bs rest enough white spelled more) = fitting more
fitting (piece {p = number n} gap bs rest enough white spelled more) = (spelled.3, fitting more)

-- so the call of a line is readable
line_readable : (c : Call) → Fitting (pieces c) → readable c ≡ true
unfolding pieces readable
line_readable (Sit n) h = grind (arith, nat_tests)
line_readable (Play t m v) h = grind (arith, nat_tests)
line_readable (Ticks n) h = grind (arith, nat_tests)
line_readable (See t) h = grind (arith, nat_tests)
line_readable (May t) h = grind (arith, nat_tests)
line_readable (Back t n) h = grind (arith, nat_tests)
line_readable (CanForce t m k d) h = grind (arith, nat_tests)

pub read_as_said : ReadAsSaid
read_as_said s k =
    ⊎_elim
    (λ h. (
      (λ c is. ap parse_call h.2.1 ∙ reads_back h.0 (line_readable h.0 (fitting h.1)) ∙ ap Ok (one_call h.0 c s h.1 is)),
      λ bs is. absurd (not_both_sorts h.0 bs s h.1 is),
    ))
    (λ h. (
      (λ c is. absurd (not_both_sorts c h.0 s is h.1)),
      λ bs is. ap parse_call h.2.1 ∙ first_tell 21 h.0 (omega arith) ∙ ap parse_call (one_bytes h.0 bs s h.1 is),
    ))
