-- Bytes written over others: what does not fit changes nothing, and what is written in turn stands there together.
use Rattle.std.proofs.Common.{◌≡◌, ℕ, ◌+◌, ◌*◌, ◌<◌, ◌≤◌, List, [], ◌∷◌, ◌++◌, length, get_or, take, drop, set, Some, None, sym, refl, ap, ◌∙◌, ⊎_elim, zero-add, add-one, arith, length-append, length-drop}
use Rattle.std.proofs.lemmas.Bool.{cond-true, cond-false, le-leb, lt-leb, cases_lt}
use Rattle.std.proofs.lemmas.List.{append_assoc, take-append-drop, length-take-le, take_at, take-append-le, take-take, take_more, drop_at, drop-drop, set_split}
use Rattle.wire.specs.Numbers.{number_bytes}
use Rattle.wire.specs.Fields.{fields_bytes, written, room}
use Rattle.wire.proofs.FieldLists.{one_field, length_fields_bytes, fields_append}

pub written_none : (i : ℕ) (bs old : List ℕ) → length old < i + length bs → written i bs old ≡ old
unfolding written
written_none i bs old h = cond-false _ _ _ (lt-leb _ _ h)

pub written_is : (i : ℕ) (bs old : List ℕ) → i + length bs ≤ length old → written i bs old ≡ take i old ++ (bs ++ drop (i + length bs) old)
unfolding written
written_is i bs old h = cond-true _ _ _ (le-leb _ _ h)

pub length_written : (i : ℕ) (bs old : List ℕ) → length (written i bs old) ≡ length old
length_written i bs old =
    ⊎_elim (λ h. ap length (written_none i bs old h))
    (λ h.
    ap length (written_is i bs old h) ∙ length-append (take i old) (bs ++ drop (i + length bs) old)
    ∙ omega (arith, length-take-le i old (omega arith), length-append bs (drop (i + length bs) old), length-drop (i + length bs) old))
    (cases_lt (length old) (i + length bs))

-- nothing written, and one byte
pub written_nothing : (i : ℕ) (old : List ℕ) → written i [] old ≡ old
written_nothing i old =
    ⊎_elim (λ h. written_none i [] old (omega arith))
    (λ h. written_is i [] old (omega arith) ∙ ap (λ j. take i old ++ drop j old) (omega arith) ∙ take-append-drop i old) (cases_lt (length old) i)

pub written_byte : (i x : ℕ) (old : List ℕ) → i < length old → set old i x ≡ written i (x ∷ []) old
written_byte i x old h =
    set_split old i x h ∙ ap (λ j. take i old ++ (x ∷ drop j old)) (sym (add-one i)) ∙ sym (written_is i (x ∷ []) old (omega arith))

-- one after the other
pub written_then :
    (i j : ℕ) (xs ys old : List ℕ) → j ≡ i + length xs → j + length ys ≤ length old → written j ys (written i xs old) ≡ written i (xs ++ ys) old
written_then i j xs ys old at room =
    let front : length (take i old ++ xs) ≡ j = length-append (take i old) xs ∙ omega (arith, length-take-le i old (omega arith)) in
    let split : written i xs old ≡ (take i old ++ xs) ++ drop j old =
    written_is i xs old (omega arith) ∙ ap (λ k. take i old ++ (xs ++ drop k old)) (sym at) ∙ sym (append_assoc (take i old) xs (drop j old)) in
    let before : take j (written i xs old) ≡ take i old ++ xs = ap (take j) split ∙ take_at (take i old ++ xs) (drop j old) j front in
    let after : drop (j + length ys) (written i xs old) ≡ drop (j + length ys) old =
    sym (drop-drop (length ys) j (written i xs old)) ∙ ap (drop (length ys)) (ap (drop j) split ∙ drop_at (take i old ++ xs) (drop j old) j front)
    ∙ drop-drop (length ys) j old in
    let both : j + length ys ≡ i + length (xs ++ ys) = omega (arith, length-append xs ys) in
    written_is j ys (written i xs old) (omega (arith, length_written i xs old)) ∙ (λ k. before k ++ (ys ++ after k))
    ∙ append_assoc (take i old) xs (ys ++ drop (j + length ys) old)
    ∙ ap (λ l. take i old ++ l) (sym (append_assoc xs ys (drop (j + length ys) old)) ∙ ap (λ k. (xs ++ ys) ++ drop k old) both)
    ∙ sym (written_is i (xs ++ ys) old (omega arith))

-- or what stands behind first
pub written_before :
    (i j : ℕ) (xs ys old : List ℕ) → j ≡ i + length xs → j + length ys ≤ length old → written i xs (written j ys old) ≡ written i (xs ++ ys) old
written_before i j xs ys old at room =
    let split : written j ys old ≡ take j old ++ (ys ++ drop (j + length ys) old) = written_is j ys old room in
    let front : length (take j old) ≡ j = length-take-le j old (omega arith) in
    let before : take i (written j ys old) ≡ take i old =
    ap (take i) split ∙ take-append-le i (take j old) (ys ++ drop (j + length ys) old) (omega arith) ∙ take-take i j old (omega arith) in
    let after : drop (i + length xs) (written j ys old) ≡ ys ++ drop (j + length ys) old =
    ap (λ k. drop k (written j ys old)) (sym at) ∙ ap (drop j) split ∙ drop_at (take j old) (ys ++ drop (j + length ys) old) j front in
    let both : j + length ys ≡ i + length (xs ++ ys) = omega (arith, length-append xs ys) in
    written_is i xs (written j ys old) (omega (arith, length_written j ys old)) ∙ (λ k. before k ++ (xs ++ after k))
    ∙ ap (λ l. take i old ++ l) (sym (append_assoc xs ys (drop (j + length ys) old)) ∙ ap (λ k. (xs ++ ys) ++ drop k old) both)
    ∙ sym (written_is i (xs ++ ys) old (omega arith))

-- what is written over the front stands there, and the rest stays
pub written_front : (bs old : List ℕ) → length bs ≤ length old → written 0 bs old ≡ bs ++ drop (length bs) old
written_front bs old h = written_is 0 bs old (omega arith) ∙ ap (λ k. bs ++ drop k old) (zero-add (length bs))

-- fields written after fields
pub fields_then :
    (i j : ℕ) (ns ms old : List ℕ) → j ≡ i + 4 * length ns → j + 4 * length ms ≤ length old
    → written j (fields_bytes ms) (written i (fields_bytes ns) old) ≡ written i (fields_bytes (ns ++ ms)) old
fields_then i j ns ms old at room =
    written_then i j (fields_bytes ns) (fields_bytes ms) old (omega (arith, length_fields_bytes ns)) (omega (arith, length_fields_bytes ms))
    ∙ ap (λ l. written i l old) (sym (fields_append ns ms))

pub field_then :
    (i j n : ℕ) (ns old : List ℕ) → j ≡ i + 4 * length ns → j + 4 ≤ length old
    → written j (number_bytes 4 n) (written i (fields_bytes ns) old) ≡ written i (fields_bytes (ns ++ (n ∷ []))) old
field_then i j n ns old at room =
    ap (λ l. written j l (written i (fields_bytes ns) old)) (sym (one_field n)) ∙ fields_then i j ns (n ∷ []) old at room

-- whether there is room
pub no_room : (i : ℕ) (bs old : List ℕ) → length old < i + length bs → None ≡ room i bs old
unfolding room
no_room i bs old h = sym (cond-false _ _ _ (lt-leb _ _ h))

pub room_for : (i n : ℕ) (bs old : List ℕ) → length bs ≡ n → i + n ≤ length old → Some n ≡ room i bs old
unfolding room
room_for i n bs old e h = ap Some (sym e) ∙ sym (cond-true _ _ _ (le-leb (i + length bs) (length old) (omega arith)))

-- a field, or several, written after fields that stand from place i on
module _ (old : List ℕ) {mid new : List ℕ} (i j : ℕ) (ns : List ℕ) (before : mid ≡ written i (fields_bytes ns) old) (place : j ≡ i + 4 * length ns) where
  pub then_field : (n : ℕ) → new ≡ written j (number_bytes 4 n) mid → j + 4 ≤ length old → new ≡ written i (fields_bytes (ns ++ (n ∷ []))) old
  then_field n e fits = e ∙ ap (written j (number_bytes 4 n)) before ∙ field_then i j n ns old place fits

  pub then_fields : (ms : List ℕ) → new ≡ written j (fields_bytes ms) mid → j + 4 * length ms ≤ length old → new ≡ written i (fields_bytes (ns ++ ms)) old
  then_fields ms e fits = e ∙ ap (written j (fields_bytes ms)) before ∙ fields_then i j ns ms old place fits

pub first_field : (old : List ℕ) {new : List ℕ} (i n : ℕ) → new ≡ written i (number_bytes 4 n) old → new ≡ written i (fields_bytes (n ∷ [])) old
first_field old i n e = e ∙ ap (λ l. written i l old) (sym (one_field n))

-- a loop over numbers, one field on
pub fields_more :
    (old ns mid new : List ℕ) (at i next : ℕ) → at + 4 * length ns ≤ length old → i < length ns → next ≡ at + 4 * i
    → mid ≡ written at (fields_bytes (take i ns)) old → new ≡ written next (number_bytes 4 (get_or ns i 0)) mid
    → new ≡ written at (fields_bytes (take (i + 1) ns)) old
fields_more old ns mid new at i next fits h place before e =
    let front : length (take i ns) ≡ i = length-take-le i ns (omega arith) in
    then_field old at next (take i ns) before (omega arith) (get_or ns i 0) e (omega arith)
    ∙ ap (λ l. written at (fields_bytes l) old) (sym (take_more ns i 0 h))

-- a kind, and then the fields that stand from place 1 on
pub after_kind :
    (old : List ℕ) {new : List ℕ} (k : ℕ) (ns : List ℕ) → new ≡ written 1 (fields_bytes ns) (set old 0 k) → 1 + 4 * length ns ≤ length old
    → new ≡ written 0 (k ∷ fields_bytes ns) old
after_kind old k ns e fits =
    e ∙ ap (written 1 (fields_bytes ns)) (written_byte 0 k old (omega arith))
    ∙ written_then 0 1 (k ∷ []) (fields_bytes ns) old refl (omega (arith, length_fields_bytes ns))
