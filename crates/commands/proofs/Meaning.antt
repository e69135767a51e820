-- What a line stands for, by what it says and by its words.
use Rattle.std.proofs.Common.{◌≡◌, ℕ, suc, ◌+◌, ◌*◌, ◌≤◌, min, cond, eqb, ltb, List, [], ◌∷◌, length, take, Ok, Err, Result, sym, refl, ap, ◌∙◌, inl, inr, ⊎_elim, arith}
use Rattle.std.proofs.lemmas.List.{take_all, length-take-le}
use Rattle.std.proofs.lemmas.Bool.{cases_lt, cond-false, ne_eqb}
use Rattle.std.proofs.lemmas.Bool.Decides.{nat_tests}
use Rattle.rules.specs.declared.Call.{Call}
use Rattle.wire.specs.Calls.{field_count, parse_call, call_of as kind-call}
use Rattle.wire.specs.Fields.{fields_at}
use Rattle.text.specs.Grammar.{Reads}
use Rattle.text.specs.Raw.{RawReads, Kept}
use Rattle.text.specs.Reader.{call_of}
use Rattle.text.specs.RawReader.{raw_of}
use Rattle.text.specs.declared.raw.Raw.{Raw}
use Rattle.text.proofs.Lines.{reads}
use Rattle.text.proofs.RawLines.{raw_reads, longer_of_both}
use Rattle.commands.specs.Lines.{stands_for, line_call, Means, LineCallMeans}

-- no call has more than 21 bytes
pub few_fields : (k : ℕ) → 1 + 4 * field_count k ≤ 21
few_fields k = grind (arith, nat_tests)

too_long : (k : ℕ) (bs : List ℕ) → 21 ≤ length bs → parse_call (k ∷ bs) ≡ cond (ltb 6 k) (Err 0) (Err (1 + 4 * field_count k))
unfolding parse_call
too_long k bs l =
    let most : min (suc (length bs)) (1 + 4 * field_count k) ≡ 1 + 4 * field_count k = omega (arith, few_fields k) in
    ap (λ r. cond (ltb 6 k) (Err 0) r)
    (cond-false (eqb (suc (length bs)) (1 + 4 * field_count k)) (Ok (kind-call k (fields_at (k ∷ bs) 1 (field_count k))))
    (Err (min (suc (length bs)) (1 + 4 * field_count k))) (ne_eqb (suc (length bs)) (1 + 4 * field_count k) (λ e. omega (arith, few_fields k)))
    ∙ ap Err most)

-- so 22 bytes tell whether more of them are a call
pub first_tell : (n : ℕ) (bs : List ℕ) → 21 ≤ n → parse_call (take (suc n) bs) ≡ parse_call bs
first_tell n [] l = refl
first_tell n (k ∷ bs) l =
    ⊎_elim (λ h. too_long k (take n bs) (omega (arith, length-take-le n bs (omega arith))) ∙ sym (too_long k bs (omega arith)))
    (λ h. ap (λ xs. parse_call (k ∷ xs)) (take_all n bs h)) (cases_lt n (length bs))

-- a line that says bytes
pub by_bytes :
    (line : List ℕ) (raw : Raw) → Kept (raw_of line) (Ok raw) → parse_call (take raw.count raw.bytes) ≡ line_call line
unfolding line_call
by_bytes line raw h = by_answer (raw_of line) h
  where
    by_answer : (r : Result (List ℕ) ℕ) → Kept r (Ok raw) → parse_call (take raw.count raw.bytes) ≡ stands_for r (call_of line)
    by_answer (Ok bs) k = ap parse_call k.1 ∙ first_tell 21 bs (omega arith)
    by_answer (Err m) k = absurd k

-- one that says none
pub by_words : (line : List ℕ) (m : ℕ) (r : Result Call ℕ) → Kept (raw_of line) (Err m) → r ≡ call_of line → stands_for (Err m) r ≡ line_call line
unfolding line_call
by_words line m r h e = ap (stands_for (Err m)) e ∙ by_answer (raw_of line) h
  where
    by_answer : (s : Result (List ℕ) ℕ) → Kept s (Err m) → stands_for (Err m) (call_of line) ≡ stands_for s (call_of line)
    by_answer (Ok bs) k = absurd k
    by_answer (Err n) k = ap (λ p. stands_for (Err p) (call_of line)) k

-- and what that means
pub means : LineCallMeans
unfolding line_call
means line = by_answers (raw_of line) (call_of line) (raw_reads line) (reads line)
  where
    by_said : (bs : List ℕ) → RawReads line (Ok bs) → (s : Result Call ℕ) → parse_call bs ≡ s → Means line s
    by_said bs h (Ok c) e = inr (bs, h, e)
    by_said bs h (Err n) e = inl (bs, h, e)

    by_answers : (r : Result (List ℕ) ℕ) (s : Result Call ℕ) → RawReads line r → Reads line s → Means line (stands_for r s)
    by_answers (Ok bs) s h k = by_said bs h (parse_call bs) refl
    by_answers (Err m) (Ok c) h k = inl k
    by_answers (Err m) (Err n) h k = inr (longer_of_both line m n h k)
