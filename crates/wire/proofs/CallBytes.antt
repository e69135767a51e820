-- Calls come back from their bytes and bytes from their calls, and a refusal's place is as far as the bytes can be those of a call.
use Rattle.std.proofs.Common.{◌≡◌, ℕ, zero, suc, ◌+◌, ◌-◌, ◌*◌, ◌<◌, ◌≤◌, min, true, eqb, ltb, ◌⊎◌, List, [], ◌∷◌, ◌++◌, length, get_or, take, replicate, Ok, Err, sym, refl, ap, ◌∙◌, subst, inl, inr, ⊎_elim, arith, length-append, length-take}
use mathlib.Core.Bool.{and-true, and_assoc}
use lib.ListN.{length-replicate}
use Rattle.std.proofs.lemmas.Bool.{cond-true, cond-false, lt-ltb, le-ltb, eq-eqb, ne_eqb, cases_lt, cases_eq}
use Rattle.std.proofs.lemmas.List.{append-nil, drop_all, length-take-le}
use Rattle.rules.specs.declared.Call.{Call}
use Rattle.rules.specs.declared.Call.TheVariants.{Sit, Play, Ticks, See, May, Back, CanForce}
use Rattle.rules.specs.Calls.{call_number}
use Rattle.rules.specs.Bounds.{all_below, readable}
use Rattle.wire.specs.Fields.{fields_bytes, fields_at}
use Rattle.wire.specs.Calls.{call_fields, call_bytes, field_count, call_of, parse_call, CallReadsBack, CallWritesBack, CallPlaceIsLongestFront}
use Rattle.wire.specs.declared.calls.CallKind.{CallKind}
use Rattle.wire.specs.declared.calls.CallKind.TheVariants as kind
use Rattle.wire.specs.CallKinds.{byte_of}
use Rattle.wire.proofs.FieldLists.{fields_split, fields_fit, fields_back, length_fields_bytes, below_take, below_append}

-- a call is readable if its fields fit
readable_is : (c : Call) → readable c ≡ all_below 4294967296 (call_fields c)
unfolding readable call_fields all_below
readable_is (Sit n) = simp and-true
readable_is (Play t m v) = simp (and_assoc, and-true)
readable_is (Ticks n) = simp and-true
readable_is (See t) = simp and-true
readable_is (May t) = simp and-true
readable_is (Back t n) = simp (and_assoc, and-true)
readable_is (CanForce t m k d) = simp (and_assoc, and-true)

-- the kind of a call is known, and says how many fields it has
call_form : (c : Call) → (call_number c ≤ 6) × (length (call_fields c) ≡ field_count (call_number c)) × (call_of (call_number c) (call_fields c) ≡ c)
unfolding call_number call_fields
call_form (Sit n) = (omega arith, refl, refl)
call_form (Play t m v) = (omega arith, refl, refl)
call_form (Ticks n) = (omega arith, refl, refl)
call_form (See t) = (omega arith, refl, refl)
call_form (May t) = (omega arith, refl, refl)
call_form (Back t n) = (omega arith, refl, refl)
call_form (CanForce t m k d) = (omega arith, refl, refl)

-- a known kind and its fields are those of the call that is made of them
made_form :
    (k : ℕ) (bs : List ℕ) → k ≤ 6
    → (call_number (call_of k (fields_at bs 1 (field_count k))) ≡ k)
    × (call_fields (call_of k (fields_at bs 1 (field_count k))) ≡ fields_at bs 1 (field_count k))
unfolding call_number call_fields fields_at
made_form zero bs h = (refl, refl)
made_form (suc zero) bs h = (refl, refl)
made_form (suc (suc zero)) bs h = (refl, refl)
made_form (suc (suc (suc zero))) bs h = (refl, refl)
made_form (suc (suc (suc (suc zero)))) bs h = (refl, refl)
made_form (suc (suc (suc (suc (suc zero))))) bs h = (refl, refl)
made_form (suc (suc (suc (suc (suc (suc zero)))))) bs h = (refl, refl)
made_form (suc (suc (suc (suc (suc (suc (suc k))))))) bs h = absurd (omega arith)

pub length_call : (c : Call) → length (call_bytes c) ≡ 1 + 4 * field_count (call_number c)
unfolding call_bytes
length_call c = omega (arith, length_fields_bytes (call_fields c), (call_form c).1)

-- the three ways of reading bytes that there are
pub parse_unknown : (k : ℕ) (bs : List ℕ) → 6 < k → parse_call (k ∷ bs) ≡ Err 0
unfolding parse_call
parse_unknown k bs h = cond-true (ltb 6 k) _ _ (lt-ltb 6 k h)

pub parse_whole :
    (k : ℕ) (bs : List ℕ) → k ≤ 6 → suc (length bs) ≡ 1 + 4 * field_count k
    → parse_call (k ∷ bs) ≡ Ok (call_of k (fields_at (k ∷ bs) 1 (field_count k)))
unfolding parse_call
parse_whole k bs h e = cond-false (ltb 6 k) _ _ (le-ltb 6 k h) ∙ cond-true (eqb (suc (length bs)) (1 + 4 * field_count k)) _ _ (eq-eqb _ _ e)

pub parse_part :
    (k : ℕ) (bs : List ℕ) → k ≤ 6 → (suc (length bs) ≡ 1 + 4 * field_count k → ⊥)
    → parse_call (k ∷ bs) ≡ Err (min (suc (length bs)) (1 + 4 * field_count k))
unfolding parse_call
parse_part k bs h e = cond-false (ltb 6 k) _ _ (le-ltb 6 k h) ∙ cond-false (eqb (suc (length bs)) (1 + 4 * field_count k)) _ _ (ne_eqb _ _ e)

ways : (k n : ℕ) → (6 < k) ⊎ (((k ≤ 6) × (n ≡ 1 + 4 * field_count k)) ⊎ ((k ≤ 6) × (n ≡ 1 + 4 * field_count k → ⊥)))
ways k n =
    ⊎_elim (λ h. inl h) (λ h. inr (⊎_elim (λ e. inl (h, e)) (λ e. inr (h, e)) (cases_eq n (1 + 4 * field_count k)))) (cases_lt 6 k)

pub reads_back : CallReadsBack
unfolding call_bytes
reads_back c h =
    let f = call_form c in
    let k : ℕ = call_number c in
    let fit : all_below 4294967296 (call_fields c) ≡ true = sym (readable_is c) ∙ h in
    let back : fields_at (call_bytes c) 1 (field_count k) ≡ call_fields c =
    ap (fields_at (call_bytes c) 1) (sym f.1) ∙ fields_back (call_bytes c) [] 1 (call_fields c) fit (sym (append-nil (fields_bytes (call_fields c)))) in
    parse_whole k (fields_bytes (call_fields c)) f.0 (length_call c) ∙ ap (λ ns. Ok (call_of k ns)) back ∙ ap Ok f.2

-- bytes of a known kind and the length that it wants
whole_back :
    (k : ℕ) (bs : List ℕ) → all_below 256 (k ∷ bs) ≡ true → k ≤ 6 → suc (length bs) ≡ 1 + 4 * field_count k
    → (k ∷ bs ≡ call_bytes (call_of k (fields_at (k ∷ bs) 1 (field_count k)))) × (readable (call_of k (fields_at (k ∷ bs) 1 (field_count k))) ≡ true)
unfolding call_bytes
whole_back k bs small low long =
    let ns : List ℕ = fields_at (k ∷ bs) 1 (field_count k) in
    let f = made_form k (k ∷ bs) low in
    let rest : bs ≡ fields_bytes ns =
    fields_split (k ∷ bs) (field_count k) 1 small (omega arith)
    ∙ ap (λ l. fields_bytes ns ++ l) (drop_all (1 + 4 * field_count k) (k ∷ bs) (omega arith)) ∙ append-nil (fields_bytes ns) in (
      λ j. sym f.0 j ∷ (rest ∙ ap fields_bytes (sym f.1)) j,
      readable_is (call_of k ns) ∙ ap (all_below 4294967296) f.1 ∙ fields_fit (k ∷ bs) (field_count k) 1 small (omega arith),
    )

pub writes_back : CallWritesBack
unfolding parse_call
writes_back [] c small e = let z : ◌≡◌ {A = ℕ} 0 1 = cc in absurd (omega arith)
writes_back (k ∷ bs) c small e =
    ⊎_elim (λ h. let u = parse_unknown k bs h in let z : ◌≡◌ {A = ℕ} 0 1 = cc in absurd (omega arith))
    (⊎_elim
    (λ h.
    let u = parse_whole k bs h.0 h.1 in
    let same : call_of k (fields_at (k ∷ bs) 1 (field_count k)) ≡ c = cc in
    let w = whole_back k bs small h.0 h.1 in
    (w.0 ∙ ap call_bytes same, sym (ap readable same) ∙ w.1))
    (λ h. let u = parse_part k bs h.0 h.1 in let z : ◌≡◌ {A = ℕ} 0 1 = cc in absurd (omega arith))) (ways k (suc (length bs)))

-- what begins with a byte and is a call has that byte's length
begins : (c : Call) (k : ℕ) (bs : List ℕ) → call_bytes c ≡ k ∷ bs → (k ≤ 6) × (suc (length bs) ≡ 1 + 4 * field_count k)
unfolding call_bytes
begins c k bs e =
    let kind : call_number c ≡ k = cc in
    (subst (λ x. x ≤ 6) kind (call_form c).0, sym (ap length e) ∙ length_call c ∙ ap (λ x. 1 + 4 * field_count x) kind)

zeros_small : (n : ℕ) → all_below 256 (replicate n 0) ≡ true
unfolding all_below
zeros_small zero = refl
zeros_small (suc n) = zeros_small n

-- a front of a known kind that is not too long becomes a call by zeros after it
completed :
    (k : ℕ) (bs : List ℕ) → all_below 256 (k ∷ bs) ≡ true → k ≤ 6 → suc (length bs) ≤ 1 + 4 * field_count k
    → (c : Call) × (rest : List ℕ) × (readable c ≡ true) × (call_bytes c ≡ k ∷ bs ++ rest)
completed k bs small low short =
    let pad : List ℕ = replicate (4 * field_count k - length bs) 0 in
    let long : suc (length (bs ++ pad)) ≡ 1 + 4 * field_count k =
    omega (arith, length-append bs pad, length-replicate {A = ℕ} (4 * field_count k - length bs) 0) in
    let w = whole_back k (bs ++ pad) (below_append 256 (k ∷ bs) pad small (zeros_small (4 * field_count k - length bs))) low long in
    (call_of k (fields_at (k ∷ (bs ++ pad)) 1 (field_count k)), pad, w.1, sym w.0)

-- so does the front of such bytes
completed_front :
    (k : ℕ) (bs : List ℕ) (n : ℕ) → all_below 256 (k ∷ bs) ≡ true → k ≤ 6 → 0 < n → n ≤ 1 + 4 * field_count k
    → (c : Call) × (rest : List ℕ) × (readable c ≡ true) × (call_bytes c ≡ take n (k ∷ bs) ++ rest)
completed_front k bs zero small low some short = absurd (omega arith)
completed_front k bs (suc n) small low some short =
    completed k (take n bs) (below_take 256 (suc n) (k ∷ bs) small) low (omega (arith, length-take n bs))

-- no call has a longer front of bytes that ceased to be one
no_further :
    (k : ℕ) (bs : List ℕ) (m : ℕ) → 0 < m → m ≤ suc (length bs) → (k ≤ 6 → 1 + 4 * field_count k < m) → (c : Call) (rest : List ℕ)
    → call_bytes c ≡ take m (k ∷ bs) ++ rest → ⊥
no_further k bs zero h room far c rest e = absurd (omega arith)
no_further k bs (suc m) h room far c rest e =
    let b = begins c k (take m bs ++ rest) e in
    let l : length (take m bs) ≡ m = length-take-le m bs (omega arith) in
    omega (arith, far b.0, length-append (take m bs) rest)

pub longest_front : CallPlaceIsLongestFront
unfolding parse_call readable
longest_front [] n small e =
    let z : n ≡ 0 = cc in
    (omega arith, (Sit 0, call_bytes (Sit 0), refl, rw z), (λ m h k. absurd (omega arith)), λ c h. absurd (omega (arith, ap length h, length_call c)))
longest_front (k ∷ bs) n small e =
    ⊎_elim
    (λ h.
    let u = parse_unknown k bs h in
    let z : n ≡ 0 = cc in (
      omega arith,
      (Sit 0, call_bytes (Sit 0), refl, rw z),
      (λ m over room. no_further k bs m (omega arith) room (λ low. absurd (omega arith))),
      λ c same. omega (arith, (begins c k bs same).0),
    ))
    (⊎_elim (λ h. let u = parse_whole k bs h.0 h.1 in let z : ◌≡◌ {A = ℕ} 0 1 = cc in absurd (omega arith))
    (λ h.
    let u = parse_part k bs h.0 h.1 in
    let z : n ≡ min (suc (length bs)) (1 + 4 * field_count k) = cc in (
      omega arith,
      completed_front k bs n small h.0 (omega arith) (omega arith),
      (λ m over room. no_further k bs m (omega arith) room (λ low. omega arith)),
      λ c same. h.1 (begins c k bs same).1,
    ))) (ways k (suc (length bs)))

-- the call of a kind that is known by its number
pub at_kind : (bs : List ℕ) (j k : ℕ) → k ≡ j → call_of j (fields_at bs 1 (field_count j)) ≡ call_of k (fields_at bs 1 (field_count k))
at_kind bs j k e = ap (λ x. call_of x (fields_at bs 1 (field_count x))) (sym e)

-- the same ways of reading, for bytes with their first byte
pub read_none : (bs : List ℕ) → length bs ≡ 0 → parse_call bs ≡ Err 0
unfolding parse_call
read_none [] h = refl
read_none (x ∷ bs) h = absurd (omega arith)

pub read_unknown : (bs : List ℕ) → 6 < get_or bs 0 0 → parse_call bs ≡ Err 0
read_unknown [] low = absurd (omega arith)
read_unknown (x ∷ bs) low = parse_unknown x bs low

-- bytes begin with the kind k of a call
abbrev Known : List ℕ → ℕ → Type 0
Known bs k = (0 < length bs) × (k ≡ get_or bs 0 0) × (k ≤ 6)

pub kind_known : (bs : List ℕ) (k : CallKind) → 0 < length bs → byte_of k ≡ get_or bs 0 0 → Known bs (byte_of k)
kind_known bs k some is = (some, is, go k)
  where
    go : (k : CallKind) → byte_of k ≤ 6
    go kind.Sit = omega arith
    go kind.Play = omega arith
    go kind.Ticks = omega arith
    go kind.See = omega arith
    go kind.May = omega arith
    go kind.Back = omega arith
    go kind.CanForce = omega arith

pub read_part :
    (bs : List ℕ) (k n r : ℕ) → Known bs k → n ≡ field_count k → (length bs ≡ 1 + 4 * n → ⊥) → r ≡ min (length bs) (1 + 4 * n) → Err r ≡ parse_call bs
read_part [] k n r known count long is = absurd (omega arith)
read_part (x ∷ bs) k n r known count long is =
    let want : 1 + 4 * n ≡ 1 + 4 * field_count x = ap (λ m. 1 + 4 * m) (count ∙ ap field_count known.1) in
    ap Err (is ∙ ap (min (suc (length bs))) want) ∙ sym (parse_part x bs (omega arith) (λ l. long (l ∙ sym want)))

pub read_whole :
    (bs : List ℕ) (k n : ℕ) (r : Call) → Known bs k → n ≡ field_count k → length bs ≡ 1 + 4 * n → r ≡ call_of k (fields_at bs 1 (field_count k))
    → Ok r ≡ parse_call bs
read_whole [] k n r known count long is = absurd (omega arith)
read_whole (x ∷ bs) k n r known count long is =
    let want : 1 + 4 * n ≡ 1 + 4 * field_count x = ap (λ m. 1 + 4 * m) (count ∙ ap field_count known.1) in
    ap Ok (is ∙ at_kind (x ∷ bs) k x (sym known.1)) ∙ sym (parse_whole x bs (omega arith) (long ∙ want))
