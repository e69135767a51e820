-- Fields come back from their bytes, and bytes from the fields that are read from them.
use Rattle.std.proofs.Common.{◌≡◌, ℕ, zero, suc, ◌+◌, ◌-◌, ◌*◌, ◌%◌, ◌^◌, ◌<◌, ◌≤◌, min, true, ltb, List, [], ◌∷◌, ◌++◌, length, get_or, take, drop, replicate, sym, refl, ap, ◌∙◌, ⊎_elim, add_assoc, suc-add, zero-add, arith, length-append, length-drop}
use native.Mathlib.Nat.{pow-succ', pow-zero}
use Rattle.std.proofs.lemmas.Bool.{and_parts, and_from, ltb-true, lt-ltb, cases_lt}
use Rattle.std.proofs.lemmas.List.{append_assoc, append-nil, take-append-drop, length-take-le, take_all, take_at, drop_at, drop_all, drop_more, drop-drop, get_or_past, get_or_append_left, get_or-append_right, get_or-take, get_or-drop, get_or-replicate}
use Rattle.rules.specs.Bounds.{all_below}
use Rattle.wire.specs.Numbers.{number_bytes, bytes_value}
use Rattle.wire.specs.Fields.{fields_bytes, field_at, fields_at}
use Rattle.wire.proofs.Numbers.{length_bytes, value_of_bytes, bytes_of_value}

-- bytes from a place on are the byte there and those after it, also past the end
value_more : (bs : List ℕ) (w i : ℕ) → bytes_value (take (suc w) (drop i bs)) ≡ get_or bs i 0 + 256 * bytes_value (take w (drop (i + 1) bs))
unfolding bytes_value
value_more bs w i =
    ⊎_elim (λ h. rw (drop_more bs i 0 h))
    (λ h. rw (drop_all i bs h, drop_all (i + 1) bs (omega arith), get_or_past bs i 0 h, take_all {A = ℕ} w [] (omega arith))) (cases_lt i (length bs))

pub field_is :
    (bs : List ℕ) (i : ℕ)
    → field_at bs i ≡ get_or bs i 0 + 256 * (get_or bs (i + 1) 0 + 256 * (get_or bs (i + 2) 0 + 256 * get_or bs (i + 3) 0))
unfolding field_at bytes_value
field_is bs i =
    let a : bytes_value (take 4 (drop i bs)) ≡ get_or bs i 0 + 256 * bytes_value (take 3 (drop (i + 1) bs)) = value_more bs 3 i in
    let b : bytes_value (take 3 (drop (i + 1) bs)) ≡ get_or bs (i + 1) 0 + 256 * bytes_value (take 2 (drop (i + 2) bs)) =
    value_more bs 2 (i + 1) ∙ ap (λ j. get_or bs (i + 1) 0 + 256 * bytes_value (take 2 (drop j bs))) (add_assoc i 1 1) in
    let c : bytes_value (take 2 (drop (i + 2) bs)) ≡ get_or bs (i + 2) 0 + 256 * bytes_value (take 1 (drop (i + 3) bs)) =
    value_more bs 1 (i + 2) ∙ ap (λ j. get_or bs (i + 2) 0 + 256 * bytes_value (take 1 (drop j bs))) (add_assoc i 2 1) in
    let d : bytes_value (take 1 (drop (i + 3) bs)) ≡ get_or bs (i + 3) 0 = value_more bs 0 (i + 3) ∙ omega arith in
    omega arith

pub below_take : (b n : ℕ) (bs : List ℕ) → all_below b bs ≡ true → all_below b (take n bs) ≡ true
unfolding all_below
below_take b zero bs h = refl
below_take b (suc n) [] h = refl
below_take b (suc n) (x ∷ bs) h =
    let p = and_parts (ltb x b) (all_below b bs) h in
    and_from (ltb x b) (all_below b (take n bs)) p.0 (below_take b n bs p.1)

pub below_drop : (b n : ℕ) (bs : List ℕ) → all_below b bs ≡ true → all_below b (drop n bs) ≡ true
unfolding all_below
below_drop b zero bs h = h
below_drop b (suc n) [] h = h
below_drop b (suc n) (x ∷ bs) h = below_drop b n bs (and_parts (ltb x b) (all_below b bs) h).1

pub below_append : (b : ℕ) (xs ys : List ℕ) → all_below b xs ≡ true → all_below b ys ≡ true → all_below b (xs ++ ys) ≡ true
unfolding all_below
below_append b [] ys h k = k
below_append b (x ∷ xs) ys h k =
    let p = and_parts (ltb x b) (all_below b xs) h in
    and_from (ltb x b) (all_below b (xs ++ ys)) p.0 (below_append b xs ys p.1 k)

-- bytes are a number that fits their width
value_fits : (bs : List ℕ) → all_below 256 bs ≡ true → bytes_value bs < 256 ^ length bs
unfolding bytes_value all_below
value_fits [] h = omega (arith, pow-zero 256)
value_fits (b ∷ bs) h =
    let p = and_parts (ltb b 256) (all_below 256 bs) h in
    let l : b < 256 = ltb-true b 256 p.0 in
    let rest : bytes_value bs < 256 ^ length bs = value_fits bs p.1 in
    omega (arith, pow-succ' 256 (length bs))

-- four bytes and the bytes after them
module _ (bs : List ℕ) (i : ℕ) (small : all_below 256 bs ≡ true) (room : i + 4 ≤ length bs) where
  four_there : length (take 4 (drop i bs)) ≡ 4
  four_there = length-take-le 4 (drop i bs) (rw length-drop (omega arith))

  pub field_split : drop i bs ≡ number_bytes 4 (field_at bs i) ++ drop (i + 4) bs
  unfolding field_at
  field_split =
      let part : all_below 256 (take 4 (drop i bs)) ≡ true = below_take 256 4 (drop i bs) (below_drop 256 i bs small) in
      let back : number_bytes 4 (bytes_value (take 4 (drop i bs))) ≡ take 4 (drop i bs) =
      ap (λ w. number_bytes w (bytes_value (take 4 (drop i bs)))) (sym four_there) ∙ bytes_of_value (take 4 (drop i bs)) part in
      sym (take-append-drop 4 (drop i bs)) ∙ (λ j. sym back j ++ drop-drop 4 i bs j)

  pub field_fits : field_at bs i < 4294967296
  unfolding field_at
  field_fits =
      let fits = value_fits (take 4 (drop i bs)) (below_take 256 4 (drop i bs) (below_drop 256 i bs small)) in
      rw four_there at fits

-- what the fields of bytes are written back to
pub fields_split :
    (bs : List ℕ) (n i : ℕ) → all_below 256 bs ≡ true → i + 4 * n ≤ length bs → drop i bs ≡ fields_bytes (fields_at bs i n) ++ drop (i + 4 * n) bs
unfolding fields_bytes fields_at
fields_split bs zero i small room = ap (λ j. drop j bs) (omega arith)
fields_split bs (suc n) i small room =
    field_split bs i small (omega arith)
    ∙ ap (λ l. number_bytes 4 (field_at bs i) ++ l) (fields_split bs n (i + 4) small (omega arith))
    ∙ ap (λ j. number_bytes 4 (field_at bs i) ++ (fields_bytes (fields_at bs (i + 4) n) ++ drop j bs)) (omega arith)
    ∙ sym (append_assoc (number_bytes 4 (field_at bs i)) (fields_bytes (fields_at bs (i + 4) n)) (drop (i + 4 * suc n) bs))

pub fields_fit : (bs : List ℕ) (n i : ℕ) → all_below 256 bs ≡ true → i + 4 * n ≤ length bs → all_below 4294967296 (fields_at bs i n) ≡ true
unfolding fields_at all_below
fields_fit bs zero i small room = refl
fields_fit bs (suc n) i small room =
    and_from (ltb (field_at bs i) 4294967296) (all_below 4294967296 (fields_at bs (i + 4) n))
    (lt-ltb (field_at bs i) 4294967296 (field_fits bs i small (omega arith))) (fields_fit bs n (i + 4) small (omega arith))

pub length_fields_at : (bs : List ℕ) (n i : ℕ) → length (fields_at bs i n) ≡ n
unfolding fields_at
length_fields_at bs zero i = refl
length_fields_at bs (suc n) i = ap suc (length_fields_at bs n (i + 4))

pub length_fields_bytes : (ns : List ℕ) → length (fields_bytes ns) ≡ 4 * length ns
unfolding fields_bytes
length_fields_bytes [] = refl
length_fields_bytes (n ∷ ns) = length-append (number_bytes 4 n) (fields_bytes ns) ∙ omega (arith, length_bytes 4 n, length_fields_bytes ns)

pub one_field : (n : ℕ) → fields_bytes (n ∷ []) ≡ number_bytes 4 n
unfolding fields_bytes
one_field n = append-nil (number_bytes 4 n)

pub fields_append : (ms ns : List ℕ) → fields_bytes (ms ++ ns) ≡ fields_bytes ms ++ fields_bytes ns
unfolding fields_bytes
fields_append [] ns = refl
fields_append (m ∷ ms) ns =
    ap (λ l. number_bytes 4 m ++ l) (fields_append ms ns) ∙ sym (append_assoc (number_bytes 4 m) (fields_bytes ms) (fields_bytes ns))

-- a field, and several, where their bytes stand
pub field_back : (bs rest : List ℕ) (i n : ℕ) → n < 4294967296 → drop i bs ≡ number_bytes 4 n ++ rest → field_at bs i ≡ n
unfolding field_at
field_back bs rest i n fits e = ap bytes_value (ap (take 4) e ∙ take_at (number_bytes 4 n) rest 4 (length_bytes 4 n)) ∙ value_of_bytes 4 n fits

pub field_after : (bs rest : List ℕ) (i n : ℕ) → drop i bs ≡ number_bytes 4 n ++ rest → drop (i + 4) bs ≡ rest
field_after bs rest i n e = sym (drop-drop 4 i bs) ∙ ap (drop 4) e ∙ drop_at (number_bytes 4 n) rest 4 (length_bytes 4 n)

pub fields_back :
    (bs rest : List ℕ) (i : ℕ) (ns : List ℕ) → all_below 4294967296 ns ≡ true → drop i bs ≡ fields_bytes ns ++ rest → fields_at bs i (length ns) ≡ ns
unfolding fields_bytes fields_at all_below
fields_back bs rest i [] fit e = refl
fields_back bs rest i (n ∷ ns) fit e =
    let p = and_parts (ltb n 4294967296) (all_below 4294967296 ns) fit in
    let e2 : drop i bs ≡ number_bytes 4 n ++ (fields_bytes ns ++ rest) = e ∙ append_assoc (number_bytes 4 n) (fields_bytes ns) rest in
    let one : field_at bs i ≡ n = field_back bs (fields_bytes ns ++ rest) i n (ltb-true n 4294967296 p.0) e2 in
    let more : fields_at bs (i + 4) (length ns) ≡ ns = fields_back bs rest (i + 4) ns p.1 (field_after bs (fields_bytes ns ++ rest) i n e2) in
    λ j. one j ∷ more j

-- fields that follow one another
pub fields_at_append : (bs : List ℕ) (n i m : ℕ) → fields_at bs i (n + m) ≡ fields_at bs i n ++ fields_at bs (i + 4 * n) m
unfolding fields_at
fields_at_append bs zero i m =
    let place : i ≡ i + 4 * zero = omega arith in
    λ j. fields_at bs (place j) (zero-add m j)
fields_at_append bs (suc n) i m =
    let place : i + 4 + 4 * n ≡ i + 4 * suc n = omega arith in
    ap (fields_at bs i) (suc-add n m)
    ∙ ap (λ l. field_at bs i ∷ l) (fields_at_append bs n (i + 4) m ∙ ap (λ k. fields_at bs (i + 4) n ++ fields_at bs k m) place)

pub three_fields :
    (bs : List ℕ) (i n : ℕ) → fields_at bs i (suc (suc (suc n))) ≡ field_at bs i ∷ field_at bs (i + 4) ∷ field_at bs (i + 8) ∷ fields_at bs (i + 12) n
unfolding fields_at
three_fields bs i n =
    let eight : i + 4 + 4 ≡ i + 8 = add_assoc i 4 4 in
    let twelve : i + 4 + 4 + 4 ≡ i + 12 = omega arith in
    λ j. field_at bs i ∷ field_at bs (i + 4) ∷ field_at bs (eight j) ∷ fields_at bs (twelve j) n

-- the number in two bytes, and it is the lower half of a field
pub word_is : (bs : List ℕ) (i : ℕ) → bytes_value (take 2 (drop i bs)) ≡ get_or bs i 0 + 256 * get_or bs (i + 1) 0
unfolding bytes_value
word_is bs i =
    let none : bytes_value (take 0 (drop (i + 1 + 1) bs)) ≡ 0 = refl in
    omega (arith, value_more bs 1 i, value_more bs 0 (i + 1), none)

pub lower_half :
    (bs : List ℕ) (i : ℕ) → get_or bs i 0 < 256 → get_or bs (i + 1) 0 < 256 → field_at bs i % 65536 ≡ bytes_value (take 2 (drop i bs))
lower_half bs i a b = omega (arith, field_is bs i, word_is bs i)

-- bytes from a place on, copied over zeros
pub padded :
    (bs : List ℕ) (at w i m n : ℕ) → m ≡ min at (length bs) → n ≡ min (length bs - m) w → i < w
    → get_or (take n (drop m bs) ++ drop n (replicate w 0)) i 0 ≡ get_or bs (at + i) 0
padded bs at w i m n start count low =
    let front : length (take n (drop m bs)) ≡ n = length-take-le n (drop m bs) (omega (arith, length-drop m bs)) in
    ⊎_elim
    (λ h.
    let place : m + i ≡ at + i = omega arith in
    get_or_append_left (take n (drop m bs)) (drop n (replicate w 0)) 0 i (omega arith) ∙ get_or-take n (drop m bs) i 0 h ∙ get_or-drop m bs i 0
    ∙ ap (λ j. get_or bs j 0) place)
    (λ h.
    get_or-append_right (take n (drop m bs)) (drop n (replicate w 0)) n i 0 front h ∙ get_or-drop n (replicate w 0) (i - n) 0
    ∙ get_or-replicate w (n + (i - n)) 0 0 (omega arith) ∙ sym (get_or_past bs (at + i) 0 (omega arith))) (cases_lt i n)
