-- Where a list of bytes is cut in two.
use Rattle.std.proofs.Common.{◌≡◌, ℕ, ◌+◌, ◌-◌, ◌*◌, ◌≤◌, Bool, true, false, List, [], ◌∷◌, ◌++◌, length, take, drop, sym, refl, ap, ◌∙◌, arith}
use Rattle.std.proofs.lemmas.List.{length-drop, length-append, drop-drop, drop_at}
use Rattle.std.proofs.lemmas.Bool.{and_parts, and_from, both_ways}
use Rattle.text.specs.Grammar.{digit, all, value_from}

-- the first byte, if there is one, passes a test
abbrev pub starts : (ℕ → Bool) → List ℕ → Bool
starts p [] = false
starts p (b ∷ bs) = p b

starts_take : (p : ℕ → Bool) (xs : List ℕ) → starts p xs ≡ starts p (take 1 xs)
starts_take p [] = refl
starts_take p (b ∷ bs) = refl

-- two lists that begin alike, both with the same byte or both with none
pub starts_alike : (p : ℕ → Bool) (xs ys : List ℕ) → take 1 xs ≡ take 1 ys → starts p xs ≡ starts p ys
starts_alike p xs ys e = starts_take p xs ∙ ap (starts p) e ∙ sym (starts_take p ys)

pub take_alike : (front xs ys : List ℕ) → take 1 xs ≡ take 1 ys → take 1 (front ++ xs) ≡ take 1 (front ++ ys)
take_alike [] xs ys e = e
take_alike (b ∷ front) xs ys e = refl

-- a test of every byte, of a list in two parts
pub all_append : (p : ℕ → Bool) (xs ys : List ℕ) → all p xs ≡ true → all p ys ≡ true → all p (xs ++ ys) ≡ true
unfolding all
all_append p [] ys h k = k
all_append p (x ∷ xs) ys h k = and_from (p x) (all p (xs ++ ys)) (and_parts (p x) (all p xs) h).0 (all_append p xs ys (and_parts (p x) (all p xs) h).1 k)

-- the bytes that pass a test, up to the first that doesn't, are cut off in one way
pub split_unique :
    (p : ℕ → Bool) (xs ys us vs : List ℕ) → all p xs ≡ true → all p ys ≡ true → starts p us ≡ false → starts p vs ≡ false → xs ++ us ≡ ys ++ vs →
    (xs ≡ ys) × (us ≡ vs)
unfolding all
split_unique p [] [] us vs hx hy ha hb e = (refl, e)
split_unique p [] (y ∷ ys) us vs hx hy ha hb e = absurd (both_ways (p y) (sym (ap (starts p) e) ∙ ha) (and_parts (p y) (all p ys) hy).0)
split_unique p (x ∷ xs) [] us vs hx hy ha hb e = absurd (both_ways (p x) (ap (starts p) e ∙ hb) (and_parts (p x) (all p xs) hx).0)
split_unique p (x ∷ xs) (y ∷ ys) us vs hx hy ha hb e =
    let same : x ≡ y = cc in
    let rest : xs ++ us ≡ ys ++ vs = cc in
    let r = split_unique p xs ys us vs (and_parts (p x) (all p xs) hx).1 (and_parts (p y) (all p ys) hy).1 ha hb rest in
    let q : xs ≡ ys = r.0 in
    (cc, r.1)

-- of two cuts, the later front goes on from the earlier one
pub front_within :
    (front left front' left' : List ℕ) → front ++ left ≡ front' ++ left' → length front ≤ length front' →
    (more : List ℕ) × (front' ≡ front ++ more) × (left ≡ more ++ left')
front_within [] left front' left' e h = (front', refl, e)
front_within (b ∷ front) left [] left' e h = absurd (omega arith)
front_within (b ∷ front) left (b' ∷ front') left' e h =
    let same : b ≡ b' = cc in
    let rest : front ++ left ≡ front' ++ left' = cc in
    let r = front_within front left front' left' rest (omega arith) in
    let q : front' ≡ front ++ r.0 = r.1 in
    (r.0, (cc), r.2)

-- digits that are followed by none begin with all digits that the list begins with
pub digits_within :
    (front : List ℕ) (b : ℕ) (xs ds rest : List ℕ) → all digit front ≡ true → digit b ≡ true → starts digit rest ≡ false → front ++ (b ∷ xs) ≡ ds ++ rest →
    (more : List ℕ) × (ds ≡ front ++ (b ∷ more))
unfolding all
digits_within [] b xs [] rest hf hb hr e = absurd (both_ways (digit b) (ap (starts digit) e ∙ hr) hb)
digits_within [] b xs (d ∷ ds) rest hf hb hr e = (ds, (cc))
digits_within (x ∷ front) b xs [] rest hf hb hr e = absurd (both_ways (digit x) (ap (starts digit) e ∙ hr) (and_parts (digit x) (all digit front) hf).0)
digits_within (x ∷ front) b xs (d ∷ ds) rest hf hb hr e =
    let same : x ≡ d = cc in
    let left : front ++ (b ∷ xs) ≡ ds ++ rest = cc in
    let r = digits_within front b xs ds rest (and_parts (digit x) (all digit front) hf).1 hb hr left in
    let q : ds ≡ front ++ (b ∷ r.0) = r.1 in
    (r.0, (cc))

-- the value of digits in two parts
pub value_append : (n : ℕ) (xs ys : List ℕ) → value_from n (xs ++ ys) ≡ value_from (value_from n xs) ys
unfolding value_from
value_append n [] ys = refl
value_append n (b ∷ xs) ys = value_append (n * 10 + (b - 48)) xs ys

-- more digits make no number smaller
pub value_grows : (n : ℕ) (xs : List ℕ) → n ≤ value_from n xs
unfolding value_from
value_grows n [] = omega arith
value_grows n (b ∷ xs) = let h : n * 10 + (b - 48) ≤ value_from (n * 10 + (b - 48)) xs = value_grows (n * 10 + (b - 48)) xs in omega arith

-- what a line has from a place on, after a part of it was read
pub go_on :
    (line : List ℕ) (i : ℕ) (part left : List ℕ) → i ≤ length line → drop i line ≡ part ++ left →
    (i + length part ≤ length line) × (drop (i + length part) line ≡ left)
go_on line i part left h e =
    let n : length line - i ≡ length part + length left = sym (length-drop i line) ∙ ap length e ∙ length-append part left in
    (omega arith, sym (drop-drop (length part) i line) ∙ ap (drop (length part)) e ∙ drop_at part left (length part) refl)

pub all_right : (p : ℕ → Bool) (xs ys : List ℕ) → all p (xs ++ ys) ≡ true → all p ys ≡ true
unfolding all
all_right p [] ys h = h
all_right p (x ∷ xs) ys h = all_right p xs ys (and_parts (p x) (all p (xs ++ ys)) h).1

pub all_none : (p : ℕ → Bool) (xs : List ℕ) → all p xs ≡ true → starts p xs ≡ false → xs ≡ []
unfolding all
all_none p [] h e = refl
all_none p (x ∷ xs) h e = absurd (both_ways (p x) e (and_parts (p x) (all p xs) h).0)

pub none_alike : (xs : List ℕ) → take 1 xs ≡ [] → xs ≡ []
none_alike [] e = refl
none_alike (x ∷ xs) e = absurd (let z : ◌≡◌ {A = ℕ} 0 1 = cc in omega arith)
