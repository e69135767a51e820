-- A word or a number: how it is read, and where reading stops.
use Rattle.std.proofs.Common.{◌≡◌, ℕ, ◌+◌, ◌<◌, ◌≤◌, true, false, cond, eqb, leb, List, [], ◌∷◌, ◌++◌, length, take, Ok, Err, Result, sym, refl, ap, ◌∙◌, subst, arith}
use Rattle.std.proofs.lemmas.List.{append_assoc, append_cancel_left, append-nil, nil_from_length}
use Rattle.std.proofs.lemmas.Bool.{and_parts, both_ways, cond_both, eqb-true, eqb-false, leb-true}
use Rattle.std.proofs.lemmas.Bool.Decides.{nat_tests}
use Rattle.text.specs.Grammar.{word, number, blank, digit, all, value_from, Spells}
use Rattle.text.specs.Reader.{and_then, letters_at, digits_at, some_digits}
use Rattle.text.proofs.Splits.{starts, starts_alike, split_unique, digits_within, value_append, value_grows}
use Rattle.text.proofs.Scans.{Letters, letters_splits, SomeDigits, TooLarge, Digits, digits_splits}

-- a word or a number, whichever is to come. A word has no number: 0 stands for it
pub data Want : Type 0 where
  the_word : List ℕ → Want
  any_number : Want

-- how it may be written
abbrev pub Spelled : Want → ℕ → List ℕ → Type 0
Spelled (the_word w) v bs = (v ≡ 0) × Spells (word w) bs
Spelled any_number v bs = Spells (number v) bs

-- how it is read, after the white space
abbrev pub read_want : Want → List ℕ → ℕ → Result (ℕ × ℕ) ℕ
read_want (the_word w) bs i = and_then (letters_at w bs i) (λ j. Ok (0, j))
read_want any_number bs i = some_digits bs i

-- a number ends where no digit follows, and a word anywhere
abbrev pub Ends : Want → List ℕ → Type 0
Ends (the_word w) rest = Unit {0}
Ends any_number rest = starts digit rest ≡ false

pub ends_before : (w : Want) (rest : List ℕ) → starts digit rest ≡ false → Ends w rest
ends_before (the_word w) rest e = tt
ends_before any_number rest e = e

pub ends_alike : (w : Want) (xs rest : List ℕ) → take 1 xs ≡ take 1 rest → Ends w rest → Ends w xs
ends_alike (the_word w) xs rest a e = tt
ends_alike any_number xs rest a e = starts_alike digit xs rest a ∙ e

-- it is written in a list in one way
pub spelled_same :
    (w : Want) (v v' : ℕ) (ds ds' rest rest' : List ℕ) → Spelled w v ds → Spelled w v' ds' → Ends w rest → Ends w rest' → ds ++ rest ≡ ds' ++ rest' →
    (v ≡ v') × (rest ≡ rest')
spelled_same (the_word w) v v' ds ds' rest rest' s s' d d' e =
    (s.0 ∙ sym s'.0, append_cancel_left w rest rest' (ap (λ xs. xs ++ rest) (sym s.1) ∙ e ∙ ap (λ xs. xs ++ rest') s'.1))
spelled_same any_number v v' ds ds' rest rest' s s' d d' e =
    let same = split_unique digit ds ds' rest rest' s.1 s'.1 d d' e in
    (sym s.2 ∙ ap (value_from 0) same.0 ∙ s'.2, same.1)

-- it was read
pub record Got (w : Want) (bs : List ℕ) (i v j : ℕ) : Type 0 where
  pub ds : List ℕ
  pub left : List ℕ
  pub cut : bs ≡ ds ++ left
  pub spelled : Spelled w v ds
  pub place : j ≡ i + length ds
  pub ends : Ends w left

-- it was read up to a byte: it can go on before that byte, and not with it
pub record Stopped (w : Want) (bs : List ℕ) (i j : ℕ) : Type 0 where
  pub front : List ℕ
  pub left : List ℕ
  pub cut : bs ≡ front ++ left
  pub place : j ≡ i + length front
  pub live : (v : ℕ) × (more : List ℕ) × Spelled w v (front ++ more)
  pub dead :
      (xs : List ℕ) → take 1 xs ≡ take 1 left → (v : ℕ) (ds rest : List ℕ) → front ++ xs ≡ ds ++ rest → Spelled w v ds → Ends w rest → ⊥

-- what reading it answers
abbrev pub WantRead : Want → List ℕ → ℕ → Result (ℕ × ℕ) ℕ → Type 0
WantRead w bs i (Ok n) = Got w bs i n.0 n.1
WantRead w bs i (Err j) = Stopped w bs i j

-- a word, by its letters
word_read : (w bs : List ℕ) (i : ℕ) (r : Result ℕ ℕ) → Letters w bs i r → WantRead (the_word w) bs i (and_then r (λ j. Ok (0, j)))
word_read w bs i (Ok j) h = record {
  ds = w;
  left = h.left;
  cut = h.cut;
  spelled = (refl, refl);
  place = h.place;
  ends = tt;
}
word_read w bs i (Err j) h = record {
  front = h.front;
  left = h.left;
  cut = h.cut;
  place = h.place;
  live = (0, h.letter ∷ h.more, (refl, sym h.spelled));
  dead = λ xs a v ds rest e s d.
      let whole : h.front ++ xs ≡ (h.front ++ (h.letter ∷ h.more)) ++ rest = e ∙ ap (λ ys. ys ++ rest) (s.1 ∙ h.spelled) in
      let after : xs ≡ h.letter ∷ (h.more ++ rest) = append_cancel_left h.front xs (h.letter ∷ (h.more ++ rest)) (whole ∙ append_assoc h.front (h.letter ∷ h.more) rest) in
      h.differs (sym a ∙ ap (take 1) after);
}

-- a number begins with a digit
digit_first : (v : ℕ) (ds rest : List ℕ) → Spells (number v) ds → starts digit (ds ++ rest) ≡ true
unfolding all
digit_first v [] rest s = absurd (omega (arith, s.0))
digit_first v (d ∷ ds) rest s = (and_parts (digit d) (all digit ds) s.1).0

-- white space is no digit
pub blank_not_digit : (b : ℕ) → blank b ≡ true → digit b ≡ false
blank_not_digit b e = grind (arith, nat_tests)

-- no digit is white space
digit_not_blank : (xs : List ℕ) → starts digit xs ≡ true → starts blank xs ≡ false
digit_not_blank [] e = refl
digit_not_blank (b ∷ bs) e = grind (arith, nat_tests)

-- there is always some way to write one
pub some_spelling : (w : Want) → (v : ℕ) × (ds : List ℕ) × Spelled w v ds
unfolding all value_from
some_spelling (the_word w) = (0, w, (refl, refl))
some_spelling any_number = (0, 48 ∷ [], (omega arith, refl, refl, omega arith))

-- no digits at all
none_read : (bs : List ℕ) (i : ℕ) → starts digit bs ≡ false → Stopped any_number bs i i
none_read bs i e = record {
  front = [];
  left = bs;
  cut = refl;
  place = omega arith;
  live = some_spelling any_number;
  dead = λ xs a v ds rest q s d.
      both_ways (starts digit xs) (starts_alike digit xs bs a ∙ e) (ap (starts digit) q ∙ digit_first v ds rest s);
}

-- digits that come to a number that fits, or none
some_read : (bs : List ℕ) (i : ℕ) (n : ℕ × ℕ) → SomeDigits bs 0 i n.0 n.1 → WantRead any_number bs i (cond (eqb n.1 i) (Err i) (Ok n))
some_read bs i n h =
    cond_both (eqb n.1 i) (Err i) (Ok n) (λ r. WantRead any_number bs i r)
    (λ e.
    let same : n.1 ≡ i = eqb-true n.1 i e in
    let none : h.ds ≡ [] = nil_from_length h.ds (omega (arith, h.place)) in
    none_read bs i (ap (starts digit) (h.cut ∙ ap (λ xs. xs ++ h.left) none) ∙ h.ends))
    (λ e. record {
      ds = h.ds;
      left = h.left;
      cut = h.cut;
      spelled = (omega (arith, eqb-false n.1 i e, h.place), h.digits, h.value, h.fits);
      place = h.place;
      ends = h.ends;
    })

-- one digit alone is never too large
front_some : (front : List ℕ) (one : ℕ) → digit one ≡ true → 4294967296 ≤ value_from 0 (front ++ (one ∷ [])) → 0 < length front
unfolding value_from
front_some [] one e h = absurd (omega (arith, leb-true one 57 (and_parts (leb 48 one) (leb one 57) e).1))
front_some (x ∷ front) one e h = omega arith

-- no number that fits has digits that are too many already
no_number :
    (front : List ℕ) (one : ℕ) (xs : List ℕ) (v : ℕ) (ds rest : List ℕ) → all digit front ≡ true → digit one ≡ true →
    4294967296 ≤ value_from 0 (front ++ (one ∷ [])) → take 1 xs ≡ one ∷ [] → front ++ xs ≡ ds ++ rest → Spells (number v) ds → starts digit rest ≡ false → ⊥
no_number front one [] v ds rest hf ho l a q s d = let z : ◌≡◌ {A = ℕ} 0 1 = cc in omega arith
no_number front one (x ∷ xs) v ds rest hf ho l a q s d =
    let same : x ≡ one = cc in
    let r = digits_within front one xs ds rest hf ho d (subst (λ y. front ++ (y ∷ xs) ≡ ds ++ rest) same q) in
    let begun : ds ≡ (front ++ (one ∷ [])) ++ r.0 = r.1 ∙ sym (append_assoc front (one ∷ []) r.0) in
    let value : value_from 0 ds ≡ value_from (value_from 0 (front ++ (one ∷ []))) r.0 = ap (value_from 0) begun ∙ value_append 0 (front ++ (one ∷ [])) r.0 in
    omega (arith, s.2, s.3, value_grows (value_from 0 (front ++ (one ∷ []))) r.0)

-- digits up to the one that is too many
large_read : (bs : List ℕ) (i j : ℕ) → TooLarge bs 0 i j → Stopped any_number bs i j
large_read bs i j h = record {
  front = h.front;
  left = h.one ∷ h.left;
  cut = h.cut;
  place = h.place;
  live = (
    value_from 0 h.front,
    [],
    subst (λ ds. Spells (number (value_from 0 h.front)) ds) (sym (append-nil h.front))
        (front_some h.front h.one h.also h.large, h.digits, refl, h.fits),
  );
  dead = λ xs a v ds rest q s d. no_number h.front h.one xs v ds rest h.digits h.also h.large a q s d;
}

-- a number, by its digits
number_read : (bs : List ℕ) (i : ℕ) (r : Result (ℕ × ℕ) ℕ) → Digits bs 0 i r → WantRead any_number bs i (and_then r (λ n. cond (eqb n.1 i) (Err i) (Ok n)))
number_read bs i (Ok n) h = some_read bs i n h
number_read bs i (Err j) h = large_read bs i j h

-- reading a word or a number is right in either case
pub want_read : (w : Want) (bs : List ℕ) (i : ℕ) → WantRead w bs i (read_want w bs i)
want_read (the_word w) bs i = word_read w bs i (letters_at w bs i) (letters_splits w bs i)
want_read any_number bs i = number_read bs i (digits_at bs 0 i) (digits_splits bs 0 i (omega arith))

-- no word or number begins with white space
abbrev pub Solid : Want → Type 0
Solid (the_word w) = (xs : List ℕ) → starts blank (w ++ xs) ≡ false
Solid any_number = Unit {0}

pub spelled_solid : (w : Want) → Solid w → (v : ℕ) (ds xs : List ℕ) → Spelled w v ds → starts blank (ds ++ xs) ≡ false
spelled_solid (the_word w) h v ds xs s = ap (λ ys. starts blank (ys ++ xs)) s.1 ∙ h xs
spelled_solid any_number h v ds xs s = digit_not_blank (ds ++ xs) (digit_first v ds xs s)
