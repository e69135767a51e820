-- White space, letters and digits: how far each goes.
use Rattle.std.proofs.Common.{◌≡◌, ℕ, ◌+◌, ◌-◌, ◌*◌, ◌<◌, ◌≤◌, true, false, cond, eqb, ltb, List, [], ◌∷◌, ◌++◌, length, take, Ok, Err, Result, refl, ap, ◌∙◌, subst, arith}
use Rattle.std.proofs.lemmas.Bool.{and_from, cond_both, eqb-true, eqb-false, ltb-true, ltb-false}
use Rattle.text.specs.Grammar.{blank, digit, all, value_from}
use Rattle.text.specs.Reader.{past, letters_at, digits_at}
use Rattle.text.proofs.Splits.{starts}

-- white space, all that there is
pub record Gap (bs : List ℕ) (i j : ℕ) : Type 0 where
  pub gap : List ℕ
  pub left : List ℕ
  pub cut : bs ≡ gap ++ left
  pub white : all blank gap ≡ true
  pub ends : starts blank left ≡ false
  pub place : j ≡ i + length gap

-- white space is cut off where the first other byte is
pub past_splits : (bs : List ℕ) (i : ℕ) → Gap bs i (past bs i)
unfolding past all
past_splits [] i = record { gap = []; left = []; cut = refl; white = refl; ends = refl; place = omega arith }
past_splits (b ∷ bs) i =
    cond_both (blank b) (past bs (i + 1)) i (λ j. Gap (b ∷ bs) i j)
    (λ e.
    let g = past_splits bs (i + 1) in
    record {
      gap = b ∷ g.gap;
      left = g.left;
      cut = ap (λ xs. b ∷ xs) g.cut;
      white = and_from (blank b) (all blank g.gap) e g.white;
      ends = g.ends;
      place = g.place ∙ omega arith;
    })
    (λ e. record { gap = []; left = b ∷ bs; cut = refl; white = refl; ends = e; place = omega arith })

-- a word that stands here whole, or up to a letter
pub record Whole (w bs : List ℕ) (i j : ℕ) : Type 0 where
  pub left : List ℕ
  pub cut : bs ≡ w ++ left
  pub place : j ≡ i + length w

pub record Partly (w bs : List ℕ) (i j : ℕ) : Type 0 where
  pub front : List ℕ
  pub letter : ℕ
  pub more : List ℕ
  pub left : List ℕ
  pub spelled : w ≡ front ++ (letter ∷ more)
  pub cut : bs ≡ front ++ left
  pub differs : take 1 left ≡ letter ∷ [] → ⊥
  pub place : j ≡ i + length front

-- what reading a word's letters answers
abbrev pub Letters : List ℕ → List ℕ → ℕ → Result ℕ ℕ → Type 0
Letters w bs i (Ok j) = Whole w bs i j
Letters w bs i (Err j) = Partly w bs i j

-- one letter more in front
letters_one_more : (w : List ℕ) (b : ℕ) (bs : List ℕ) (i : ℕ) (r : Result ℕ ℕ) → Letters w bs (i + 1) r → Letters (b ∷ w) (b ∷ bs) i r
letters_one_more w b bs i (Ok j) h = record { left = h.left; cut = ap (λ xs. b ∷ xs) h.cut; place = h.place ∙ omega arith }
letters_one_more w b bs i (Err j) h = record {
  front = b ∷ h.front;
  letter = h.letter;
  more = h.more;
  left = h.left;
  spelled = ap (λ xs. b ∷ xs) h.spelled;
  cut = ap (λ xs. b ∷ xs) h.cut;
  differs = h.differs;
  place = h.place ∙ omega arith;
}

-- the letters are read up to the first that differs
pub letters_splits : (w bs : List ℕ) (i : ℕ) → Letters w bs i (letters_at w bs i)
unfolding letters_at
letters_splits [] bs i = record { left = bs; cut = refl; place = omega arith }
letters_splits (x ∷ w) [] i = record {
  front = [];
  letter = x;
  more = w;
  left = [];
  spelled = refl;
  cut = refl;
  differs = λ e. let z : ◌≡◌ {A = ℕ} 0 1 = cc in omega arith;
  place = omega arith;
}
letters_splits (x ∷ w) (b ∷ bs) i =
    cond_both (eqb b x) (letters_at w bs (i + 1)) (Err i) (λ r. Letters (x ∷ w) (b ∷ bs) i r)
    (λ e. subst (λ y. Letters (y ∷ w) (b ∷ bs) i (letters_at w bs (i + 1))) (eqb-true b x e) (letters_one_more w b bs i (letters_at w bs (i + 1)) (letters_splits w bs (i + 1))))
    (λ e. record {
      front = [];
      letter = x;
      more = w;
      left = b ∷ bs;
      spelled = refl;
      cut = refl;
      differs = λ q. eqb-false b x e (cc);
      place = omega arith;
    })

-- digits, all that there are, after digits that come to n; or up to the one that makes the number too large
pub record SomeDigits (bs : List ℕ) (n i v j : ℕ) : Type 0 where
  pub ds : List ℕ
  pub left : List ℕ
  pub cut : bs ≡ ds ++ left
  pub digits : all digit ds ≡ true
  pub ends : starts digit left ≡ false
  pub value : value_from n ds ≡ v
  pub fits : v < 4294967296
  pub place : j ≡ i + length ds

pub record TooLarge (bs : List ℕ) (n i j : ℕ) : Type 0 where
  pub front : List ℕ
  pub one : ℕ
  pub left : List ℕ
  pub cut : bs ≡ front ++ (one ∷ left)
  pub digits : all digit front ≡ true
  pub also : digit one ≡ true
  pub fits : value_from n front < 4294967296
  pub large : 4294967296 ≤ value_from n (front ++ (one ∷ []))
  pub place : j ≡ i + length front

-- what reading digits answers
abbrev pub Digits : List ℕ → ℕ → ℕ → Result (ℕ × ℕ) ℕ → Type 0
Digits bs n i (Ok r) = SomeDigits bs n i r.0 r.1
Digits bs n i (Err j) = TooLarge bs n i j

-- one digit more in front
digits_one_more :
    (b : ℕ) (bs : List ℕ) (n i : ℕ) (r : Result (ℕ × ℕ) ℕ) → digit b ≡ true → Digits bs (n * 10 + (b - 48)) (i + 1) r → Digits (b ∷ bs) n i r
unfolding all value_from
digits_one_more b bs n i (Ok r) e h = record {
  ds = b ∷ h.ds;
  left = h.left;
  cut = ap (λ xs. b ∷ xs) h.cut;
  digits = and_from (digit b) (all digit h.ds) e h.digits;
  ends = h.ends;
  value = h.value;
  fits = h.fits;
  place = h.place ∙ omega arith;
}
digits_one_more b bs n i (Err j) e h = record {
  front = b ∷ h.front;
  one = h.one;
  left = h.left;
  cut = ap (λ xs. b ∷ xs) h.cut;
  digits = and_from (digit b) (all digit h.front) e h.digits;
  also = h.also;
  fits = h.fits;
  large = h.large;
  place = h.place ∙ omega arith;
}

-- the digits are read up to the first other byte, or the first that is too many
pub digits_splits : (bs : List ℕ) (n i : ℕ) → n < 4294967296 → Digits bs n i (digits_at bs n i)
unfolding digits_at all value_from
digits_splits [] n i h = record { ds = []; left = []; cut = refl; digits = refl; ends = refl; value = refl; fits = h; place = omega arith }
digits_splits (b ∷ bs) n i h =
    let m : ℕ = n * 10 + (b - 48) in
    cond_both (digit b) (cond (ltb m 4294967296) (digits_at bs m (i + 1)) (Err i)) (Ok (n, i)) (λ r. Digits (b ∷ bs) n i r)
    (λ e.
    cond_both (ltb m 4294967296) (digits_at bs m (i + 1)) (Err i) (λ r. Digits (b ∷ bs) n i r)
    (λ s. digits_one_more b bs n i (digits_at bs m (i + 1)) e (digits_splits bs m (i + 1) (ltb-true m 4294967296 s)))
    (λ s. record {
      front = [];
      one = b;
      left = bs;
      cut = refl;
      digits = refl;
      also = e;
      fits = h;
      large = ltb-false m 4294967296 s;
      place = omega arith;
    }))
    (λ e. record { ds = []; left = b ∷ bs; cut = refl; digits = refl; ends = e; value = refl; fits = h; place = omega arith })
