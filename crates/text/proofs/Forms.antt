-- A form of call, read: the call, or the longest front that some call of the form begins with.
use Rattle.std.proofs.Common.{◌≡◌, ℕ, ◌+◌, ◌-◌, ◌<◌, ◌≤◌, max, true, false, eqb, ltb, ◌⊎◌, List, [], ◌∷◌, ◌++◌, length, take, drop, Ok, Err, Result, sym, refl, ap, ◌∙◌, subst, inl, inr, ⊎_elim, arith}
use Rattle.std.proofs.lemmas.List.{length-append, length-drop, append_assoc, append-nil, nil_from_length}
use Rattle.std.proofs.lemmas.Bool.{cases_lt, cond_both, and_parts, eqb-true, eqb-false, ltb-true, ltb-false}
use Rattle.rules.specs.declared.Call.{Call}
use Rattle.text.specs.Grammar.{blank, digit, all}
use Rattle.text.specs.Reader.{and_then, past, gap_at, letters_at, end_at, Form, done, the, ask, fit, better}
use Rattle.text.proofs.Splits.{starts, starts_alike, take_alike, all_append, all_right, all_none, none_alike, front_within, split_unique, go_on}
use Rattle.text.proofs.Scans.{Gap, past_splits}
use Rattle.text.proofs.Pieces.{ends_before, ends_alike, spelled_same, blank_not_digit, Want, the_word, any_number, Spelled, Solid, spelled_solid, some_spelling, read_want, Got, Stopped, WantRead, want_read}

-- the longest front of bs that some line begins with, where L c is how c may be written; it ends at place n
pub record Stuck {X : Type 0} (L : X → List ℕ → Type 0) (bs : List ℕ) (i n : ℕ) : Type 0 where
  pub front : List ℕ
  pub left : List ℕ
  pub cut : bs ≡ front ++ left
  pub place : n ≡ i + length front
  pub live : (c : X) × (rest : List ℕ) × L c (front ++ rest)
  pub dead : (c : X) (xs : List ℕ) → take 1 xs ≡ take 1 left → L c (front ++ xs) → ⊥

-- what an answer says of a line that is bs from place i on
abbrev pub Good : {X : Type 0} → (X → List ℕ → Type 0) → List ℕ → ℕ → Result X ℕ → Type 0
Good L bs i (Ok c) = L c bs
Good L bs i (Err n) = Stuck L bs i n

-- white space, a word or a number with value v, and then what L v says
pub record Begins (w : Want) (least : ℕ) (L : ℕ → List ℕ → Type 0) (xs : List ℕ) : Type 0 where
  pub value : ℕ
  pub gap : List ℕ
  pub ds : List ℕ
  pub rest : List ℕ
  pub cut : xs ≡ gap ++ (ds ++ rest)
  pub enough : least ≤ length gap
  pub white : all blank gap ≡ true
  pub spelled : Spelled w value ds
  pub then : L value rest

-- reading one word or number, and the rest by a reader that is good
module _
    {X : Type 0} (w : Want) (solid : Solid w) (L : ℕ → X → List ℕ → Type 0)
    (stops : (v : ℕ) (c : X) (rest : List ℕ) → L v c rest → starts digit rest ≡ false)
    (some : (v : ℕ) → (c : X) × (rest : List ℕ) × L v c rest)
    (least : ℕ) (few : least ≤ 1)
  where
    -- the lines that are read here
    abbrev Lines : X → List ℕ → Type 0
    Lines c xs = Begins w least (λ v rest. L v c rest) xs

    -- there is not enough white space
    too_short :
        (bs : List ℕ) (i j : ℕ) (g : Gap bs i j) → length g.gap < least → Stuck Lines bs i j
    unfolding all
    too_short bs i j g short = record {
      front = g.gap;
      left = g.left;
      cut = g.cut;
      place = g.place;
      live =
          let p = some_spelling w in
          let t = some p.0 in (
            t.0,
            32 ∷ (p.1 ++ t.1),
            record {
              value = p.0;
              gap = g.gap ++ (32 ∷ []);
              ds = p.1;
              rest = t.1;
              cut = sym (append_assoc g.gap (32 ∷ []) (p.1 ++ t.1));
              enough = omega (arith, length-append g.gap (32 ∷ []));
              white = all_append blank g.gap (32 ∷ []) g.white refl;
              spelled = p.2;
              then = t.2;
            },
          );
      dead = λ c xs a b.
          let same = split_unique blank g.gap b.gap xs (b.ds ++ b.rest) g.white b.white (starts_alike blank xs g.left a ∙ g.ends)
          (spelled_solid w solid b.value b.ds b.rest b.spelled) b.cut in
          omega (arith, b.enough, ap length same.0);
    }

    -- the word or number is not read to its end
    piece_stuck :
        (bs : List ℕ) (i j n : ℕ) (g : Gap bs i j) → least ≤ length g.gap → Stopped w g.left j n → Stuck Lines bs i n
    piece_stuck bs i j n g enough s = record {
      front = g.gap ++ s.front;
      left = s.left;
      cut = g.cut ∙ ap (λ xs. g.gap ++ xs) s.cut ∙ sym (append_assoc g.gap s.front s.left);
      place = omega (arith, g.place, s.place, length-append g.gap s.front);
      live =
          let p = s.live in
          let t = some p.0 in (
            t.0,
            p.1 ++ t.1,
            record {
              value = p.0;
              gap = g.gap;
              ds = s.front ++ p.1;
              rest = t.1;
              cut = append_assoc g.gap s.front (p.1 ++ t.1) ∙ ap (λ xs. g.gap ++ xs) (sym (append_assoc s.front p.1 t.1));
              enough = enough;
              white = g.white;
              spelled = p.2;
              then = t.2;
            },
          );
      dead = λ c xs a b.
          let begins : starts blank (s.front ++ xs) ≡ false =
          starts_alike blank (s.front ++ xs) (s.front ++ s.left) (take_alike s.front xs s.left a) ∙ sym (ap (starts blank) s.cut) ∙ g.ends in
          let same = split_unique blank g.gap b.gap (s.front ++ xs) (b.ds ++ b.rest) g.white b.white begins
          (spelled_solid w solid b.value b.ds b.rest b.spelled) (sym (append_assoc g.gap s.front xs) ∙ b.cut) in
          s.dead xs a b.value b.ds b.rest same.1 b.spelled (ends_before w b.rest (stops b.value c b.rest b.then));
    }

    -- it is, and the rest is read
    go_further :
        (bs : List ℕ) (i j v k : ℕ) (g : Gap bs i j) → least ≤ length g.gap → (p : Got w g.left j v k) (r : Result X ℕ) → Good (L v) p.left k r →
        Good Lines bs i r
    go_further bs i j v k g enough p (Ok c) h = record {
      value = v;
      gap = g.gap;
      ds = p.ds;
      rest = p.left;
      cut = g.cut ∙ ap (λ xs. g.gap ++ xs) p.cut;
      enough = enough;
      white = g.white;
      spelled = p.spelled;
      then = h;
    }
    go_further bs i j v k g enough p (Err n) h =
        let regroup : (xs : List ℕ) → (g.gap ++ (p.ds ++ h.front)) ++ xs ≡ g.gap ++ (p.ds ++ (h.front ++ xs)) =
        λ xs. append_assoc g.gap (p.ds ++ h.front) xs ∙ ap (λ ys. g.gap ++ ys) (append_assoc p.ds h.front xs) in
        record {
          front = g.gap ++ (p.ds ++ h.front);
          left = h.left;
          cut = g.cut ∙ ap (λ xs. g.gap ++ xs) (p.cut ∙ ap (λ xs. p.ds ++ xs) h.cut) ∙ sym (regroup h.left);
          place = omega (arith, g.place, p.place, h.place, length-append g.gap (p.ds ++ h.front), length-append p.ds h.front);
          live =
              let t = h.live in (
                t.0,
                t.1,
                record {
                  value = v;
                  gap = g.gap;
                  ds = p.ds;
                  rest = h.front ++ t.1;
                  cut = regroup t.1;
                  enough = enough;
                  white = g.white;
                  spelled = p.spelled;
                  then = t.2;
                },
              );
          dead = λ c xs a b.
              let same = split_unique blank g.gap b.gap (p.ds ++ (h.front ++ xs)) (b.ds ++ b.rest) g.white b.white
              (spelled_solid w solid v p.ds (h.front ++ xs) p.spelled)
              (spelled_solid w solid b.value b.ds b.rest b.spelled) (sym (regroup xs) ∙ b.cut) in
              let alike : take 1 (h.front ++ xs) ≡ take 1 p.left = take_alike h.front xs h.left a ∙ sym (ap (take 1) h.cut) in
              let q = spelled_same w v b.value p.ds b.ds (h.front ++ xs) b.rest p.spelled b.spelled (ends_alike w (h.front ++ xs) p.left alike p.ends)
              (ends_before w b.rest (stops b.value c b.rest b.then)) same.1 in
              h.dead c xs a (subst (λ u. L u c (h.front ++ xs)) (sym q.0) (subst (λ ys. L b.value c ys) (sym q.1) b.then));
        }

    -- the reader of what comes next
    abbrev want_at : List ℕ → ℕ → Result (ℕ × ℕ) ℕ
    want_at line i = and_then (gap_at least line i) (λ j. read_want w (drop j line) j)

    module _ (line : List ℕ) (next : ℕ → ℕ → Result X ℕ) (good : (v j : ℕ) → j ≤ length line → Good (L v) (drop j line) j (next v j)) where
      -- what follows the white space
      after_want :
          (i : ℕ) → i ≤ length line → (g : Gap (drop i line) i (past (drop i line) i)) → least ≤ length g.gap → (r : Result (ℕ × ℕ) ℕ) → WantRead w g.left (past (drop i line) i) r →
          Good Lines (drop i line) i (and_then r (λ n. next n.0 n.1))
      after_want i h g enough (Ok n) p =
          let j : ℕ = past (drop i line) i in
          let to-gap = go_on line i g.gap g.left h g.cut in
          let here : drop j line ≡ g.left = ap (λ k. drop k line) g.place ∙ to-gap.1 in
          let on = go_on line j p.ds p.left (omega (arith, g.place, to-gap.0)) (here ∙ p.cut) in
          go_further (drop i line) i j n.0 n.1 g enough p (next n.0 n.1)
          (subst (λ bs. Good (L n.0) bs n.1 (next n.0 n.1)) (ap (λ k. drop k line) p.place ∙ on.1) (good n.0 n.1 (omega (arith, p.place, on.0))))
      after_want i h g enough (Err n) s = piece_stuck (drop i line) i (past (drop i line) i) n g enough s

      -- white space, the word or number, and the rest
      pub then_good : (i : ℕ) → i ≤ length line → Good Lines (drop i line) i (and_then (want_at line i) (λ n. next n.0 n.1))
      then_good i h =
          let bs : List ℕ = drop i line in
          let j : ℕ = past bs i in
          let g : Gap bs i j = past_splits bs i in
          let here : drop j line ≡ g.left = ap (λ k. drop k line) g.place ∙ (go_on line i g.gap g.left h g.cut).1 in
          cond_both (ltb j (i + least)) (Err j) (Ok j)
          (λ r. Good Lines bs i (and_then (and_then r (λ k. read_want w (drop k line) k)) (λ n. next n.0 n.1)))
          (λ e. too_short bs i j g (omega (arith, ltb-true j (i + least) e, g.place)))
          (λ e.
          after_want i h g (omega (arith, ltb-false j (i + least) e, g.place)) (read_want w (drop j line) j)
          (subst (λ xs. WantRead w xs j (read_want w (drop j line) j)) here (want_read w (drop j line) j)))

-- how a call of the form may be written from here on, with at least so much white space in front
abbrev pub Says : Form → ℕ → Call → List ℕ → Type 0
Says (done d) least c bs = (d ≡ c) × (all blank bs ≡ true)
Says (the w f) least c bs = Begins (the_word w) least (λ v rest. Says f 1 c rest) bs
Says (ask f) least c bs = Begins any_number least (λ v rest. Says (f v) 1 c rest) bs

-- no word of the form begins with white space
abbrev pub Proper : Form → Type 0
Proper (done d) = Unit {0}
Proper (the w f) = Solid (the_word w) × Proper f
Proper (ask f) = (v : ℕ) → Proper (f v)

-- white space begins with no digit
white_stops : (gap xs : List ℕ) → all blank gap ≡ true → 1 ≤ length gap → starts digit (gap ++ xs) ≡ false
unfolding all
white_stops [] xs h l = absurd (omega arith)
white_stops (b ∷ gap) xs h l = blank_not_digit b (and_parts (blank b) (all blank gap) h).0

-- what is left after a piece begins with no digit
pub says_stops : (f : Form) (c : Call) (rest : List ℕ) → Says f 1 c rest → starts digit rest ≡ false
unfolding all
says_stops (done d) c [] h = refl
says_stops (done d) c (b ∷ bs) h = blank_not_digit b (and_parts (blank b) (all blank bs) h.1).0
says_stops (the w f) c rest h = ap (starts digit) h.cut ∙ white_stops h.gap (h.ds ++ h.rest) h.white h.enough
says_stops (ask f) c rest h = ap (starts digit) h.cut ∙ white_stops h.gap (h.ds ++ h.rest) h.white h.enough

-- there is always some way to go on
some_begins :
    (w : Want) (L : ℕ → Call → List ℕ → Type 0) → ((v : ℕ) → (c : Call) × (rest : List ℕ) × L v c rest) →
    (c : Call) × (xs : List ℕ) × Begins w 1 (λ v rest. L v c rest) xs
unfolding all
some_begins w L some =
    let p = some_spelling w in
    let t = some p.0 in (
      t.0,
      32 ∷ (p.1 ++ t.1),
      record {
        value = p.0;
        gap = 32 ∷ [];
        ds = p.1;
        rest = t.1;
        cut = refl;
        enough = omega arith;
        white = refl;
        spelled = p.2;
        then = t.2;
      },
    )

-- every form can be gone through
pub some_call : (f : Form) → (c : Call) × (rest : List ℕ) × Says f 1 c rest
unfolding all
some_call (done d) = (d, [], (refl, refl))
some_call (the w f) = some_begins (the_word w) (λ v c rest. Says f 1 c rest) (λ v. some_call f)
some_call (ask f) = some_begins any_number (λ v c rest. Says (f v) 1 c rest) (λ v. some_call (f v))

-- the end of a line
end_good : (d : Call) (least : ℕ) (line : List ℕ) (i : ℕ) → i ≤ length line → Good (Says (done d) least) (drop i line) i (end_at line i d)
end_good d least line i h =
    let bs : List ℕ = drop i line in
    let g : Gap bs i (past bs i) = past_splits bs i in
    let size : length line - i ≡ length g.gap + length g.left = sym (length-drop i line) ∙ ap length g.cut ∙ length-append g.gap g.left in
    let nothing-more : all blank (g.gap ++ []) ≡ true = subst (λ xs. all blank xs ≡ true) (sym (append-nil g.gap)) g.white in
    cond_both (eqb (past bs i) (length line)) (Ok d) (Err (past bs i)) (λ r. Good (Says (done d) least) bs i r)
    (λ e.
    let none : g.left ≡ [] = nil_from_length g.left (omega (arith, eqb-true (past bs i) (length line) e, g.place)) in
    (refl, subst (λ xs. all blank xs ≡ true) (sym (g.cut ∙ ap (λ ys. g.gap ++ ys) none)) nothing-more))
    (λ e. record {
      front = g.gap;
      left = g.left;
      cut = g.cut;
      place = g.place;
      live = (d, [], (refl, nothing-more));
      dead = λ c xs a t.
          let none : xs ≡ [] = all_none blank xs (all_right blank g.gap xs t.1) (starts_alike blank xs g.left a ∙ g.ends) in
          let none_left : g.left ≡ [] = none_alike g.left (sym a ∙ ap (take 1) none) in
          eqb-false (past bs i) (length line) e (omega (arith, g.place, ap length none_left));
    })

-- a word read with the number 0, which is then let go, is a word read
pub word_alone :
    {X : Type 0} (gap : Result ℕ ℕ) (letters : ℕ → Result ℕ ℕ) (next : ℕ → Result X ℕ) →
    and_then (and_then gap (λ j. and_then (letters j) (λ k. Ok (0, k)))) (λ (n : ℕ × ℕ). next n.1) ≡ and_then (and_then gap letters) next
word_alone (Ok j) letters next = by_letters (letters j)
  where
    by_letters : (r : Result ℕ ℕ) → and_then (and_then r (λ k. Ok (0, k))) (λ (n : ℕ × ℕ). next n.1) ≡ and_then r next
    by_letters (Ok k) = refl
    by_letters (Err k) = refl
word_alone (Err j) letters next = refl

-- reading by a form is right
pub fit_good :
    (f : Form) → Proper f → (least : ℕ) → least ≤ 1 → (line : List ℕ) (i : ℕ) → i ≤ length line → Good (Says f least) (drop i line) i (fit f least line i)
fit_good (done d) p least few line i h = end_good d least line i h
fit_good (the w f) p least few line i h =
    subst (λ r. Good (Says (the w f) least) (drop i line) i r)
    (word_alone (gap_at least line i) (λ j. letters_at w (drop j line) j) (fit f 1 line))
    (then_good (the_word w) p.0 (λ v c rest. Says f 1 c rest) (λ v. says_stops f) (λ v. some_call f) least few line (λ v j. fit f 1 line j)
    (λ v j l. fit_good f p.1 1 (omega arith) line j l) i h)
fit_good (ask f) p least few line i h =
    then_good any_number tt (λ v c rest. Says (f v) 1 c rest) (λ v. says_stops (f v)) (λ v. some_call (f v)) least few line (λ v j. fit (f v) 1 line j)
    (λ v j l. fit_good (f v) (p v) 1 (omega arith) line j l) i h

-- of two answers the one that comes further is good for both, where N is what L and M are together
further :
    (L M N : Call → List ℕ → Type 0) → ((c : Call) (xs : List ℕ) → M c xs → N c xs) → ((c : Call) (xs : List ℕ) → N c xs → L c xs ⊎ M c xs) →
    (bs : List ℕ) (i m n : ℕ) → m ≤ n → Stuck L bs i m → Stuck M bs i n → Stuck N bs i n
further L M N whole parts bs i m n l h k = record {
  front = k.front;
  left = k.left;
  cut = k.cut;
  place = k.place;
  live = (k.live.0, k.live.1, whole k.live.0 (k.front ++ k.live.1) k.live.2);
  dead = λ c xs a t.
      let on = front_within h.front h.left k.front k.left (sym h.cut ∙ k.cut) (omega (arith, h.place, k.place)) in
      let alike : take 1 (on.0 ++ xs) ≡ take 1 h.left = take_alike on.0 xs k.left a ∙ sym (ap (take 1) on.2) in
      let here : k.front ++ xs ≡ h.front ++ (on.0 ++ xs) = ap (λ ys. ys ++ xs) on.1 ∙ append_assoc h.front on.0 xs in
      ⊎_elim (λ x. h.dead c (on.0 ++ xs) alike (subst (λ ys. L c ys) here x)) (λ x. k.dead c xs a x) (parts c (k.front ++ xs) t);
}

-- the better one of two answers is good for what either one is about
pub better_good :
    (L M : Call → List ℕ → Type 0) (bs : List ℕ) (i : ℕ) (r s : Result Call ℕ) → Good L bs i r → Good M bs i s →
    Good (λ c xs. L c xs ⊎ M c xs) bs i (better r s)
better_good L M bs i (Ok c) s h k = inl h
better_good L M bs i (Err m) (Ok c) h k = inr k
better_good L M bs i (Err m) (Err n) h k =
    let N : Call → List ℕ → Type 0 = λ c xs. L c xs ⊎ M c xs in
    ⊎_elim
    (λ l.
    let last : n ≡ max m n = omega arith in
    subst (λ p. Stuck N bs i p) last (further L M N (λ c xs x. inr x) (λ c xs x. x) bs i m n (omega arith) h k))
    (λ l.
    let last : m ≡ max m n = omega arith in
    subst (λ p. Stuck N bs i p) last (further M L N (λ c xs x. inl x) (λ c xs x. ⊎_elim (λ y. inr y) (λ y. inl y) x) bs i n m l k h))
    (cases_lt m n)
