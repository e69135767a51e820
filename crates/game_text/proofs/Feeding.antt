-- The machine byte by byte does what it does piece by piece.
use Rattle.std.proofs.Common.{◌≡◌, ℕ, ◌+◌, ◌-◌, ◌*◌, ◌<◌, ◌≤◌, Bool, true, false, cond, not, eqb, ltb, ◌⊎◌, List, [], ◌∷◌, ◌++◌, Some, None, Option, sym, refl, ap, ◌∙◌, subst, inl, inr, arith}
use Rattle.std.proofs.lemmas.List.{append_assoc, append-nil}
use Rattle.std.proofs.lemmas.Bool.{and_parts, not-true, cases_Bool, cond-true, cond-false, ltb-true, lt-ltb}
use Rattle.text.specs.Grammar.{Piece, word, number, blank, digit, all, value_from, Spells, Written}
use Rattle.game_text.specs.declared.progress.Word.{Word}
use Rattle.game_text.specs.declared.progress.Progress.{Progress}
use Rattle.game_text.specs.Text.{blanked}
use Rattle.game_text.specs.Machine.{State, Machine, Lexer, gap, comment, digits, letters, and_then, ends, bound, awaited, look, settled, more_digits, more_letters, added, number_taken, word_taken, step, feed}
use Rattle.game_text.proofs.Spelled.{plain, look_plain, look_front}
use Rattle.game_text.proofs.Runs.{take_piece, run}
use Rattle.game_text.proofs.Pieces.{clash, blanked_ends, blanked_other, blanked_comment, ends_blank, Solid, digits_solid, BeginsSolid, one_blank_less, Opened, opened, then_blank, none_then, none_written}

abbrev pub state : Progress → List ℕ → State
state p memory = record { at = p; memory = memory }

abbrev pub machine : Lexer → Progress → List ℕ → Machine
machine x p memory = record { at = p; lexer = x; memory = memory }

-- more digits make no number smaller
pub value_grows : (n : ℕ) (xs : List ℕ) → n ≤ value_from n xs
unfolding value_from
value_grows n [] = omega arith
value_grows n (b ∷ xs) = let h : n * 10 + (b - 48) ≤ value_from (n * 10 + (b - 48)) xs = value_grows (n * 10 + (b - 48)) xs in omega arith

-- a piece that is taken: the word or the number
pub record Taken (p : Progress) (memory : List ℕ) (q : Piece) (qs : List Piece) (s : State) : Type 0 where
  pub to : State
  pub took : take_piece (state p memory) q ≡ Some to
  pub on : run to qs ≡ Some s

pub first_taken : (p : Progress) (memory : List ℕ) (q : Piece) (qs : List Piece) (s : State) → run (state p memory) (q ∷ qs) ≡ Some s → Taken p memory q qs s
unfolding run
first_taken p memory q qs s e = go (take_piece (state p memory) q) refl e
  where
    go : (x : Option State) → take_piece (state p memory) q ≡ x → and_then x (λ t. run t qs) ≡ Some s → Taken p memory q qs s
    go None t e = let z : ◌≡◌ {A = ℕ} 0 1 = cc in absurd (omega arith)
    go (Some to) t e = record { to = to; took = t; on = e }

pub number_small : (p : Progress) (memory : List ℕ) (n : ℕ) (t : State) → take_piece (state p memory) (number n) ≡ Some t → ltb n (bound p.stage p) ≡ true
number_small p memory n t e = go (ltb n (bound p.stage p)) e
  where
    go : (b : Bool) → cond b (Some (number_taken p.stage n p memory)) None ≡ Some t → b ≡ true
    go true e = refl
    go false e = let z : ◌≡◌ {A = ℕ} 0 1 = cc in absurd (omega arith)

pub word_found : (p : Progress) (memory : List ℕ) (l : List ℕ) (t : State) → take_piece (state p memory) (word l) ≡ Some t → (w : Word) × (look true (awaited p.stage p) l ≡ Some w)
word_found p memory l t e = go (look true (awaited p.stage p) l) refl e
  where
    go : (x : Option Word) → look true (awaited p.stage p) l ≡ x → and_then x (λ w. Some (word_taken w p memory)) ≡ Some t → (w : Word) × (look true (awaited p.stage p) l ≡ Some w)
    go None h e = let z : ◌≡◌ {A = ℕ} 0 1 = cc in absurd (omega arith)
    go (Some w) h e = (w, h)

-- what is taken is solid
taken_solid : (p : Progress) (memory : List ℕ) (q : Piece) (t : State) → take_piece (state p memory) q ≡ Some t → Solid q
taken_solid p memory (word l) t e = let f = word_found p memory l t e in look_plain p l f.0 f.1
taken_solid p memory (number n) t e = tt

run_solid : (p : Progress) (memory : List ℕ) (ps : List Piece) (s : State) → run (state p memory) ps ≡ Some s → BeginsSolid ps
run_solid p memory [] s e = tt
run_solid p memory (q ∷ qs) s e = let t = first_taken p memory q qs s e in taken_solid p memory q t.to t.took

-- what is left of the piece that has begun
abbrev pub Rest : Lexer → Piece → List ℕ → Type 0
Rest gap q bs = ⊥
Rest comment q bs = ⊥
Rest (digits v) (number n) bs = (all digit bs ≡ true) × (value_from v bs ≡ n)
Rest (digits v) (word w) bs = ⊥
Rest (letters l) (number n) bs = ⊥
Rest (letters l) (word w) bs = l ++ bs ≡ w

pub record Inside (x : Lexer) (ps : List Piece) (xs : List ℕ) : Type 0 where
  pub q : Piece
  pub qs : List Piece
  pub bs : List ℕ
  pub rest : List ℕ
  pub is : ps ≡ q ∷ qs
  pub part : Rest x q bs
  pub cut : xs ≡ bs ++ rest
  pub after : Written 1 qs rest

-- what is left of a text and of its pieces
abbrev pub Left : Lexer → List Piece → List ℕ → Type 0
Left gap ps t = Written 0 ps (blanked false t)
Left comment ps t = Written 0 ps (blanked true t)
Left (digits v) ps t = Inside (digits v) ps (blanked false t)
Left (letters l) ps t = Inside (letters l) ps (blanked false t)

pub plain_right : (l bs : List ℕ) → all (λ x. not (ends x)) (l ++ bs) ≡ true → all (λ x. not (ends x)) bs ≡ true
unfolding all
plain_right [] bs h = h
plain_right (b ∷ l) bs h = plain_right l bs (and_parts (not (ends b)) (all (λ x. not (ends x)) (l ++ bs)) h).1

pub plain_all : (l : List ℕ) → plain l ≡ true → all (λ x. not (ends x)) l ≡ true
plain_all [] h = clash false h refl
plain_all (b ∷ l) h = (and_parts (not (digit b)) (all (λ x. not (ends x)) (b ∷ l)) h).1

-- nothing of it ends a piece
rest_solid : (x : Lexer) (q : Piece) (bs : List ℕ) → Rest x q bs → Solid q → all (λ y. not (ends y)) bs ≡ true
rest_solid gap q bs r h = absurd r
rest_solid comment q bs r h = absurd r
rest_solid (digits v) (number n) bs r h = digits_solid bs r.0
rest_solid (digits v) (word w) bs r h = absurd r
rest_solid (letters l) (number n) bs r h = absurd r
rest_solid (letters l) (word w) bs r h = plain_right l bs (ap (all (λ y. not (ends y))) r ∙ plain_all w h)

-- the piece is over, if nothing of it is left
rest_none : (x : Lexer) (q : Piece) (p : Progress) (memory : List ℕ) (t : State) → Rest x q [] → take_piece (state p memory) q ≡ Some t → settled x p memory ≡ Some t
unfolding value_from
rest_none gap q p memory t r e = absurd r
rest_none comment q p memory t r e = absurd r
rest_none (digits v) (number n) p memory t r e =
    ap (λ k. Some (number_taken p.stage k p memory)) r.1 ∙ sym (cond-true (ltb n (bound p.stage p)) _ None (number_small p memory n t e)) ∙ e
rest_none (digits v) (word w) p memory t r e = absurd r
rest_none (letters l) (number n) p memory t r e = absurd r
rest_none (letters l) (word w) p memory t r e =
    ap (λ k. and_then (look true (awaited p.stage p) k) (λ u. Some (word_taken u p memory))) (sym (append-nil l) ∙ r) ∙ e

rest_over : (x : Lexer) (q : Piece) (bs rest xs : List ℕ) → Rest x q bs → Solid q → 32 ∷ xs ≡ bs ++ rest → (bs ≡ []) × (rest ≡ 32 ∷ xs)
unfolding all
rest_over x q [] rest xs r h e = (refl, sym e)
rest_over x q (b ∷ bs) rest xs r h e =
    let same : 32 ≡ b = cc in
    let s = and_parts (not (ends b)) (all (λ y. not (ends y)) bs) (rest_solid x q (b ∷ bs) r h) in
    clash (ends b) (sym (ap ends same)) (not-true (ends b) s.0)

-- a piece ends: what the machine takes, and what is left then
pub record Ended (x : Lexer) (p : Progress) (memory : List ℕ) (xs : List ℕ) (s : State) : Type 0 where
  pub to : State
  pub qs : List Piece
  pub settles : settled x p memory ≡ Some to
  pub left : Written 0 qs xs
  pub on : run to qs ≡ Some s

inside_ended :
    (x : Lexer) (p : Progress) (memory : List ℕ) (ps : List Piece) (xs : List ℕ) (s : State) → Inside x ps (32 ∷ xs) → run (state p memory) ps ≡ Some s
    → Ended x p memory xs s
inside_ended x p memory ps xs s i e =
    let t = first_taken p memory i.q i.qs s (ap (run (state p memory)) (sym i.is) ∙ e) in
    let h = taken_solid p memory i.q t.to t.took in
    let o = rest_over x i.q i.bs i.rest xs i.part h i.cut in
    record {
      to = t.to;
      qs = i.qs;
      settles = rest_none x i.q p memory t.to (subst (λ bs. Rest x i.q bs) o.0 i.part) t.took;
      left = one_blank_less i.after xs o.1 (run_solid t.to.at t.to.memory i.qs s t.on);
      on = t.on;
    }

-- the text ends inside a piece
inside_last :
    (x : Lexer) (p : Progress) (memory : List ℕ) (ps : List Piece) (s : State) → Inside x ps [] → run (state p memory) ps ≡ Some s → settled x p memory ≡ Some s
unfolding run
inside_last x p memory ps s i e =
    let t = first_taken p memory i.q i.qs s (ap (run (state p memory)) (sym i.is) ∙ e) in
    let o = both_none i.bs i.rest (sym i.cut) in
    rest_none x i.q p memory t.to (subst (λ bs. Rest x i.q bs) o.0 i.part) t.took
    ∙ ap (λ qs. run t.to qs) (sym (none_then i.after o.1)) ∙ t.on
  where
    both_none : (bs rest : List ℕ) → bs ++ rest ≡ [] → (bs ≡ []) × (rest ≡ [])
    both_none [] rest e = (refl, e)
    both_none (b ∷ bs) rest e = let z : ◌≡◌ {A = ℕ} 0 1 = cc in absurd (omega arith)

-- a byte of a piece
digits_on :
    (v b : ℕ) (p : Progress) (memory : List ℕ) (ps : List Piece) (xs : List ℕ) (s : State) → Inside (digits v) ps (b ∷ xs) → ends b ≡ false → run (state p memory) ps ≡ Some s
    → (more_digits v b p ≡ Some (digits (v * 10 + (b - 48)))) × Inside (digits (v * 10 + (b - 48))) ps xs
unfolding all value_from
digits_on v b p memory ps xs s i n e = go i.q i.bs i.is i.part i.cut
  where
    go : (q : Piece) (bs : List ℕ) → ps ≡ q ∷ i.qs → Rest (digits v) q bs → b ∷ xs ≡ bs ++ i.rest
        → (more_digits v b p ≡ Some (digits (v * 10 + (b - 48)))) × Inside (digits (v * 10 + (b - 48))) ps xs
    go (word w) bs f r c = absurd r
    go (number k) [] f r c = clash (blank b) (then_blank i.after b xs (sym c)) (ends_blank b n)
    go (number k) (y ∷ bs) f r c =
        let same : y ≡ b = cc in
        let left : xs ≡ bs ++ i.rest = cc in
        let a = and_parts (digit y) (all digit bs) r.0 in
        let t = first_taken p memory (number k) i.qs s (ap (run (state p memory)) (sym f) ∙ e) in
        let small : k < bound p.stage p = ltb-true k (bound p.stage p) (number_small p memory k t.to t.took) in
        let value : value_from (v * 10 + (b - 48)) bs ≡ k = ap (λ z. value_from (v * 10 + (z - 48)) bs) (sym same) ∙ r.1 in
        let fits : v * 10 + (b - 48) < bound p.stage p = omega (arith, value_grows (v * 10 + (b - 48)) bs) in (
          cond-true (digit b) _ None (ap digit (sym same) ∙ a.0) ∙ cond-true (ltb (v * 10 + (b - 48)) (bound p.stage p)) _ None (lt-ltb (v * 10 + (b - 48)) (bound p.stage p) fits),
          record { q = number k; qs = i.qs; bs = bs; rest = i.rest; is = f; part = (a.1, value); cut = left; after = i.after },
        )

letters_on :
    (l : List ℕ) (b : ℕ) (p : Progress) (memory : List ℕ) (ps : List Piece) (xs : List ℕ) (s : State) → Inside (letters l) ps (b ∷ xs) → ends b ≡ false → run (state p memory) ps ≡ Some s
    → (more_letters l b p ≡ Some (letters (l ++ (b ∷ [])))) × Inside (letters (l ++ (b ∷ []))) ps xs
letters_on l b p memory ps xs s i n e = go i.q i.bs i.is i.part i.cut
  where
    go : (q : Piece) (bs : List ℕ) → ps ≡ q ∷ i.qs → Rest (letters l) q bs → b ∷ xs ≡ bs ++ i.rest
        → (more_letters l b p ≡ Some (letters (l ++ (b ∷ [])))) × Inside (letters (l ++ (b ∷ []))) ps xs
    go (number k) bs f r c = absurd r
    go (word w) [] f r c = clash (blank b) (then_blank i.after b xs (sym c)) (ends_blank b n)
    go (word w) (y ∷ bs) f r c =
        let same : y ≡ b = cc in
        let left : xs ≡ bs ++ i.rest = cc in
        let whole : (l ++ (b ∷ [])) ++ bs ≡ w = append_assoc l (b ∷ []) bs ∙ ap (λ z. l ++ (z ∷ bs)) (sym same) ∙ r in
        let t = first_taken p memory (word w) i.qs s (ap (run (state p memory)) (sym f) ∙ e) in
        let found = word_found p memory w t.to t.took in
        let front = look_front (awaited p.stage p) (l ++ (b ∷ [])) bs found.0 (ap (look true (awaited p.stage p)) whole ∙ found.1) in (
          ap (λ z. and_then z (λ u. Some (letters (l ++ (b ∷ []))))) front.1,
          record { q = word w; qs = i.qs; bs = bs; rest = i.rest; is = f; part = whole; cut = left; after = i.after },
        )

-- a piece begins
begun :
    (b : ℕ) (p : Progress) (memory : List ℕ) (ps : List Piece) (xs : List ℕ) (s : State) → Written 0 ps (b ∷ xs) → ends b ≡ false → run (state p memory) ps ≡ Some s
    → ((digit b ≡ true) × Inside (digits 0) ps (b ∷ xs)) ⊎ ((digit b ≡ false) × Inside (letters []) ps (b ∷ xs))
unfolding all value_from
begun b p memory ps xs s w n e =
    let o = opened w b xs refl (ends_blank b n) (run_solid p memory ps s e) in
    let h : Solid o.q = subst BeginsSolid o.is (run_solid p memory ps s e) in
    go o o.q o.is o.spelled h
  where
    go : (o : Opened ps b xs) (q : Piece) → ps ≡ q ∷ o.qs → Spells q (b ∷ o.more) → Solid q
        → ((digit b ≡ true) × Inside (digits 0) ps (b ∷ xs)) ⊎ ((digit b ≡ false) × Inside (letters []) ps (b ∷ xs))
    go o (number k) f sp h =
        inl (
          (and_parts (digit b) (all digit o.more) sp.1).0,
          record { q = number k; qs = o.qs; bs = b ∷ o.more; rest = o.rest; is = f; part = (sp.1, sp.2); cut = ap (λ z. b ∷ z) o.cut; after = o.after },
        )
    go o (word w) f sp h =
        inr (
          not-true (digit b) (and_parts (not (digit b)) (all (λ z. not (ends z)) (b ∷ o.more)) (ap plain sp ∙ h)).0,
          record { q = word w; qs = o.qs; bs = b ∷ o.more; rest = o.rest; is = f; part = sp; cut = ap (λ z. b ∷ z) o.cut; after = o.after },
        )

-- what feeding and settling come to
pub record Fed (m : Machine) (t : List ℕ) (s : State) : Type 0 where
  pub to : Machine
  pub fed : feed m t ≡ Some to
  pub settles : settled to.lexer to.at to.memory ≡ Some s

pub fed_none : (m : Machine) (s : State) → settled m.lexer m.at m.memory ≡ Some s → Fed m [] s
unfolding feed
fed_none m s e = record { to = m; fed = refl; settles = e }

pub fed_more : (m n : Machine) (b : ℕ) (t : List ℕ) (s : State) → step m b ≡ Some n → Fed n t s → Fed m (b ∷ t) s
unfolding feed
fed_more m n b t s e f = record { to = f.to; fed = ap (λ x. and_then x (λ k. feed k t)) e ∙ f.fed; settles = f.settles }

-- white space or a comment, as a lexer
blank_left : (c : Bool) (ps : List Piece) (t : List ℕ) → Written 0 ps (blanked c t) → Left (cond c comment gap) ps t
blank_left true ps t w = w
blank_left false ps t w = w

comment_left : (c : Bool) (ps : List Piece) (t : List ℕ) → Written 0 ps (blanked (not c) t) → Left (cond c gap comment) ps t
comment_left true ps t w = w
comment_left false ps t w = w

run_same : (p : Progress) (memory : List ℕ) (ps : List Piece) (s : State) → run (state p memory) ps ≡ Some s → ps ≡ [] → settled gap p memory ≡ Some s
unfolding run
run_same p memory ps s e n = ap (run (state p memory)) (sym n) ∙ e

-- the lexer after a byte that goes on with a piece
step_on : (x y : Lexer) (b : ℕ) (p : Progress) (memory : List ℕ) → ends b ≡ false → added x b p ≡ Some y → cond (ends b)
    (and_then (settled x p memory) (λ s. Some (machine (cond (eqb b 35) comment gap) s.at s.memory))) (and_then (added x b p) (λ z. Some (machine z p memory)))
    ≡ Some (machine y p memory)
step_on x y b p memory n e = cond-false (ends b) _ _ n ∙ ap (λ z. and_then z (λ u. Some (machine u p memory))) e

-- and after one that ends it
step_over : (x : Lexer) (b : ℕ) (p : Progress) (memory : List ℕ) (s : State) → ends b ≡ true → settled x p memory ≡ Some s → cond (ends b)
    (and_then (settled x p memory) (λ s. Some (machine (cond (eqb b 35) comment gap) s.at s.memory))) (and_then (added x b p) (λ z. Some (machine z p memory)))
    ≡ Some (machine (cond (eqb b 35) comment gap) s.at s.memory)
step_over x b p memory s n e = cond-true (ends b) _ _ n ∙ ap (λ z. and_then z (λ u. Some (machine (cond (eqb b 35) comment gap) u.at u.memory))) e

-- pieces that the machine takes one by one, it takes byte by byte
pub forward :
    (t : List ℕ) (x : Lexer) (p : Progress) (memory : List ℕ) (ps : List Piece) (s : State) → Left x ps t → run (state p memory) ps ≡ Some s
    → Fed (machine x p memory) t s
unfolding blanked
forward [] gap p memory ps s l e = fed_none (machine gap p memory) s (run_same p memory ps s e (none_written l refl (run_solid p memory ps s e)))
forward [] comment p memory ps s l e = fed_none (machine comment p memory) s (run_same p memory ps s e (none_written l refl (run_solid p memory ps s e)))
forward [] (digits v) p memory ps s l e = fed_none (machine (digits v) p memory) s (inside_last (digits v) p memory ps s l e)
forward [] (letters w) p memory ps s l e = fed_none (machine (letters w) p memory) s (inside_last (letters w) p memory ps s l e)
forward (b ∷ t) gap p memory ps s l e =
    elim (cases_Bool (ends b)) [
      | inl n ↦
          fed_more (machine gap p memory) _ b t s (step_over gap b p memory (state p memory) n refl)
          (forward t (cond (eqb b 35) comment gap) p memory ps s
          (blank_left (eqb b 35) ps t (one_blank_less l (blanked (eqb b 35) t) (blanked_ends b t n) (run_solid p memory ps s e))) e)
      | inr n ↦
          elim (begun b p memory ps (blanked false t) s (subst (λ z. Written 0 ps z) (blanked_other b t n) l) n e) [
            | inl d ↦
                let o = digits_on 0 b p memory ps (blanked false t) s d.1 n e in
                fed_more (machine gap p memory) _ b t s (step_on gap _ b p memory n (cond-true (digit b) (more_digits 0 b p) (more_letters [] b p) d.0 ∙ o.0))
                (forward t (digits (0 * 10 + (b - 48))) p memory ps s o.1 e)
            | inr d ↦
                let o = letters_on [] b p memory ps (blanked false t) s d.1 n e in
                fed_more (machine gap p memory) _ b t s (step_on gap _ b p memory n (cond-false (digit b) (more_digits 0 b p) (more_letters [] b p) d.0 ∙ o.0))
                (forward t (letters (b ∷ [])) p memory ps s o.1 e)
          ]
    ]
forward (b ∷ t) comment p memory ps s l e =
    fed_more (machine comment p memory) _ b t s refl
    (forward t (cond (eqb b 10) gap comment) p memory ps s
    (comment_left (eqb b 10) ps t (one_blank_less l (blanked (not (eqb b 10)) t) (blanked_comment b t) (run_solid p memory ps s e))) e)
forward (b ∷ t) (digits v) p memory ps s l e =
    elim (cases_Bool (ends b)) [
      | inl n ↦
          let o = inside_ended (digits v) p memory ps (blanked (eqb b 35) t) s (subst (λ z. Inside (digits v) ps z) (blanked_ends b t n) l) e in
          fed_more (machine (digits v) p memory) _ b t s (step_over (digits v) b p memory o.to n o.settles)
          (forward t (cond (eqb b 35) comment gap) o.to.at o.to.memory o.qs s (blank_left (eqb b 35) o.qs t o.left) o.on)
      | inr n ↦
          let o = digits_on v b p memory ps (blanked false t) s (subst (λ z. Inside (digits v) ps z) (blanked_other b t n) l) n e in
          fed_more (machine (digits v) p memory) _ b t s (step_on (digits v) _ b p memory n o.0) (forward t (digits (v * 10 + (b - 48))) p memory ps s o.1 e)
    ]
forward (b ∷ t) (letters w) p memory ps s l e =
    elim (cases_Bool (ends b)) [
      | inl n ↦
          let o = inside_ended (letters w) p memory ps (blanked (eqb b 35) t) s (subst (λ z. Inside (letters w) ps z) (blanked_ends b t n) l) e in
          fed_more (machine (letters w) p memory) _ b t s (step_over (letters w) b p memory o.to n o.settles)
          (forward t (cond (eqb b 35) comment gap) o.to.at o.to.memory o.qs s (blank_left (eqb b 35) o.qs t o.left) o.on)
      | inr n ↦
          let o = letters_on w b p memory ps (blanked false t) s (subst (λ z. Inside (letters w) ps z) (blanked_other b t n) l) n e in
          fed_more (machine (letters w) p memory) _ b t s (step_on (letters w) _ b p memory n o.0) (forward t (letters (w ++ (b ∷ []))) p memory ps s o.1 e)
    ]
