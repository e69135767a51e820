-- What the machine takes byte by byte are pieces that it takes one by one.
use Rattle.std.proofs.Common.{◌≡◌, ℕ, ◌+◌, ◌-◌, ◌*◌, ◌<◌, ◌≤◌, Bool, true, false, cond, not, eqb, ltb, List, [], ◌∷◌, ◌++◌, Some, None, Option, sym, refl, ap, ◌∙◌, subst, inl, inr, arith}
use Rattle.std.proofs.lemmas.List.{append_assoc, append-nil}
use Rattle.std.proofs.lemmas.Bool.{and_from, cases_Bool, cond-true, cond-false, cond_both, ltb-true}
use Rattle.text.specs.Grammar.{Piece, word, number, digit, all, value_from, Written, end, piece}
use Rattle.game_text.specs.declared.progress.Stage.{Stage}
use Rattle.game_text.specs.declared.progress.Stage.TheVariants.{PlayersWord, PlayersNumber, CellsWord, Values, FirstBound, SecondBound, MayWord, Expr, Sets, GainWord, End}
use Rattle.game_text.specs.declared.progress.Word.{Word}
use Rattle.game_text.specs.declared.progress.Progress.{Progress}
use Rattle.game_text.specs.Text.{blanked}
use Rattle.game_text.specs.Machine.{State, Machine, Lexer, gap, comment, digits, letters, and_then, ends, bound, awaited, look, settled, more_digits, more_letters, added, step, feed}
use Rattle.game_text.proofs.Runs.{take_piece, run, run_none, run_one}
use Rattle.game_text.proofs.Pieces.{blanked_ends, blanked_other, blanked_comment, one_more_blank}
use Rattle.game_text.proofs.Feeding.{state, machine, Fed, first_taken, number_small, Rest, Inside, Left}

-- a result that is there
pub then_some : {X Y : Type 0} (o : Option X) (f : X → Option Y) (y : Y) → and_then o f ≡ Some y → (x : X) × (o ≡ Some x) × (f x ≡ Some y)
then_some None f y e = let z : ◌≡◌ {A = ℕ} 0 1 = cc in absurd (omega arith)
then_some (Some x) f y e = (x, refl, e)

pub same_some : {X : Type 0} (x y : X) → Some x ≡ Some y → x ≡ y
same_some x y e = (cc)

pub cond_some : {X : Type 0} (b : Bool) (x y : X) → cond b (Some x) None ≡ Some y → (b ≡ true) × (x ≡ y)
cond_some true x y e = (refl, same_some x y e)
cond_some false x y e = let z : ◌≡◌ {A = ℕ} 0 1 = cc in absurd (omega arith)

fed_end : (m : Machine) (s : State) → Fed m [] s → settled m.lexer m.at m.memory ≡ Some s
unfolding feed
fed_end m s f = ap (λ (k : Machine). settled k.lexer k.at k.memory) (same_some m f.to f.fed) ∙ f.settles

fed_on : (m : Machine) (b : ℕ) (t : List ℕ) (s : State) → Fed m (b ∷ t) s → (n : Machine) × (step m b ≡ Some n) × Fed n t s
unfolding feed
fed_on m b t s f =
    let h = then_some (step m b) (λ n. feed n t) f.to f.fed in
    (h.0, h.1, record { to = f.to; fed = h.2; settles = f.settles })

-- a number so far is small enough
abbrev pub Bounded : Lexer → Progress → Type 0
Bounded gap p = Unit {0}
Bounded comment p = Unit {0}
Bounded (digits v) p = ltb v (bound p.stage p) ≡ true
Bounded (letters l) p = Unit {0}

-- the bytes are pieces
pub record Back (x : Lexer) (p : Progress) (memory : List ℕ) (t : List ℕ) (s : State) : Type 0 where
  pub ps : List Piece
  pub left : Left x ps t
  pub on : run (state p memory) ps ≡ Some s

-- a byte that ends a piece, and one that goes on with it
abbrev pub step_of : Lexer → ℕ → Progress → List ℕ → Option Machine
step_of x b p memory =
    cond (ends b) (and_then (settled x p memory) (λ s. Some (machine (cond (eqb b 35) comment gap) s.at s.memory)))
    (and_then (added x b p) (λ z. Some (machine z p memory)))

pub over_inv :
    (x : Lexer) (b : ℕ) (p : Progress) (memory : List ℕ) (n : Machine) → step_of x b p memory ≡ Some n → ends b ≡ true
    → (s : State) × (settled x p memory ≡ Some s) × (machine (cond (eqb b 35) comment gap) s.at s.memory ≡ n)
over_inv x b p memory n e h =
    let f = then_some (settled x p memory) (λ (s : State). Some (machine (cond (eqb b 35) comment gap) s.at s.memory)) n (sym (cond-true (ends b) _ _ h) ∙ e) in
    (f.0, f.1, same_some _ n f.2)

pub on_inv :
    (x : Lexer) (b : ℕ) (p : Progress) (memory : List ℕ) (n : Machine) → step_of x b p memory ≡ Some n → ends b ≡ false
    → (y : Lexer) × (added x b p ≡ Some y) × (machine y p memory ≡ n)
on_inv x b p memory n e h =
    let f = then_some (added x b p) (λ (y : Lexer). Some (machine y p memory)) n (sym (cond-false (ends b) _ _ h) ∙ e) in
    (f.0, f.1, same_some _ n f.2)

pub digits_inv :
    (v b : ℕ) (p : Progress) (y : Lexer) → more_digits v b p ≡ Some y
    → (digit b ≡ true) × (ltb (v * 10 + (b - 48)) (bound p.stage p) ≡ true) × (digits (v * 10 + (b - 48)) ≡ y)
digits_inv v b p y e = go (digit b) e
  where
    go : (d : Bool) → cond d (cond (ltb (v * 10 + (b - 48)) (bound p.stage p)) (Some (digits (v * 10 + (b - 48)))) None) None ≡ Some y
        → (d ≡ true) × (ltb (v * 10 + (b - 48)) (bound p.stage p) ≡ true) × (digits (v * 10 + (b - 48)) ≡ y)
    go true e = let f = cond_some (ltb (v * 10 + (b - 48)) (bound p.stage p)) (digits (v * 10 + (b - 48))) y e in (refl, f.0, f.1)
    go false e = let z : ◌≡◌ {A = ℕ} 0 1 = cc in absurd (omega arith)

letters_inv : (l : List ℕ) (b : ℕ) (p : Progress) (y : Lexer) → more_letters l b p ≡ Some y → letters (l ++ (b ∷ [])) ≡ y
letters_inv l b p y e =
    let f = then_some (look false (awaited p.stage p) (l ++ (b ∷ []))) (λ (w : Word). Some (letters (l ++ (b ∷ [])))) y e in same_some _ y f.2

bound_most : (s : Stage) (p : Progress) → bound s p ≤ 65536
bound_most PlayersWord p = omega arith
bound_most PlayersNumber p = omega arith
bound_most CellsWord p = omega arith
bound_most Values p = cond_both (ltb p.cells 65535) 65536 0 (λ n. n ≤ 65536) (λ e. omega arith) (λ e. omega arith)
bound_most FirstBound p = omega arith
bound_most SecondBound p = omega arith
bound_most MayWord p = omega arith
bound_most Expr p = omega arith
bound_most Sets p = omega arith
bound_most GainWord p = omega arith
bound_most End p = omega arith

-- one byte back in a piece
digits_back : (v b : ℕ) (ps : List Piece) (xs : List ℕ) → digit b ≡ true → Inside (digits (v * 10 + (b - 48))) ps xs → Inside (digits v) ps (b ∷ xs)
unfolding all value_from
digits_back v b ps xs d i = go i.q i.is i.part
  where
    go : (q : Piece) → ps ≡ q ∷ i.qs → Rest (digits (v * 10 + (b - 48))) q i.bs → Inside (digits v) ps (b ∷ xs)
    go (word w) f r = absurd r
    go (number n) f r = record {
      q = number n;
      qs = i.qs;
      bs = b ∷ i.bs;
      rest = i.rest;
      is = f;
      part = (and_from (digit b) (all digit i.bs) d r.0, r.1);
      cut = ap (λ z. b ∷ z) i.cut;
      after = i.after;
    }

letters_back : (l : List ℕ) (b : ℕ) (ps : List Piece) (xs : List ℕ) → Inside (letters (l ++ (b ∷ []))) ps xs → Inside (letters l) ps (b ∷ xs)
letters_back l b ps xs i = go i.q i.is i.part
  where
    go : (q : Piece) → ps ≡ q ∷ i.qs → Rest (letters (l ++ (b ∷ []))) q i.bs → Inside (letters l) ps (b ∷ xs)
    go (number n) f r = absurd r
    go (word w) f r = record {
      q = word w;
      qs = i.qs;
      bs = b ∷ i.bs;
      rest = i.rest;
      is = f;
      part = sym (append_assoc l (b ∷ []) i.bs) ∙ r;
      cut = ap (λ z. b ∷ z) i.cut;
      after = i.after;
    }

-- a piece from its beginning
wrap_digits :
    (p : Progress) (memory : List ℕ) (b : ℕ) (ps : List Piece) (xs : List ℕ) (s : State) → digit b ≡ true → Inside (digits (0 * 10 + (b - 48))) ps xs
    → run (state p memory) ps ≡ Some s → Written 0 ps (b ∷ xs)
unfolding all value_from
wrap_digits p memory b ps xs s d i e = go i.q i.is i.part
  where
    go : (q : Piece) → ps ≡ q ∷ i.qs → Rest (digits (0 * 10 + (b - 48))) q i.bs → Written 0 ps (b ∷ xs)
    go (word w) f r = absurd r
    go (number k) f r =
        let t = first_taken p memory (number k) i.qs s (ap (run (state p memory)) (sym f) ∙ e) in
        let small : k < bound p.stage p = ltb-true k (bound p.stage p) (number_small p memory k t.to t.took) in
        subst (λ z. Written 0 z (b ∷ xs)) (sym f) (subst (λ z. Written 0 (number k ∷ i.qs) (b ∷ z)) (sym i.cut)
        (piece [] (b ∷ i.bs) i.rest (omega arith) refl (omega arith, and_from (digit b) (all digit i.bs) d r.0, r.1, omega (arith, bound_most p.stage p)) i.after))

wrap_letters : (b : ℕ) (ps : List Piece) (xs : List ℕ) → Inside (letters (b ∷ [])) ps xs → Written 0 ps (b ∷ xs)
unfolding all
wrap_letters b ps xs i = go i.q i.is i.part
  where
    go : (q : Piece) → ps ≡ q ∷ i.qs → Rest (letters (b ∷ [])) q i.bs → Written 0 ps (b ∷ xs)
    go (number k) f r = absurd r
    go (word w) f r =
        subst (λ z. Written 0 z (b ∷ xs)) (sym f) (subst (λ z. Written 0 (word w ∷ i.qs) (b ∷ z)) (sym i.cut)
        (piece [] (b ∷ i.bs) i.rest (omega arith) refl r i.after))

-- white space or a comment, back from the lexer
left_blank : (c : Bool) (ps : List Piece) (t : List ℕ) → Left (cond c comment gap) ps t → Written 0 ps (blanked c t)
left_blank true ps t w = w
left_blank false ps t w = w

left_comment : (c : Bool) (ps : List Piece) (t : List ℕ) → Left (cond c gap comment) ps t → Written 0 ps (blanked (not c) t)
left_comment true ps t w = w
left_comment false ps t w = w

bounded_blank : (c : Bool) (p : Progress) → Bounded (cond c comment gap) p
bounded_blank true p = tt
bounded_blank false p = tt

bounded_comment : (c : Bool) (p : Progress) → Bounded (cond c gap comment) p
bounded_comment true p = tt
bounded_comment false p = tt

-- the piece that ends here, as the first of all
ended_back :
    (x : Lexer) (q : Piece) (p : Progress) (memory : List ℕ) (b : ℕ) (t : List ℕ) (to s : State) → Rest x q [] → take_piece (state p memory) q ≡ Some to → ends b ≡ true
    → Back (cond (eqb b 35) comment gap) to.at to.memory t s
    → (ps : List Piece) × Inside x ps (blanked false (b ∷ t)) × (run (state p memory) ps ≡ Some s)
ended_back x q p memory b t to s r e n k = (
  q ∷ k.ps,
  subst (λ z. Inside x (q ∷ k.ps) z) (sym (blanked_ends b t n)) (record {
    q = q;
    qs = k.ps;
    bs = [];
    rest = 32 ∷ blanked (eqb b 35) t;
    is = refl;
    part = r;
    cut = refl;
    after = one_more_blank (left_blank (eqb b 35) k.ps t k.left) (omega arith);
  }),
  run_one (state p memory) to q k.ps e ∙ k.on,
)

last_back :
    (x : Lexer) (q : Piece) (p : Progress) (memory : List ℕ) (s : State) → Rest x q [] → take_piece (state p memory) q ≡ Some s
    → (ps : List Piece) × Inside x ps (blanked false []) × (run (state p memory) ps ≡ Some s)
unfolding blanked all
last_back x q p memory s r e = (
  q ∷ [],
  record { q = q; qs = []; bs = []; rest = []; is = refl; part = r; cut = refl; after = end [] refl },
  run_one (state p memory) s q [] e ∙ run_none s,
)

number_took : (v : ℕ) (p : Progress) (memory : List ℕ) (s : State) → ltb v (bound p.stage p) ≡ true → settled (digits v) p memory ≡ Some s → take_piece (state p memory) (number v) ≡ Some s
number_took v p memory s h e = cond-true (ltb v (bound p.stage p)) _ None h ∙ e

pub backward : (t : List ℕ) (x : Lexer) (p : Progress) (memory : List ℕ) (s : State) → Bounded x p → Fed (machine x p memory) t s → Back x p memory t s
unfolding blanked value_from all
backward [] gap p memory s h f = record { ps = []; left = end [] refl; on = run_none (state p memory) ∙ fed_end (machine gap p memory) s f }
backward [] comment p memory s h f = record { ps = []; left = end [] refl; on = run_none (state p memory) ∙ fed_end (machine comment p memory) s f }
backward [] (digits v) p memory s h f =
    let k = last_back (digits v) (number v) p memory s (refl, refl) (number_took v p memory s h (fed_end (machine (digits v) p memory) s f)) in
    record { ps = k.0; left = k.1; on = k.2 }
backward [] (letters l) p memory s h f =
    let k = last_back (letters l) (word l) p memory s (append-nil l) (fed_end (machine (letters l) p memory) s f) in
    record { ps = k.0; left = k.1; on = k.2 }
backward (b ∷ t) gap p memory s h f =
    let o = fed_on (machine gap p memory) b t s f in
    elim (cases_Bool (ends b)) [
      | inl n ↦
          let i = over_inv gap b p memory o.0 o.1 n in
          let k = backward t (cond (eqb b 35) comment gap) p memory s (bounded_blank (eqb b 35) p)
          (subst (λ (z : State). Fed (machine (cond (eqb b 35) comment gap) z.at z.memory) t s) (sym (same_some (state p memory) i.0 i.1)) (subst (λ z. Fed z t s) (sym i.2) o.2)) in
          record { ps = k.ps; left = subst (λ z. Written 0 k.ps z) (sym (blanked_ends b t n)) (one_more_blank (left_blank (eqb b 35) k.ps t k.left) (omega arith)); on = k.on }
      | inr n ↦
          let i = on_inv gap b p memory o.0 o.1 n in
          let g : Fed (machine i.0 p memory) t s = subst (λ z. Fed z t s) (sym i.2) o.2 in
          elim (cases_Bool (digit b)) [
            | inl d ↦
                let y = digits_inv 0 b p i.0 (sym (cond-true (digit b) (more_digits 0 b p) (more_letters [] b p) d) ∙ i.1) in
                let k = backward t (digits (0 * 10 + (b - 48))) p memory s y.1 (subst (λ z. Fed (machine z p memory) t s) (sym y.2) g) in
                record { ps = k.ps; left = subst (λ z. Written 0 k.ps z) (sym (blanked_other b t n)) (wrap_digits p memory b k.ps (blanked false t) s d k.left k.on); on = k.on }
            | inr d ↦
                let y = letters_inv [] b p i.0 (sym (cond-false (digit b) (more_digits 0 b p) (more_letters [] b p) d) ∙ i.1) in
                let k = backward t (letters (b ∷ [])) p memory s tt (subst (λ z. Fed (machine z p memory) t s) (sym y) g) in
                record { ps = k.ps; left = subst (λ z. Written 0 k.ps z) (sym (blanked_other b t n)) (wrap_letters b k.ps (blanked false t) k.left); on = k.on }
          ]
    ]
backward (b ∷ t) comment p memory s h f =
    let o = fed_on (machine comment p memory) b t s f in
    let k = backward t (cond (eqb b 10) gap comment) p memory s (bounded_comment (eqb b 10) p) (subst (λ z. Fed z t s) (sym (same_some _ o.0 o.1)) o.2) in
    record { ps = k.ps; left = subst (λ z. Written 0 k.ps z) (sym (blanked_comment b t)) (one_more_blank (left_comment (eqb b 10) k.ps t k.left) (omega arith)); on = k.on }
backward (b ∷ t) (digits v) p memory s h f =
    let o = fed_on (machine (digits v) p memory) b t s f in
    elim (cases_Bool (ends b)) [
      | inl n ↦
          let i = over_inv (digits v) b p memory o.0 o.1 n in
          let k = backward t (cond (eqb b 35) comment gap) i.0.at i.0.memory s (bounded_blank (eqb b 35) i.0.at) (subst (λ z. Fed z t s) (sym i.2) o.2) in
          let j = ended_back (digits v) (number v) p memory b t i.0 s (refl, refl) (number_took v p memory i.0 h i.1) n k in
          record { ps = j.0; left = j.1; on = j.2 }
      | inr n ↦
          let i = on_inv (digits v) b p memory o.0 o.1 n in
          let y = digits_inv v b p i.0 i.1 in
          let k = backward t (digits (v * 10 + (b - 48))) p memory s y.1 (subst (λ z. Fed (machine z p memory) t s) (sym y.2) (subst (λ z. Fed z t s) (sym i.2) o.2)) in
          record { ps = k.ps; left = subst (λ z. Inside (digits v) k.ps z) (sym (blanked_other b t n)) (digits_back v b k.ps (blanked false t) y.0 k.left); on = k.on }
    ]
backward (b ∷ t) (letters l) p memory s h f =
    let o = fed_on (machine (letters l) p memory) b t s f in
    elim (cases_Bool (ends b)) [
      | inl n ↦
          let i = over_inv (letters l) b p memory o.0 o.1 n in
          let k = backward t (cond (eqb b 35) comment gap) i.0.at i.0.memory s (bounded_blank (eqb b 35) i.0.at) (subst (λ z. Fed z t s) (sym i.2) o.2) in
          let j = ended_back (letters l) (word l) p memory b t i.0 s (append-nil l) i.1 n k in
          record { ps = j.0; left = j.1; on = j.2 }
      | inr n ↦
          let i = on_inv (letters l) b p memory o.0 o.1 n in
          let y = letters_inv l b p i.0 i.1 in
          let k = backward t (letters (l ++ (b ∷ []))) p memory s tt (subst (λ z. Fed (machine z p memory) t s) (sym y) (subst (λ z. Fed z t s) (sym i.2) o.2)) in
          record { ps = k.ps; left = subst (λ z. Inside (letters l) k.ps z) (sym (blanked_other b t n)) (letters_back l b k.ps (blanked false t) k.left); on = k.on }
    ]
