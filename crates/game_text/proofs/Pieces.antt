-- Pieces written in a text, from byte to byte.
use Rattle.std.proofs.Common.{◌≡◌, ℕ, ◌≤◌, Bool, true, false, cond, not, ◌||◌, eqb, List, [], ◌∷◌, ◌++◌, sym, refl, ap, ◌∙◌, subst, arith}
use Rattle.std.proofs.lemmas.Bool.{and_parts, and_from, both_ways, not-true, or_parts}
use Rattle.std.proofs.lemmas.Bool.Decides.{nat_tests}
use Rattle.text.specs.Grammar.{Piece, word, number, blank, digit, all, Spells, Written, end, piece}
use Rattle.game_text.specs.Text.{white, blanked}
use Rattle.game_text.specs.Machine.{ends}
use Rattle.game_text.proofs.Spelled.{plain}

pub clash : {A : Type 0} (b : Bool) → b ≡ true → b ≡ false → A
clash b t f = absurd (both_ways b f t)

-- a text as the grammar sees it, one byte more
pub blanked_ends : (b : ℕ) (t : List ℕ) → ends b ≡ true → blanked false (b ∷ t) ≡ 32 ∷ blanked (eqb b 35) t
unfolding blanked
blanked_ends b t e = go (eqb b 35) (white b) e
  where
    go : (h w : Bool) → (w || h) ≡ true → cond h (32 ∷ blanked true t) (cond w 32 b ∷ blanked false t) ≡ 32 ∷ blanked h t
    go true w e = refl
    go false true e = refl
    go false false e = clash false e refl

pub blanked_other : (b : ℕ) (t : List ℕ) → ends b ≡ false → blanked false (b ∷ t) ≡ b ∷ blanked false t
unfolding blanked
blanked_other b t e =
    let f = or_parts (white b) (eqb b 35) e in
    (λ i. cond (f.1 i) (32 ∷ blanked true t) (cond (f.0 i) 32 b ∷ blanked false t))

pub blanked_comment : (b : ℕ) (t : List ℕ) → blanked true (b ∷ t) ≡ 32 ∷ blanked (not (eqb b 10)) t
unfolding blanked
blanked_comment b t = go (eqb b 10) (white b) (λ e. white_end b e)
  where
    white_end : (b : ℕ) → eqb b 10 ≡ true → white b ≡ true
    white_end b e = grind (arith, nat_tests)

    go : (h w : Bool) → (h ≡ true → w ≡ true) → cond (not h) (32 ∷ blanked true t) (cond w 32 b ∷ blanked false t) ≡ 32 ∷ blanked (not h) t
    go true w e = ap (λ x. cond x 32 b ∷ blanked false t) (e refl)
    go false w e = refl

pub ends_blank : (b : ℕ) → ends b ≡ false → blank b ≡ false
ends_blank b e = (or_parts (blank b) (eqb b 10 || eqb b 13) (or_parts (white b) (eqb b 35) e).0).0

pub digit_ends : (b : ℕ) → digit b ≡ true → ends b ≡ false
digit_ends b e = grind (arith, nat_tests)

-- a piece whose letters end nothing
abbrev pub Solid : Piece → Type 0
Solid (word w) = plain w ≡ true
Solid (number n) = Unit {0}

pub digits_solid : (bs : List ℕ) → all digit bs ≡ true → all (λ x. not (ends x)) bs ≡ true
unfolding all
digits_solid [] h = refl
digits_solid (b ∷ bs) h =
    let f = and_parts (digit b) (all digit bs) h in
    and_from (not (ends b)) (all (λ x. not (ends x)) bs) (ap not (digit_ends b f.0)) (digits_solid bs f.1)

-- it begins with the byte that the text begins with
pub spelled_head :
    (q : Piece) (bs rest : List ℕ) (b : ℕ) (xs : List ℕ) → Solid q → Spells q bs → bs ++ rest ≡ b ∷ xs
    → (more : List ℕ) × (bs ≡ b ∷ more) × (xs ≡ more ++ rest) × (ends b ≡ false)
unfolding all
spelled_head (word w) [] rest b xs h s e = clash (plain w) h (ap plain (sym s))
spelled_head (word w) (x ∷ bs) rest b xs h s e =
    let same : x ≡ b = cc in
    let left : bs ++ rest ≡ xs = cc in
    let f = and_parts (not (digit x)) (all (λ y. not (ends y)) (x ∷ bs)) (ap plain s ∙ h) in
    let g = and_parts (not (ends x)) (all (λ y. not (ends y)) bs) f.1 in
    (bs, ap (λ y. y ∷ bs) same, sym left, ap ends (sym same) ∙ not-true (ends x) g.0)
spelled_head (number n) [] rest b xs h s e = absurd (omega (arith, s.0))
spelled_head (number n) (x ∷ bs) rest b xs h s e =
    let same : x ≡ b = cc in
    let left : bs ++ rest ≡ xs = cc in
    (bs, ap (λ y. y ∷ bs) same, sym left, ap ends (sym same) ∙ digit_ends x (and_parts (digit x) (all digit bs) s.1).0)

spelled_some : (q : Piece) (bs rest : List ℕ) → Solid q → Spells q bs → bs ++ rest ≡ [] → ⊥
spelled_some (word w) [] rest h s e = clash (plain w) h (ap plain (sym s))
spelled_some (number n) [] rest h s e = omega (arith, s.0)
spelled_some (word w) (b ∷ bs) rest h s e = let z : ◌≡◌ {A = ℕ} 0 1 = cc in omega arith
spelled_some (number n) (b ∷ bs) rest h s e = let z : ◌≡◌ {A = ℕ} 0 1 = cc in omega arith

abbrev pub BeginsSolid : List Piece → Type 0
BeginsSolid [] = Unit {0}
BeginsSolid (q ∷ qs) = Solid q

-- white space in front
pub one_more_blank : {least : ℕ} {ps : List Piece} {xs : List ℕ} → Written 0 ps xs → least ≤ 1 → Written least ps (32 ∷ xs)
unfolding all
one_more_blank (end bs h) l = end (32 ∷ bs) h
one_more_blank (piece gap bs rest n g s w) l = piece (32 ∷ gap) bs rest (omega arith) g s w

pub one_blank_less : {least : ℕ} {ps : List Piece} {ys : List ℕ} → Written least ps ys → (xs : List ℕ) → ys ≡ 32 ∷ xs → BeginsSolid ps → Written 0 ps xs
unfolding all
one_blank_less (end bs h) xs e s = end xs (and_parts true (all blank xs) (sym (ap (all blank) e) ∙ h)).1
one_blank_less (piece {p = q} [] bs rest n g s w) xs e h = clash (ends 32) refl (spelled_head q bs rest 32 xs h s e).3
one_blank_less (piece {p = q} {ps = qs} (b ∷ gap) bs rest n g s w) xs e h =
    let left : gap ++ (bs ++ rest) ≡ xs = cc in
    subst (λ ys. Written 0 (q ∷ qs) ys) left (piece gap bs rest (omega arith) (and_parts (blank b) (all blank gap) g).1 s w)

-- the first piece begins here
pub record Opened (ps : List Piece) (b : ℕ) (xs : List ℕ) : Type 0 where
  pub q : Piece
  pub qs : List Piece
  pub more : List ℕ
  pub rest : List ℕ
  pub is : ps ≡ q ∷ qs
  pub spelled : Spells q (b ∷ more)
  pub cut : xs ≡ more ++ rest
  pub after : Written 1 qs rest

pub opened : {ps : List Piece} {ys : List ℕ} → Written 0 ps ys → (b : ℕ) (xs : List ℕ) → ys ≡ b ∷ xs → blank b ≡ false → BeginsSolid ps → Opened ps b xs
unfolding all
opened (end bs h) b xs e f s = clash (blank b) (and_parts (blank b) (all blank xs) (sym (ap (all blank) e) ∙ h)).0 f
opened (piece {p = q} {ps = qs} [] bs rest n g s w) b xs e f h =
    let d = spelled_head q bs rest b xs h s e in
    record { q = q; qs = qs; more = d.0; rest = rest; is = refl; spelled = subst (λ y. Spells q y) d.1 s; cut = d.2; after = w }
opened (piece (x ∷ gap) bs rest n g s w) b xs e f h =
    let same : x ≡ b = cc in clash (blank b) (ap blank (sym same) ∙ (and_parts (blank x) (all blank gap) g).0) f

-- behind a piece comes white space
pub then_blank : {qs : List Piece} {ys : List ℕ} → Written 1 qs ys → (b : ℕ) (xs : List ℕ) → ys ≡ b ∷ xs → blank b ≡ true
unfolding all
then_blank (end bs h) b xs e = (and_parts (blank b) (all blank xs) (sym (ap (all blank) e) ∙ h)).0
then_blank (piece [] bs rest n g s w) b xs e = absurd (omega arith)
then_blank (piece (x ∷ gap) bs rest n g s w) b xs e = let same : x ≡ b = cc in ap blank (sym same) ∙ (and_parts (blank x) (all blank gap) g).0

-- or the end
pub none_then : {qs : List Piece} {ys : List ℕ} → Written 1 qs ys → ys ≡ [] → qs ≡ []
none_then (end bs h) e = refl
none_then (piece [] bs rest n g s w) e = absurd (omega arith)
none_then (piece (x ∷ gap) bs rest n g s w) e = let z : ◌≡◌ {A = ℕ} 0 1 = cc in absurd (omega arith)

pub none_written : {ps : List Piece} {ys : List ℕ} → Written 0 ps ys → ys ≡ [] → BeginsSolid ps → ps ≡ []
none_written (end bs h) e s = refl
none_written (piece {p = q} [] bs rest n g s w) e h = absurd (spelled_some q bs rest h s e)
none_written (piece (x ∷ gap) bs rest n g s w) e h = let z : ◌≡◌ {A = ℕ} 0 1 = cc in absurd (omega arith)
