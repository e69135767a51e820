-- The first bytes of an expression.
use Rattle.std.proofs.Common.{◌≡◌, ℕ, zero, suc, ◌+◌, ◌-◌, ◌<◌, ◌≤◌, Bool, true, false, cond, ◌&&◌, ltb, List, [], ◌∷◌, length, get_or, drop, sym, refl, ap, ◌∙◌, subst, arith}
use Rattle.std.proofs.lemmas.Bool.{and_parts, and_from, cond-true, cond-false, lt-ltb, le-ltb, ltb-true}
use Rattle.rules.specs.Rules.{Expr, Num}
use Rattle.rules.specs.Bounds.{fits_depth, expr_parts, all_below}
use Rattle.wire.specs.declared.kinds.ExprKind.{ExprKind}
use Rattle.wire.specs.declared.kinds.ExprKind.TheVariants as kind
use Rattle.wire.specs.Numbers.{bytes_value}
use Rattle.wire.specs.Exprs.{Parsed, got, unreadable, and_then, Kind, alone, kind_after, join, read_exprs}
use Rattle.wire.specs.Kinds.{kind_number}
use Rattle.wire.specs.GamesWalk.{as_read, read_head, arity_of, exprs_parts, within_levels}
use Rattle.wire.proofs.Exprs.{joined}
use Rattle.wire.proofs.ExprsBack.{not_got, same_got, cond_got}
use Rattle.wire.proofs.ExprsKinds.{lawful}
use Rattle.wire.proofs.ExprsNumbers.{value_below}

-- from what was made of what was read to what was read
pub none_read : {A B : Type 0} (f : A → B) (p : Parsed A) → unreadable ≡ as_read f p → p ≡ unreadable
none_read f (got a r) h = absurd (not_got (f a) r h)
none_read f unreadable h = refl

pub was_read : {A B : Type 0} (f : A → B) (p : Parsed A) (b : B) (r : List ℕ) → got b r ≡ as_read f p → (a : A) × (p ≡ got a r) × (b ≡ f a)
was_read f (got a q) b r h = let e = same_got b (f a) r q h in (a, ap (got a) (sym e.1), e.0)
was_read f unreadable b r h = absurd (not_got b r (sym h))

-- an expression is its head, and then its parts
pub by_head : (m : ℕ) (bs : List ℕ) → read_exprs (suc m) bs ≡ and_then (read_head bs) (λ k r. joined k (read_exprs (k.arity + m) r))
unfolding read_exprs read_head join
by_head m [] = refl
by_head m (zero ∷ []) = refl
by_head m (zero ∷ x ∷ []) = refl
by_head m (zero ∷ x ∷ y ∷ bs) =
    let none : m ≡ 0 + m = omega arith in
    ap (λ n. and_then (read_exprs n bs) (λ es r. got (Num (bytes_value (x ∷ y ∷ [])) ∷ es) r)) none
by_head m (suc b ∷ bs) = go (ltb b 12)
  where
    go : (t : Bool) → cond t (joined (kind_after b) (read_exprs ((kind_after b).arity + m) bs)) unreadable
        ≡ and_then (cond t (got (kind_after b) bs) unreadable) (λ k r. joined k (read_exprs (k.arity + m) r))
    go true = refl
    go false = refl

pub no_head : (bs : List ℕ) → length bs ≡ 0 → unreadable ≡ as_read arity_of (read_head bs)
unfolding read_head
no_head [] h = refl
no_head (b ∷ bs) h = absurd (omega arith)

pub unknown_head : (bs : List ℕ) → 12 < get_or bs 0 0 → unreadable ≡ as_read arity_of (read_head bs)
unfolding read_head
unknown_head [] h = absurd (omega arith)
unknown_head (zero ∷ bs) h = absurd (omega arith)
unknown_head (suc b ∷ bs) h = ap (as_read arity_of) (sym (cond-false (ltb b 12) _ _ (le-ltb b 12 (omega arith))))

number_low : (k : ExprKind) → kind_number k ≤ 12
number_low kind.Num = omega arith
number_low kind.Cell = omega arith
number_low kind.First = omega arith
number_low kind.Second = omega arith
number_low kind.Me = omega arith
number_low kind.Add = omega arith
number_low kind.Sub = omega arith
number_low kind.Mul = omega arith
number_low kind.Div = omega arith
number_low kind.Rem = omega arith
number_low kind.Lt = omega arith
number_low kind.Eq = omega arith
number_low kind.If = omega arith

-- the kind k in the first byte, and the w bytes that come before its parts
module _ (bs : List ℕ) (k : ExprKind) (w : ℕ) (is : kind_number k ≡ get_or bs 0 0) (some : 0 < length bs) (three : kind_number k ≡ 0 → w ≡ 3) (one : 1 ≤ kind_number k → w ≡ 1) where
  pub short_head : length bs < w → unreadable ≡ as_read arity_of (read_head bs)
  unfolding read_head
  short_head h = go bs is some h
    where
      go : (bs : List ℕ) → kind_number k ≡ get_or bs 0 0 → 0 < length bs → length bs < w → unreadable ≡ as_read arity_of (read_head bs)
      go [] is some h = absurd (omega arith)
      go (zero ∷ []) is some h = refl
      go (zero ∷ x ∷ []) is some h = refl
      go (zero ∷ x ∷ y ∷ bs) is some h = let t = three is in absurd (omega arith)
      go (suc b ∷ bs) is some h = let o = one (omega arith) in absurd (omega arith)

  pub head_there :
      (n : ℕ) → (1 ≤ kind_number k → n ≡ (kind_after (kind_number k - 1)).arity) → (kind_number k ≡ 0 → n ≡ 0) → w ≤ length bs
      → got n (drop w bs) ≡ as_read arity_of (read_head bs)
  unfolding read_head
  head_there n parts none long = go bs is some long
    where
      go : (bs : List ℕ) → kind_number k ≡ get_or bs 0 0 → 0 < length bs → w ≤ length bs → got n (drop w bs) ≡ as_read arity_of (read_head bs)
      go [] is some long = absurd (omega arith)
      go (zero ∷ []) is some long = let t = three is in absurd (omega arith)
      go (zero ∷ x ∷ []) is some long = let t = three is in absurd (omega arith)
      go (zero ∷ x ∷ y ∷ bs) is some long = λ i. got (none is i) (drop (three is i) (zero ∷ x ∷ y ∷ bs))
      go (suc b ∷ bs) is some long =
          let before : kind_number k - 1 ≡ b = omega arith in
          let arity : n ≡ (kind_after b).arity = parts (omega arith) ∙ ap (λ j. (kind_after j).arity) before in
          (λ i. got (arity i) (drop (one (omega arith) i) (suc b ∷ bs)))
          ∙ ap (as_read arity_of) (sym (cond-true (ltb b 12) _ _ (lt-ltb b 12 (omega (arith, number_low k)))))

-- how many parts an expression has, and how deep it is, comes from its parts
abbrev pub PartsLaw : Kind → Type 0
PartsLaw k = (es : List Expr) → length es ≡ k.arity → expr_parts (k.make es) ≡ suc (exprs_parts es)

abbrev pub LevelsLaw : Kind → Type 0
LevelsLaw k = (es : List Expr) → length es ≡ k.arity → (l : ℕ) → fits_depth (k.make es) l ≡ within_levels l es

number_parts : (v : ℕ) → PartsLaw (alone (Num v))
unfolding exprs_parts expr_parts
number_parts v [] h = refl
number_parts v (e ∷ es) h = absurd (omega arith)

number_levels : (v : ℕ) → v < 65536 → LevelsLaw (alone (Num v))
unfolding within_levels fits_depth
number_levels v low [] h l = lt-ltb v 65536 low
number_levels v low (e ∷ es) h l = absurd (omega arith)

pub head_parts : (bs : List ℕ) (k : Kind) (r : List ℕ) → read_head bs ≡ got k r → PartsLaw k
unfolding read_head
head_parts [] k r h = absurd (not_got k r h)
head_parts (zero ∷ []) k r h = absurd (not_got k r h)
head_parts (zero ∷ x ∷ []) k r h = absurd (not_got k r h)
head_parts (zero ∷ x ∷ y ∷ bs) k r h =
    let v : ℕ = bytes_value (x ∷ y ∷ []) in
    subst PartsLaw (same_got (alone (Num v)) k bs r h).0 (number_parts v)
head_parts (suc b ∷ bs) k r h =
    let g = cond_got (ltb b 12) (got (kind_after b) bs) k r h in
    subst PartsLaw (same_got (kind_after b) k bs r g.1).0 (λ es e. (lawful b (ltb-true b 12 g.0) es e).parts)

pub head_levels : (bs : List ℕ) (k : Kind) (r : List ℕ) → all_below 256 bs ≡ true → read_head bs ≡ got k r → LevelsLaw k × (all_below 256 r ≡ true)
unfolding read_head all_below
head_levels [] k r small h = absurd (not_got k r h)
head_levels (zero ∷ []) k r small h = absurd (not_got k r h)
head_levels (zero ∷ x ∷ []) k r small h = absurd (not_got k r h)
head_levels (zero ∷ x ∷ y ∷ bs) k r small h =
    let v : ℕ = bytes_value (x ∷ y ∷ []) in
    let a = and_parts (ltb x 256) (ltb y 256 && all_below 256 bs) small in
    let b = and_parts (ltb y 256) (all_below 256 bs) a.1 in
    let both : all_below 256 (x ∷ y ∷ []) ≡ true = and_from _ _ a.0 (and_from _ _ b.0 refl) in
    let e = same_got (alone (Num v)) k bs r h in
    (subst LevelsLaw e.0 (number_levels v (value_below (x ∷ y ∷ []) both)), ap (all_below 256) (sym e.1) ∙ b.1)
head_levels (suc b ∷ bs) k r small h =
    let g = cond_got (ltb b 12) (got (kind_after b) bs) k r h in
    let e = same_got (kind_after b) k bs r g.1 in (
      subst LevelsLaw e.0 (λ es i. (lawful b (ltb-true b 12 g.0) es i).levels),
      ap (all_below 256) (sym e.1) ∙ (and_parts (ltb (suc b) 256) (all_below 256 bs) small).1,
    )

-- an expression whose head can't be read
pub no_expression : (bs : List ℕ) (m : ℕ) → unreadable ≡ as_read arity_of (read_head bs) → read_exprs (suc m) bs ≡ unreadable
no_expression bs m h = by_head m bs ∙ ap (λ p. and_then p (λ k r. joined k (read_exprs (k.arity + m) r))) (none_read arity_of (read_head bs) h)

-- and one of which n parts are still to come
pub by_parts :
    (bs : List ℕ) (n : ℕ) (r : List ℕ) → got n r ≡ as_read arity_of (read_head bs)
    → (k : Kind) × (read_head bs ≡ got k r) × (n ≡ k.arity) × ((m : ℕ) → read_exprs (suc m) bs ≡ joined k (read_exprs (n + m) r))
by_parts bs n r h =
    let x = was_read arity_of (read_head bs) n r h in (
      x.0,
      x.1,
      x.2,
      λ m.
          by_head m bs ∙ ap (λ p. and_then p (λ k r. joined k (read_exprs (k.arity + m) r))) x.1
          ∙ ap (λ a. joined x.0 (read_exprs (a + m) r)) (sym x.2),
    )
