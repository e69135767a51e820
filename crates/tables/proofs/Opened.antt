-- What is asked for an opening, and what it leaves.
use Rattle.std.proofs.Common.{◌≡◌, ℕ, ◌+◌, ◌*◌, ◌<◌, ◌≤◌, true, false, ◌&&◌, leb, List, [], ◌∷◌, length, Some, None, sym, ap, subst, arith}
use borrow.Rule.Slice.PartMut.{put_mid}
use Rattle.std.proofs.lemmas.Bool.{and_parts, and_from, and_left, and_right, cond-true, cond-false, le-leb, lt-leb}
use Rattle.std.proofs.lemmas.Nat.{mul-le}
use Rattle.rules.specs.declared.Limits.{Limits}
use Rattle.rules.specs.Bounds.{good_limits}
use Rattle.wire.specs.declared.games.GameSize.{GameSize}
use Rattle.tables.specs.declared.plan.Sizes.{Sizes}
use Rattle.tables.specs.Layout.{mark, good_size, sizes_of}
use Rattle.tables.specs.Changes.{opened_in}
use Rattle.tables.specs.Acting.{sizes_for, opening}
use Rattle.tables.proofs.Choosing.{chosen, not_chosen}
use Rattle.tables.proofs.Bounded.{Few, few, Small, small}

pub many : (l : Limits) (z : GameSize) → false ≡ good_limits l → None ≡ sizes_for l z
unfolding sizes_for
many l z e = sym (cond-false _ _ _ (and_left (good_limits l) (good_size z) (sym e)))

pub large : (l : Limits) (z : GameSize) → false ≡ good_size z → None ≡ sizes_for l z
unfolding sizes_for
large l z e = sym (cond-false _ _ _ (and_right (good_limits l) (good_size z) (sym e)))

pub both_good : (l : Limits) (z : GameSize) → true ≡ good_limits l → true ≡ good_size z → Some (sizes_of l z) ≡ sizes_for l z
unfolding sizes_for
both_good l z e h = sym (cond-true _ _ _ (and_from (good_limits l) (good_size z) (sym e) (sym h)))

-- no sum or product of an opening is too large
pub record Fitting (l : Limits) (z : GameSize) : Type 0 where
  pub records : l.tables * (z.cells + 9) ≤ 1024 * 265
  pub layers : 2 * l.positions * (z.cells + 16) ≤ 16384 * 272
  pub few : Few l
  pub small : Small z

pub fitting : (l : Limits) (z : GameSize) → true ≡ good_limits l → true ≡ good_size z → Fitting l z
fitting l z e h =
    let a = few l (sym e) in
    let b = small z (sym h) in
    record {
      records = mul-le l.tables (z.cells + 9) 1024 265 a.tables (omega arith);
      layers = mul-le (2 * l.positions) (z.cells + 16) 16384 272 (omega arith) (omega arith);
      few = a;
      small = b;
    }

-- what an opening asked for says of limits and size
pub record Asked (l : Limits) (z : GameSize) (q : Sizes) : Type 0 where
  pub limits : good_limits l ≡ true
  pub size : good_size z ≡ true
  pub is : q ≡ sizes_of l z

pub asked : (l : Limits) (z : GameSize) (q : Sizes) → Some q ≡ sizes_for l z → Asked l z q
unfolding sizes_for
asked l z q e =
    let p = chosen (good_limits l && good_size z) (sizes_of l z) q e in
    let b = and_parts (good_limits l) (good_size z) p.0 in
    record { limits = b.0; size = b.1; is = p.1 }

pub not_opened : (l : Limits) (z : GameSize) (w : List ℕ) → None ≡ sizes_for l z → opening l z w ≡ (w, false)
unfolding sizes_for opening
not_opened l z w e =
    cond-false _ _ _ (and_left (good_limits l && good_size z) (leb (sizes_of l z).state (length w)) (not_chosen (good_limits l && good_size z) (sizes_of l z) e))

pub too_short : (l : Limits) (z : GameSize) (w : List ℕ) (q : Sizes) → Some q ≡ sizes_for l z → length w < q.state → opening l z w ≡ (w, false)
unfolding opening
too_short l z w q e h =
    let a = asked l z q e in
    let less : length w < (sizes_of l z).state = subst (λ x. length w < x.state) a.is h in
    cond-false _ _ _ (and_right (good_limits l && good_size z) (leb (sizes_of l z).state (length w)) (lt-leb _ _ less))

pub opens : (l : Limits) (z : GameSize) (w : List ℕ) (q : Sizes) → Some q ≡ sizes_for l z → q.state ≤ length w → opening l z w ≡ (opened_in w l z, true)
unfolding opening
opens l z w q e h =
    let a = asked l z q e in
    let enough : (sizes_of l z).state ≤ length w = subst (λ x. x.state ≤ length w) a.is h in
    cond-true _ _ _ (and_from (good_limits l && good_size z) (leb (sizes_of l z).state (length w)) (and_from _ _ a.limits a.size) (le-leb _ _ enough))

-- the sizes fit the header's words, and the header fits memory
pub record WordsFit (q : Sizes) : Type 0 where
  pub rules : q.rules < 4294967296
  pub scratch : q.scratch < 4294967296
  pub answer : q.answer < 4294967296
  pub header : 16 ≤ q.state

pub words_fit : (l : Limits) (z : GameSize) (q : Sizes) → Some q ≡ sizes_for l z → WordsFit q
words_fit l z q e =
    let a = asked l z q e in
    let f = fitting l z (sym a.limits) (sym a.size) in
    subst WordsFit (sym a.is) (record { rules = omega arith; scratch = omega arith; answer = omega arith; header = omega arith })

-- the header as the code writes it
pub header_written :
    (l : Limits) (z : GameSize) (w : List ℕ) (q : Sizes) → Some q ≡ sizes_for l z
    → put_mid 0 16 w (mark ∷ l.tables ∷ l.moves ∷ l.positions ∷ z.cells ∷ z.players ∷ q.rules ∷ q.scratch ∷ q.answer
    ∷ 0 ∷ 0 ∷ 0 ∷ 0 ∷ 0 ∷ 0 ∷ 0 ∷ [])
    ≡ opened_in w l z
unfolding opened_in
header_written l z w q e =
    let a = asked l z q e in
    ap (λ (x : Sizes). put_mid 0 16 w (mark ∷ l.tables ∷ l.moves ∷ l.positions ∷ z.cells ∷ z.players ∷ x.rules ∷ x.scratch ∷ x.answer
    ∷ 0 ∷ 0 ∷ 0 ∷ 0 ∷ 0 ∷ 0 ∷ 0 ∷ [])) a.is
