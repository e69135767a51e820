-- Loading an expression: its parts one after the other, and then its row.
use Rattle.std.proofs.Common.{◌≡◌, ℕ, zero, suc, ◌+◌, ◌-◌, ◌*◌, ◌<◌, ◌≤◌, Bool, true, List, [], ◌∷◌, ◌++◌, length, get_or, drop, set, Ok, Err, Result, sym, refl, ap, ◌∙◌, subst, ⊎_elim, arith}
use Rattle.std.proofs.lemmas.Bool.{cases_eq, cond-true, cond-false, lt-ltb, le-ltb}
use Rattle.std.proofs.lemmas.List.{take_all, drop_all, drop_more, drop-drop, length-drop, get_or_push, get_or_append_left, get_or-set_same, get_or-set_other}
use Rattle.rules.specs.Rules.{Expr, Num}
use Rattle.rules.specs.Bounds.{fits_depth, expr_parts}
use Rattle.wire.specs.Numbers.{bytes_value}
use Rattle.wire.specs.Kinds.{kind_number}
use Rattle.wire.specs.declared.kinds.ExprKind.{ExprKind}
use Rattle.wire.specs.declared.kinds.ExprKind.TheVariants as kind
use Rattle.wire.specs.Exprs.{Parsed, got, unreadable, and_then, kind_after, join, read_exprs}
use Rattle.wire.specs.GamesWalk.{exprs_parts, within_levels, word_at}
use Rattle.wire.proofs.Exprs.{joined}
use Rattle.wire.proofs.ExprsKinds.{lawful}
use Rattle.wire.proofs.ExprsBack.{then_got, not_got, same_got, sized, glue, reads_in_turns}
use Rattle.eval.specs.Memory.{row_of, row_at, expr_of, expr_within}
use Rattle.eval.specs.declared.Loaded.{Loaded}
use Rattle.eval.specs.declared.LoadError.{LoadError}
use Rattle.eval.specs.declared.LoadError.TheVariants.{Unreadable, TooDeep, Full}
use Rattle.eval.specs.Load.{SameBetween, Stands, Loads, fits_levels, LoadsWithin, Written, Ended}
use Rattle.eval.proofs.Rows.{row_means, row_stays, parts_append, parts_one, parts_none, levels_push, levels_passed}

same_one : (e f : Expr) (q r : List ℕ) → got (e ∷ []) q ≡ got (f ∷ []) r → e ≡ f
same_one e f q r h = cc

-- the last row of an expression was written, or there was no room for it
pub finish :
    (fits : Expr → Bool) (means : List ℕ → ℕ → Expr) (bs : List ℕ) (at : ℕ) (xs ys zs : List ℕ) (i k : ℕ) (os : List ℕ) (used : ℕ) (e : Expr)
    (r : Result Loaded LoadError)
    → read_exprs 1 bs ≡ got (e ∷ []) (drop used bs) → used ≤ length bs → fits e ≡ true → i + 4 ≡ at + 4 * expr_parts e → at ≤ i
    → ((j : ℕ) → j < at → get_or ys j 0 ≡ get_or xs j 0) → ((j : ℕ) → i ≤ j → get_or ys j 0 ≡ get_or xs j 0)
    → (Written i k os ys zs → (ws : List ℕ) → SameBetween at (i + 4) ws zs → row_at ws i ≡ row_of k (get_or os 0 0) (get_or os 1 0) (get_or os 2 0)
    → means ws i ≡ e)
    → Ended i k os used ys zs r → Loads fits means bs at xs zs r
finish fits means bs at xs ys zs i k os used e (Ok l) rd w ft en le lo hi is m =
    let row = m.2 in
    record {
      outcome = (
        e,
        record {
          read = rd ∙ ap (λ n. got (e ∷ []) (drop n bs)) (sym m.0);
          within = omega (arith, m.0);
          fit = ft;
          ends = omega (arith, m.1);
          inside = omega (arith, m.1, row.room);
          small = omega (arith, m.1, row.number);
          after = λ j h. row.above j (omega (arith, m.1)) ∙ hi j (omega (arith, m.1));
          stays = λ ws same. let there : SameBetween at (i + 4) ws zs = λ j p q. same j p (omega (arith, m.1)) in
              ap (means ws) m.1 ∙ is row ws there (row_stays at i k os zs ws row.row le there);
        },
      );
      before = λ j h. row.below j (omega arith) ∙ lo j h;
    }
finish fits means bs at xs ys zs i k os used e (Err x) rd w ft en le lo hi is m =
    let refused : Loads fits means bs at xs zs (Err Full) = record {
      outcome = λ f q g. let size : expr_parts e ≡ expr_parts f = ap expr_parts (same_one e f (drop used bs) q (sym rd ∙ g)) in omega (arith, m.1);
      before = λ j h. ap (λ l. get_or l j 0) m.2 ∙ lo j h;
    } in
    subst (λ y. Loads fits means bs at xs zs (Err y)) (sym m.0) refused

-- n parts have been read, which take the bytes from 1 up to `used` and the words from `at` up to `next`
pub record Parts (bs xs : List ℕ) (l at n used next : ℕ) (places ys : List ℕ) (es : List Expr) : Type 0 where
  pub read : read_exprs n (drop 1 bs) ≡ got es (drop used bs)
  pub within : used ≤ length bs
  pub fit : within_levels l es ≡ true
  pub ends : next ≡ at + 4 * exprs_parts es
  pub before : (k : ℕ) → k < at → get_or ys k 0 ≡ get_or xs k 0
  pub after : (k : ℕ) → next ≤ k → get_or ys k 0 ≡ get_or xs k 0
  pub stays : (zs : List ℕ) → SameBetween at next zs ys → (j : ℕ) → j < n → expr_within l zs (get_or places j 0) ≡ get_or es j (Num 0)

pub no_parts : (bs xs : List ℕ) (l at : ℕ) (places : List ℕ) → 0 < length bs → Parts bs xs l at 0 1 at places xs []
unfolding read_exprs within_levels exprs_parts
no_parts bs xs l at places some = record {
  read = refl;
  within = omega arith;
  fit = refl;
  ends = omega arith;
  before = λ k h. refl;
  after = λ k h. refl;
  stays = λ zs same j h. absurd (omega arith);
}

-- a part was loaded from the bytes that are left, and its place noted
pub next_part :
    (bs xs : List ℕ) (l at n used next : ℕ) (places ys : List ℕ) (es : List Expr) → Parts bs xs l at n used next places ys es → n < length places
    → (qs zs : List ℕ) (more root : ℕ) (e : Expr) → qs ≡ drop used bs → ((k : ℕ) → k < next → get_or zs k 0 ≡ get_or ys k 0)
    → Stands (fits_levels l) (expr_within l) qs next ys zs more root e
    → Parts bs xs l at (n + 1) (used + more) (root + 4) (set places n root) zs (es ++ e ∷ [])
next_part bs xs l at n used next places ys es ps room qs zs more root e left lo s =
    let many = (sized n (drop 1 bs) es (drop used bs) ps.read).0 in
    let size : exprs_parts (es ++ e ∷ []) ≡ exprs_parts es + expr_parts e = omega (arith, parts_append es (e ∷ []), parts_one e [], parts_none) in
    let one : read_exprs 1 (drop used bs) ≡ got (e ∷ []) (drop (used + more) bs) =
    ap (read_exprs 1) (sym left) ∙ s.read ∙ ap (got (e ∷ [])) (ap (drop more) left ∙ drop-drop more used bs) in
    let long : length qs ≡ length bs - used = ap length left ∙ length-drop used bs in
    record {
      read = reads_in_turns n 1 (drop 1 bs) ∙ ap (λ p. glue p 1) ps.read ∙ ap (λ p. and_then p (λ fs q. got (es ++ fs) q)) one;
      within = omega (arith, s.within, ps.within);
      fit = levels_push l es e ps.fit s.fit;
      ends = omega (arith, s.ends, ps.ends);
      before = λ k h. lo k (omega (arith, ps.ends)) ∙ ps.before k h;
      after = λ k h. s.after k h ∙ ps.after k (omega (arith, s.ends));
      stays = λ ws same j h. ⊎_elim
          (λ (is : j ≡ n).
          ap (expr_within l ws) (ap (λ i. get_or (set places n root) i 0) is ∙ get_or-set_same places n root 0 room)
          ∙ s.stays ws (λ k p q. same k (omega (arith, ps.ends)) q) ∙ sym (get_or_push es e (Num 0) j (many ∙ sym is)))
          (λ (not : j ≡ n → ⊥).
          ap (expr_within l ws) (get_or-set_other places n j root 0 not)
          ∙ ps.stays ws (λ k p q. same k p (omega (arith, s.ends)) ∙ lo k q) j (omega arith)
          ∙ sym (get_or_append_left es (e ∷ []) (Num 0) j (omega arith)))
          (cases_eq j n);
    }

-- an expression begins here, of the kind after k
module _ (bs : List ℕ) (k : ℕ) (some : 0 < length bs) (is : get_or bs 0 0 ≡ suc k) (known : k < 12) where
  whole : read_exprs 1 bs ≡ joined (kind_after k) (read_exprs (kind_after k).arity (drop 1 bs))
  unfolding read_exprs
  whole =
      let no_more : (kind_after k).arity + 0 ≡ (kind_after k).arity = omega arith in
      ap (read_exprs 1) (drop_more bs 0 0 some ∙ ap (λ b. b ∷ drop 1 bs) is) ∙ cond-true _ _ _ (lt-ltb k 12 known)
      ∙ ap (λ n. joined (kind_after k) (read_exprs n (drop 1 bs))) no_more

  join_all : (es : List Expr) → length es ≡ (kind_after k).arity → join (kind_after k) es ≡ (kind_after k).make es ∷ []
  unfolding join
  join_all es h = λ i. (kind_after k).make (take_all (kind_after k).arity es (omega arith) i) ∷ drop_all (kind_after k).arity es (omega arith) i

  -- what can be read is made of parts
  made : (e : Expr) (r : List ℕ) → read_exprs 1 bs ≡ got (e ∷ []) r
      → (es : List Expr) × (read_exprs (kind_after k).arity (drop 1 bs) ≡ got es r) × (e ≡ (kind_after k).make es) × (length es ≡ (kind_after k).arity)
  made e r h =
      let x = then_got (read_exprs (kind_after k).arity (drop 1 bs)) (λ es q. got (join (kind_after k) es) q) (e ∷ []) r (sym whole ∙ h) in
      let many = (sized (kind_after k).arity (drop 1 bs) x.0 x.1 x.2).0 in
      let same = same_got (join (kind_after k) x.0) (e ∷ []) x.1 r x.3 in
      let list : e ∷ [] ≡ (kind_after k).make x.0 ∷ [] = sym same.0 ∙ join_all x.0 many in
      let one : e ≡ (kind_after k).make x.0 = cc in
      (x.0, x.2 ∙ ap (got x.0) same.1, one, many)

  module _ (xs : List ℕ) (l at n used next : ℕ) (places ys : List ℕ) (es : List Expr) (ps : Parts bs xs l at n used next places ys es) where
    -- all parts were read, and the row is written with their places
    pub all_parts : (os zs : List ℕ) (r : Result Loaded LoadError) → n ≡ (kind_after k).arity → ((j : ℕ) → j < n → get_or os j 0 ≡ get_or places j 0)
        → Ended next (get_or bs 0 0) os used ys zs r → LoadsWithin (suc l) bs at xs zs r
    unfolding expr_within
    all_parts os zs r all named m =
        let rd : read_exprs (kind_after k).arity (drop 1 bs) ≡ got es (drop used bs) = ap (λ i. read_exprs i (drop 1 bs)) (sym all) ∙ ps.read in
        let many = (sized (kind_after k).arity (drop 1 bs) es (drop used bs) rd).0 in
        let law = lawful k known es many in
        finish (fits_levels (suc l)) (expr_within (suc l)) bs at xs ys zs next (suc k) os used ((kind_after k).make es) r
        (whole ∙ ap (joined (kind_after k)) rd ∙ ap (λ fs. got fs (drop used bs)) (join_all es many))
        ps.within (law.levels l ∙ ps.fit) (omega (arith, ps.ends, law.parts)) (omega (arith, ps.ends)) ps.before ps.after
        (λ w ws same row. ap (λ o. expr_of o (expr_within l ws)) row
        ∙ row_means k known os (expr_within l ws) es
        (λ j h. ap (expr_within l ws) (named j (omega arith)) ∙ ps.stays ws (λ i p q. same i p (omega arith) ∙ w.below i q) j (omega arith)))
        (subst (λ b. Ended next b os used ys zs r) is m)

    module _ (more : n < (kind_after k).arity) where
      -- the next part, and those after it
      onwards : (p : Parsed (List Expr)) → read_exprs 1 (drop used bs) ≡ p
          → read_exprs (kind_after k).arity (drop 1 bs) ≡ and_then (glue p ((kind_after k).arity - (n + 1))) (λ fs q. got (es ++ fs) q)
      onwards p h =
          let sum : (kind_after k).arity ≡ n + (1 + ((kind_after k).arity - (n + 1))) = omega arith in
          ap (λ i. read_exprs i (drop 1 bs)) sum ∙ reads_in_turns n (1 + ((kind_after k).arity - (n + 1))) (drop 1 bs)
          ∙ ap (λ q. glue q (1 + ((kind_after k).arity - (n + 1)))) ps.read
          ∙ ap (λ q. and_then q (λ fs r. got (es ++ fs) r)) (reads_in_turns 1 ((kind_after k).arity - (n + 1)) (drop used bs)
          ∙ ap (λ q. glue q ((kind_after k).arity - (n + 1))) h)

      no_part : read_exprs 1 (drop used bs) ≡ unreadable → read_exprs 1 bs ≡ unreadable
      no_part h = whole ∙ ap (joined (kind_after k)) (onwards unreadable h)

      -- what can be read has the next part
      next_of :
          (e : Expr) (r : List ℕ) → read_exprs 1 bs ≡ got (e ∷ []) r
          → (a : Expr) × (fs : List Expr) × (q : List ℕ) × (read_exprs 1 (drop used bs) ≡ got (a ∷ []) q) × (e ≡ (kind_after k).make (es ++ a ∷ fs))
          × (length (es ++ a ∷ fs) ≡ (kind_after k).arity)
      next_of e r h = go (read_exprs 1 (drop used bs)) refl
        where
          go : (p : Parsed (List Expr)) → read_exprs 1 (drop used bs) ≡ p
              → (a : Expr) × (fs : List Expr) × (q : List ℕ) × (read_exprs 1 (drop used bs) ≡ got (a ∷ []) q) × (e ≡ (kind_after k).make (es ++ a ∷ fs))
              × (length (es ++ a ∷ fs) ≡ (kind_after k).arity)
          go unreadable u = absurd (not_got (e ∷ []) r (sym (no_part u) ∙ h))
          go (got [] q) u = let one = (sized 1 (drop used bs) [] q u).0 in absurd (omega arith)
          go (got (a ∷ b ∷ cs) q) u = let one = (sized 1 (drop used bs) (a ∷ b ∷ cs) q u).0 in absurd (omega arith)
          go (got (a ∷ []) q) u =
              let m = made e r h in
              let x = then_got (glue (got (a ∷ []) q) ((kind_after k).arity - (n + 1))) (λ fs s. got (es ++ fs) s) m.0 r (sym (onwards (got (a ∷ []) q) u) ∙ m.1) in
              let y = then_got (read_exprs ((kind_after k).arity - (n + 1)) q) (λ fs s. got ((a ∷ []) ++ fs) s) x.0 x.1 x.2 in
              let fs = y.0 in
              let all : m.0 ≡ es ++ a ∷ fs =
              sym (ap (λ gs. es ++ gs) (same_got ((a ∷ []) ++ fs) x.0 y.1 x.1 y.3).0 ∙ (same_got (es ++ x.0) m.0 x.1 r x.3).0) in
              (a, fs, q, u, m.2 ∙ ap (kind_after k).make all, sym (ap length all) ∙ m.3)

      -- a part that is not loaded: neither is the whole
      pub refuse : (qs zs : List ℕ) (e : LoadError) → qs ≡ drop used bs → LoadsWithin l qs next ys zs (Err e) → LoadsWithin (suc l) bs at xs zs (Err e)
      refuse qs zs Unreadable left p = record {
        outcome = no_part (ap (read_exprs 1) (sym left) ∙ p.outcome);
        before = λ j h. p.before j (omega (arith, ps.ends)) ∙ ps.before j h;
      }
      refuse qs zs TooDeep left p = record {
        outcome = λ e r h.
            let x = next_of e r h in
            ap (λ f. fits_depth f l) x.4 ∙ (lawful k known (es ++ x.0 ∷ x.1) x.5).levels l
            ∙ levels_passed l es x.0 x.1 (p.outcome x.0 x.2 (ap (read_exprs 1) left ∙ x.3));
        before = λ j h. p.before j (omega (arith, ps.ends)) ∙ ps.before j h;
      }
      refuse qs zs Full left p = record {
        outcome = λ e r h.
            let x = next_of e r h in
            let full = p.outcome x.0 x.2 (ap (read_exprs 1) left ∙ x.3) in
            omega (arith, full, ps.ends, ap expr_parts x.4, (lawful k known (es ++ x.0 ∷ x.1) x.5).parts, parts_append es (x.0 ∷ x.1), parts_one x.0 x.1);
        before = λ j h. p.before j (omega (arith, ps.ends)) ∙ ps.before j h;
      }

-- a kind that is not a number's has a number from 1 on
pub other_kind : (k : ExprKind) → (k ≡ kind.Num → ⊥) → (1 ≤ kind_number k) × (kind_number k ≤ 12)
other_kind kind.Num h = absurd (h refl)
other_kind kind.Cell h = (omega arith, omega arith)
other_kind kind.First h = (omega arith, omega arith)
other_kind kind.Second h = (omega arith, omega arith)
other_kind kind.Me h = (omega arith, omega arith)
other_kind kind.Add h = (omega arith, omega arith)
other_kind kind.Sub h = (omega arith, omega arith)
other_kind kind.Mul h = (omega arith, omega arith)
other_kind kind.Div h = (omega arith, omega arith)
other_kind kind.Rem h = (omega arith, omega arith)
other_kind kind.Lt h = (omega arith, omega arith)
other_kind kind.Eq h = (omega arith, omega arith)
other_kind kind.If h = (omega arith, omega arith)

-- a number is loaded
pub number :
    (bs : List ℕ) (l at : ℕ) (xs zs : List ℕ) (k n : ℕ) (r : Result Loaded LoadError) → k ≡ 0 → n ≡ word_at bs 1 → get_or bs 0 0 ≡ k → 3 ≤ length bs
    → n < 65536 → Ended at k (n ∷ 0 ∷ 0 ∷ []) 3 xs zs r → LoadsWithin (suc l) bs at xs zs r
unfolding read_exprs expr_within expr_parts fits_depth
number bs l at xs zs k n r none num first long small m =
    let x : ℕ = get_or bs 1 0 in
    let y : ℕ = get_or bs 2 0 in
    let is : bs ≡ 0 ∷ x ∷ y ∷ drop 3 bs =
    drop_more bs 0 0 (omega arith)
    ∙ (λ j. (first ∙ none) j ∷ (drop_more bs 1 0 (omega arith) ∙ ap (λ t. x ∷ t) (drop_more bs 2 0 (omega arith))) j) in
    let same : n ≡ bytes_value (x ∷ y ∷ []) = num ∙ ap (λ b. word_at b 1) is in
    finish (fits_levels (suc l)) (expr_within (suc l)) bs at xs xs zs at 0 _ 3 (Num (bytes_value (x ∷ y ∷ []))) r (ap (read_exprs 1) is) long
    (lt-ltb (bytes_value (x ∷ y ∷ [])) 65536 (omega arith)) (omega arith) (omega arith) (λ j h. refl) (λ j h. refl)
    (λ w ws there row. ap (λ o. expr_of o (expr_within l ws)) row ∙ ap Num same)
    (subst (λ b. Ended at b (n ∷ 0 ∷ 0 ∷ []) 3 xs zs r) none m)

-- no expression begins here
pub nothing : (bs : List ℕ) → length bs ≡ 0 → read_exprs 1 bs ≡ unreadable
unfolding read_exprs
nothing [] h = refl
nothing (b ∷ bs) h = absurd (omega arith)

-- nor where the bytes of its kind are not all there
pub too_short :
    (bs : List ℕ) (k w : ℕ) → get_or bs 0 0 ≡ k → 0 < length bs → length bs < w → (k ≡ 0 → w ≡ 3) → (1 ≤ k → w ≡ 1) → read_exprs 1 bs ≡ unreadable
unfolding read_exprs
too_short [] k w is some lt num other = refl
too_short (zero ∷ []) k w is some lt num other = refl
too_short (zero ∷ x ∷ []) k w is some lt num other = refl
too_short (zero ∷ x ∷ y ∷ bs) k w is some lt num other = absurd (omega (arith, num (sym is)))
too_short (suc b ∷ bs) k w is some lt num other = absurd (omega (arith, other (omega arith)))

pub unknown_kind : (bs : List ℕ) → 12 < get_or bs 0 0 → read_exprs 1 bs ≡ unreadable
unfolding read_exprs
unknown_kind [] h = refl
unknown_kind (zero ∷ bs) h = absurd (omega arith)
unknown_kind (suc k ∷ bs) h = cond-false _ _ _ (le-ltb k 12 (omega arith))

-- levels that are not 0, as code has them
pub at_levels : (l : ℕ) (bs : List ℕ) (at : ℕ) (xs ys : List ℕ) (r : Result Loaded LoadError) → (l ≡ 0 → ⊥) → LoadsWithin (suc (l - 1)) bs at xs ys r → LoadsWithin l bs at xs ys r
at_levels zero bs at xs ys r h p = absurd (h refl)
at_levels (suc l) bs at xs ys r h p = let e : suc (suc l - 1) ≡ suc l = omega arith in subst (λ n. LoadsWithin n bs at xs ys r) e p
