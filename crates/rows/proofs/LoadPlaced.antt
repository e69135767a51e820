-- What is placed in memory, one thing after the other.
use Rattle.std.proofs.Common.{◌≡◌, ℕ, suc, ◌+◌, ◌-◌, ◌*◌, ◌<◌, ◌≤◌, true, List, [], ◌∷◌, ◌++◌, length, get_or, drop, set, Some, None, Option, Ok, Err, Result, sym, refl, ap, ◌∙◌, subst, arith}
use Rattle.std.proofs.lemmas.Bool.{and_parts}
use Rattle.std.specs.Result.{result_ok}
use Rattle.std.proofs.lemmas.List.{get_or-set_same, get_or-set_other, length-set}
use Rattle.rules.specs.Rules.{Expr}
use Rattle.rules.specs.Bounds.{fits_depth, expr_parts}
use Rattle.wire.specs.Exprs.{got, part, read_exprs}
use Rattle.wire.specs.GamesWalk.{exprs_parts, within_levels}
use Rattle.wire.proofs.ExprsBack.{with_got, same_got, sized, reads_in_turns}
use Rattle.wire.proofs.GamesBack.{one_part}
use Rattle.eval.specs.Memory.{expr_at}
use Rattle.eval.specs.declared.Loaded.{Loaded}
use Rattle.eval.specs.declared.LoadError.{LoadError}
use Rattle.eval.specs.Load.{Stands, LoadsExpr}
use Rattle.eval.proofs.Callers.{is_loaded}
use Rattle.rows.specs.declared.loading.End.{End}
use Rattle.rows.specs.Load.{exprs_at, Placed, Places, ExprsThere, PlacesExprs}

-- two things in turn: the words of the second follow those of the first
pub placed_both :
    (A B C : Type 0) (m : List ℕ → A) (n : List ℕ → B) (means : List ℕ → C) (a : A) (b : B) (c : C) (u v words : ℕ) (p q : List ℕ)
    (table w x wide at : ℕ) (xs ys zs : List ℕ) (d e : End) → ((k : List ℕ) → m k ≡ a → n k ≡ b → means k ≡ c) → words ≡ u + v → wide ≡ w + x
    → table + wide ≤ at → Placed A m a u p table w at xs ys d → Placed B n b v q (table + w) x d.next ys zs e
    → Placed C means c words q table wide at xs zs e
placed_both A B C m n means a b c u v words p q table w x wide at xs ys zs d e is sum width before one two = record {
  left = two.left;
  ends = omega (arith, one.ends, two.ends);
  below = λ k h. two.below k (omega arith) ∙ one.below k h;
  between = λ k g h. two.between k (omega arith) (omega (arith, one.ends)) ∙ one.between k (omega arith) h;
  stays = λ ws there here. is ws
      (one.stays ws (λ k g h. there k g (omega arith) ∙ two.below k h)
      (λ k g h. here k g (omega (arith, two.ends)) ∙ two.between k (omega arith) h))
      (two.stays ws (λ k g h. there k (omega arith) (omega arith)) (λ k g h. here k (omega (arith, one.ends)) h));
}

-- one expression, whose place is noted
pub one_placed :
    (bs : List ℕ) (at table used root : ℕ) (xs ys : List ℕ) (e : Expr) (q : List ℕ) (d : End) → table < at → at ≤ length ys → q ≡ d.rest.now
    → d.next ≡ root + 4 → ((k : ℕ) → k < at → get_or ys k 0 ≡ get_or xs k 0) → Stands (λ f. fits_depth f 32) expr_at bs at xs ys used root e
    → Placed Expr (λ m. expr_at m (get_or m table 0)) e (4 * expr_parts e) q table 1 at xs (set ys table root) d
one_placed bs at table used root xs ys e q d lt le left end before s = record {
  left = left;
  ends = end ∙ s.ends;
  below = λ k h. get_or-set_other ys table k root 0 (omega arith) ∙ before k (omega arith);
  between = λ k g h. get_or-set_other ys table k root 0 (omega arith) ∙ before k h;
  stays = λ zs there here.
      ap (expr_at zs) (there table (omega arith) (omega arith) ∙ get_or-set_same ys table root 0 (omega arith))
      ∙ s.stays zs (λ k g h. here k g (omega arith) ∙ get_or-set_other ys table k root 0 (omega arith));
}

-- nothing was read, and nothing is written
pub nothing_placed :
    (A : Type 0) (means : List ℕ → A) (a : A) (words : ℕ) (q : List ℕ) (table wide : ℕ) (xs : List ℕ) (e : End) → ((m : List ℕ) → means m ≡ a) → words ≡ 0
    → q ≡ e.rest.now → Placed A means a words q table wide e.next xs xs e
nothing_placed A means a words q table wide xs e is z left = record {
  left = left;
  ends = omega arith;
  below = λ k h. refl;
  between = λ k g h. refl;
  stays = λ zs there here. is zs;
}

-- no expression is to come
pub no_exprs : (n table : ℕ) (xs : List ℕ) (e : End) → n ≡ 0 → PlacesExprs e.rest.now n xs xs table e.next (Some e)
unfolding exprs_at read_exprs exprs_parts
no_exprs n table xs e z es q before there =
    let f = same_got [] es e.rest.now q (sym (ap (λ k. read_exprs k e.rest.now) z) ∙ there.reads) in
    nothing_placed (List Expr) (λ m. exprs_at m table n) es (4 * exprs_parts es) q table n xs e (λ m. ap (exprs_at m table) z ∙ f.0)
    (omega (arith, ap exprs_parts f.0)) (sym f.1)

-- the first expression, and then the others
pub record Split (bs : List ℕ) (n : ℕ) (es : List Expr) (q : List ℕ) : Type 0 where
  pub first : Expr
  pub others : List Expr
  pub rest : List ℕ
  pub all : es ≡ first ∷ others
  pub reads_first : read_exprs 1 bs ≡ got (first ∷ []) rest
  pub reads_others : read_exprs n rest ≡ got others q

-- several expressions are one and others
pub split : (bs : List ℕ) (n : ℕ) (es : List Expr) (q : List ℕ) → 0 < n → read_exprs n bs ≡ got es q → Split bs (n - 1) es q
split bs n es q some h =
    let e : n ≡ 1 + (n - 1) = omega arith in
    with_got (read_exprs 1 bs) _ es q _ (sym (reads_in_turns 1 (n - 1) bs) ∙ sym (ap (λ k. read_exprs k bs) e) ∙ h) (λ fs r e₁ h₁.
    with_got (read_exprs (n - 1) r) _ es q _ h₁ (λ gs s e₂ h₂.
    let one = one_part fs (sized 1 bs fs r e₁).0 in
    let x = same_got (fs ++ gs) es s q h₂ in
    record {
      first = part fs 0;
      others = gs;
      rest = r;
      all = sym x.0 ∙ ap (λ l. l ++ gs) one;
      reads_first = e₁ ∙ ap (λ l. got l r) one;
      reads_others = e₂ ∙ ap (got gs) x.1;
    }))

-- if all are not too deep, neither is the first, nor the others
levels_both : (e : Expr) (es : List Expr) → within_levels 33 (e ∷ es) ≡ true → (fits_depth e 32 ≡ true) × (within_levels 33 es ≡ true)
unfolding within_levels
levels_both e es h = and_parts (fits_depth e 32) (within_levels 33 es) h

-- the parts of all are those of the first and of the others
parts_both : (e : Expr) (es : List Expr) → exprs_parts (e ∷ es) ≡ expr_parts e + exprs_parts es
unfolding exprs_parts
parts_both e es = refl

-- the first place, and the others
exprs_more : (m : List ℕ) (i n : ℕ) → 0 < n → exprs_at m i n ≡ expr_at m (get_or m i 0) ∷ exprs_at m (i + 1) (n - 1)
unfolding exprs_at
exprs_more m i n some = let e : n ≡ suc (n - 1) = omega arith in ap (exprs_at m i) e

-- expressions that can be read, are not too deep and have room
module _
    (bs : List ℕ) (n table at : ℕ) (xs ys : List ℕ) (some : 0 < n) (size : length ys ≡ length xs) (es : List Expr) (q : List ℕ)
    (before : table + n ≤ at) (there : ExprsThere bs n at (length xs) es q)
  where
    -- the first expression, and the others
    parted : Split bs (n - 1) es q
    parted = split bs n es q some there.reads

    -- neither is too deep
    fit : (fits_depth parted.first 32 ≡ true) × (within_levels 33 parted.others ≡ true)
    fit = levels_both parted.first parted.others (ap (within_levels 33) (sym parted.all) ∙ there.fit)

    -- their parts, together
    count : exprs_parts es ≡ expr_parts parted.first + exprs_parts parted.others
    count = ap exprs_parts parted.all ∙ parts_both parted.first parted.others

    -- the first is loaded
    first_loaded :
        (r : Result Loaded LoadError) → LoadsExpr bs at xs ys r
        → (l : Loaded) × (r ≡ Ok l) × (parted.rest ≡ drop l.used bs) × Stands (λ f. fits_depth f 32) expr_at bs at xs ys l.used l.root parted.first
    first_loaded r l = is_loaded bs at xs ys r parted.first parted.rest l parted.reads_first fit.0 (omega (arith, count, there.enough, there.small))

    -- so it is not refused
    pub not_refused : (r : Result Loaded LoadError) → None ≡ result_ok r → LoadsExpr bs at xs ys r → ⊥
    not_refused r none l = let x = first_loaded r l in let some : None ≡ Some x.0 = none ∙ ap result_ok x.1 in cc

    -- with the others loaded after it, all are
    all_loaded :
        (k : Loaded) (d : End) (zs : List ℕ) (r : Option End) → LoadsExpr bs at xs ys (Ok k) → d.rest.now ≡ drop k.used bs → d.next ≡ k.root + 4
        → PlacesExprs d.rest.now (n - 1) (set ys table k.root) zs (table + 1) d.next r
        → Places (List Expr) (λ m. exprs_at m table n) es (4 * exprs_parts es) q table n at xs zs r
    all_loaded k d zs r l rest next more =
        go r (more parted.others q (omega (arith, stands.ends)) (record {
          reads = ap (read_exprs (n - 1)) (sym left) ∙ parted.reads_others;
          fit = fit.1;
          enough = omega (arith, stands.ends, count, there.enough, length-set ys table k.root);
          small = omega (arith, there.small, length-set ys table k.root);
        }))
      where
        first : (m : Loaded) × (◌≡◌ {A = Result Loaded LoadError} (Ok k) (Ok m)) × (parted.rest ≡ drop m.used bs) × Stands (λ f. fits_depth f 32) expr_at bs at xs ys m.used m.root parted.first
        first = first_loaded (Ok k) l

        stands : Stands (λ f. fits_depth f 32) expr_at bs at xs ys k.used k.root parted.first
        stands = let same : first.0 ≡ k = cc first.1 in subst (λ m. Stands (λ f. fits_depth f 32) expr_at bs at xs ys m.used m.root parted.first) same first.3

        left : parted.rest ≡ d.rest.now
        left = let same : first.0 ≡ k = cc first.1 in first.2 ∙ ap (λ m. drop m.used bs) same ∙ sym rest

        go : (r : Option End)
            → Places (List Expr) (λ m. exprs_at m (table + 1) (n - 1)) parted.others (4 * exprs_parts parted.others) q (table + 1) (n - 1) d.next (set ys table k.root) zs r
            → Places (List Expr) (λ m. exprs_at m table n) es (4 * exprs_parts es) q table n at xs zs r
        go None h = h
        go (Some e) h =
            placed_both Expr (List Expr) (List Expr) (λ m. expr_at m (get_or m table 0)) (λ m. exprs_at m (table + 1) (n - 1)) (λ m. exprs_at m table n)
            parted.first parted.others es (4 * expr_parts parted.first) (4 * exprs_parts parted.others) (4 * exprs_parts es)
            parted.rest q table 1 (n - 1) n at xs (set ys table k.root) zs d e
            (λ m a b. exprs_more m table n some ∙ (λ i. a i ∷ b i) ∙ sym parted.all) (omega (arith, count)) (omega arith) before
            (one_placed bs at table k.used k.root xs ys parted.first parted.rest d (omega arith) (omega (arith, there.enough)) left next l.before stands) h

-- what `ok` finds is what was loaded
pub as_ok : {bs xs ys : List ℕ} {at : ℕ} (r : Result Loaded LoadError) (l : Loaded) → Some l ≡ result_ok r → LoadsExpr bs at xs ys r → LoadsExpr bs at xs ys (Ok l)
as_ok {bs} {xs} {ys} {at} (Ok k) l is h = let same : k ≡ l = cc in subst (λ m. LoadsExpr bs at xs ys (Ok m)) same h
as_ok (Err e) l is h = absurd cc

-- one expression is loaded, and the others after it
pub exprs_next :
    (bs : List ℕ) (n table at : ℕ) (xs ys zs : List ℕ) (k : Loaded) (d : End) (r : Option End) → 0 < n → length ys ≡ length xs → LoadsExpr bs at xs ys (Ok k)
    → d.rest.now ≡ drop k.used bs → d.next ≡ k.root + 4 → PlacesExprs d.rest.now (n - 1) (set ys table k.root) zs (table + 1) d.next r
    → PlacesExprs bs n xs zs table at r
exprs_next bs n table at xs ys zs k d r some size l rest next more es q before there =
    all_loaded bs n table at xs ys some size es q before there k d zs r l rest next more

-- the same, said of equal numbers and words
pub exprs_counted :
    (bs zs : List ℕ) (at : ℕ) (r : Option End) {m n i j : ℕ} {xs ys : List ℕ} → m ≡ n → xs ≡ ys → i ≡ j → PlacesExprs bs m xs zs i at r
    → PlacesExprs bs n ys zs j at r
exprs_counted bs zs at r {n = n} {i = i} {j = j} {xs = xs} e d f h =
    subst (λ t. PlacesExprs bs n t zs j at r) d (subst (λ t. PlacesExprs bs n xs zs t at r) f (subst (λ c. PlacesExprs bs c xs zs i at r) e h))
