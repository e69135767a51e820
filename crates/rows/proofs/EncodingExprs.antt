-- The rows of an expression: how many they are, what they mean wherever they stand, and that they fit.
use Rattle.std.proofs.Common.{◌≡◌, ℕ, zero, suc, ◌+◌, ◌-◌, ◌*◌, ◌<◌, ◌≤◌, true, List, [], ◌∷◌, ◌++◌, length, get_or, refl, ap, ◌∙◌, arith}
use Rattle.std.proofs.lemmas.Bool.{and_parts, and_from, ltb-true, lt-ltb, false≢true}
use Rattle.std.proofs.lemmas.List.{length-append, get_or_append_left, get_or-append-add}
use Rattle.rules.specs.Rules.{Expr, Num, Cell, First, Second, Me, Add, Sub, Mul, Div, Rem, Lt, Eq, If}
use Rattle.rules.specs.Bounds.{fits_depth, expr_parts, all_below}
use Rattle.wire.proofs.FieldLists.{below_append}
use Rattle.eval.specs.Memory.{row_of, row_at, expr_of, expr_within, expr_at}
use Rattle.rows.specs.Encoding.{after, root, row, expr_rows}

-- memory has these words from a place on
abbrev pub Has : List ℕ → ℕ → List ℕ → Type 0
Has m at xs = (k : ℕ) → k < length xs → get_or m (at + k) 0 ≡ get_or xs k 0

pub has_front : (m : List ℕ) (at : ℕ) (xs ys : List ℕ) → Has m at (xs ++ ys) → Has m at xs
has_front m at xs ys h k l = h k (omega (arith, length-append xs ys)) ∙ get_or_append_left xs ys 0 k l

pub has_back : (m : List ℕ) (at : ℕ) (xs ys : List ℕ) (n : ℕ) → length xs ≡ n → Has m at (xs ++ ys) → Has m (at + n) ys
has_back m at xs ys n e h k l =
    let sum : at + n + k ≡ at + (length xs + k) = omega arith in
    ap (λ i. get_or m i 0) sum ∙ h (length xs + k) (omega (arith, length-append xs ys)) ∙ get_or-append-add xs ys k 0

has_row : (m : List ℕ) (at i k a b c : ℕ) → i ≡ at → Has m at (row k a b c) → row_at m i ≡ row_of k a b c
has_row m at i k a b c e h =
    let p₀ : i ≡ at + 0 = omega arith in
    let p₁ : i + 1 ≡ at + 1 = omega arith in
    let p₂ : i + 2 ≡ at + 2 = omega arith in
    let p₃ : i + 3 ≡ at + 3 = omega arith in
    let q₀ = ap (λ j. get_or m j 0) p₀ ∙ h 0 (omega arith) in
    let q₁ = ap (λ j. get_or m j 0) p₁ ∙ h 1 (omega arith) in
    let q₂ = ap (λ j. get_or m j 0) p₂ ∙ h 2 (omega arith) in
    let q₃ = ap (λ j. get_or m j 0) p₃ ∙ h 3 (omega arith) in
    λ j. row_of (q₀ j) (q₁ j) (q₂ j) (q₃ j)

-- how many words the rows of two or three parts and a last row are
two_long : (xs ys zs : List ℕ) (a b : ℕ) → length xs ≡ 4 * a → length ys ≡ 4 * b → length zs ≡ 4 → length (xs ++ (ys ++ zs)) ≡ 4 * suc (a + b)
two_long xs ys zs a b p q r = omega (arith, length-append xs (ys ++ zs), length-append ys zs)

pub rows_long : (at : ℕ) (e : Expr) → length (expr_rows at e) ≡ 4 * expr_parts e
unfolding expr_rows expr_parts
rows_long at (Num n) = refl
rows_long at (Cell a) = omega (arith, length-append (expr_rows at a) (row 1 (root at a) 0 0), rows_long at a)
rows_long at First = refl
rows_long at Second = refl
rows_long at Me = refl
rows_long at (Add a b) = two_long _ _ _ _ _ (rows_long at a) (rows_long (after at a) b) refl
rows_long at (Sub a b) = two_long _ _ _ _ _ (rows_long at a) (rows_long (after at a) b) refl
rows_long at (Mul a b) = two_long _ _ _ _ _ (rows_long at a) (rows_long (after at a) b) refl
rows_long at (Div a b) = two_long _ _ _ _ _ (rows_long at a) (rows_long (after at a) b) refl
rows_long at (Rem a b) = two_long _ _ _ _ _ (rows_long at a) (rows_long (after at a) b) refl
rows_long at (Lt a b) = two_long _ _ _ _ _ (rows_long at a) (rows_long (after at a) b) refl
rows_long at (Eq a b) = two_long _ _ _ _ _ (rows_long at a) (rows_long (after at a) b) refl
rows_long at (If a b c) =
    let p : ℕ = after at a in
    let q : ℕ = after p b in
    let last : List ℕ = row 12 (root at a) (root p b) (root q c) in
    omega (
      arith,
      length-append (expr_rows at a) (expr_rows p b ++ (expr_rows q c ++ last)),
      length-append (expr_rows p b) (expr_rows q c ++ last),
      length-append (expr_rows q c) last,
      rows_long at a,
      rows_long p b,
      rows_long q c,
    )

-- an expression of two parts, whose row is of kind k
module _ (m : List ℕ) (at : ℕ) (a b : Expr) (k : ℕ) (f : Expr → Expr → Expr) (g : ℕ → Expr) where
  two_there :
      ((x y z : ℕ) → expr_of (row_of k x y z) g ≡ f (g x) (g y))
      → Has m at (expr_rows at a ++ (expr_rows (after at a) b ++ row k (root at a) (root (after at a) b) 0))
      → (Has m at (expr_rows at a) → g (root at a) ≡ a) → (Has m (after at a) (expr_rows (after at a) b) → g (root (after at a) b) ≡ b)
      → (i : ℕ) → i ≡ at + 4 * suc (expr_parts a + expr_parts b) - 4 → expr_of (row_at m i) g ≡ f a b
  two_there means h one two i is =
      let p : ℕ = after at a in
      let last : List ℕ = row k (root at a) (root p b) 0 in
      let back = has_back m at (expr_rows at a) (expr_rows p b ++ last) (4 * expr_parts a) (rows_long at a) h in
      let end = has_back m p (expr_rows p b) last (4 * expr_parts b) (rows_long p b) back in
      let x = one (has_front m at (expr_rows at a) (expr_rows p b ++ last) h) in
      let y = two (has_front m p (expr_rows p b) last back) in
      ap (λ n. expr_of n g) (has_row m (after p b) i k _ _ 0 (omega arith) end) ∙ means (root at a) (root p b) 0 ∙ (λ j. f (x j) (y j))

-- wherever the rows of an expression of at most d + 1 levels stand, they mean it
pub rows_mean : (d : ℕ) (m : List ℕ) (at : ℕ) (e : Expr) → fits_depth e d ≡ true → Has m at (expr_rows at e) → expr_within (suc d) m (root at e) ≡ e
unfolding fits_depth expr_rows expr_parts expr_within
rows_mean d m at (Num n) fit h = ap (λ o. expr_of o (expr_within d m)) (has_row m at _ 0 n 0 0 (omega arith) h)
rows_mean zero m at (Cell a) fit h = absurd (false≢true fit)
rows_mean (suc d) m at (Cell a) fit h =
    let last : List ℕ = row 1 (root at a) 0 0 in
    let end = has_back m at (expr_rows at a) last (4 * expr_parts a) (rows_long at a) h in
    ap (λ o. expr_of o (expr_within (suc d) m)) (has_row m (after at a) _ 1 _ 0 0 (omega arith) end)
    ∙ ap Cell (rows_mean d m at a fit (has_front m at (expr_rows at a) last h))
rows_mean d m at First fit h = ap (λ o. expr_of o (expr_within d m)) (has_row m at _ 2 0 0 0 (omega arith) h)
rows_mean d m at Second fit h = ap (λ o. expr_of o (expr_within d m)) (has_row m at _ 3 0 0 0 (omega arith) h)
rows_mean d m at Me fit h = ap (λ o. expr_of o (expr_within d m)) (has_row m at _ 4 0 0 0 (omega arith) h)
rows_mean zero m at (Add a b) fit h = absurd (false≢true fit)
rows_mean (suc d) m at (Add a b) fit h =
    let p = and_parts (fits_depth a d) _ fit in
    two_there m at a b 5 Add _ (λ x y z. refl) h (rows_mean d m at a p.0) (rows_mean d m (after at a) b p.1) _ refl
rows_mean zero m at (Sub a b) fit h = absurd (false≢true fit)
rows_mean (suc d) m at (Sub a b) fit h =
    let p = and_parts (fits_depth a d) _ fit in
    two_there m at a b 6 Sub _ (λ x y z. refl) h (rows_mean d m at a p.0) (rows_mean d m (after at a) b p.1) _ refl
rows_mean zero m at (Mul a b) fit h = absurd (false≢true fit)
rows_mean (suc d) m at (Mul a b) fit h =
    let p = and_parts (fits_depth a d) _ fit in
    two_there m at a b 7 Mul _ (λ x y z. refl) h (rows_mean d m at a p.0) (rows_mean d m (after at a) b p.1) _ refl
rows_mean zero m at (Div a b) fit h = absurd (false≢true fit)
rows_mean (suc d) m at (Div a b) fit h =
    let p = and_parts (fits_depth a d) _ fit in
    two_there m at a b 8 Div _ (λ x y z. refl) h (rows_mean d m at a p.0) (rows_mean d m (after at a) b p.1) _ refl
rows_mean zero m at (Rem a b) fit h = absurd (false≢true fit)
rows_mean (suc d) m at (Rem a b) fit h =
    let p = and_parts (fits_depth a d) _ fit in
    two_there m at a b 9 Rem _ (λ x y z. refl) h (rows_mean d m at a p.0) (rows_mean d m (after at a) b p.1) _ refl
rows_mean zero m at (Lt a b) fit h = absurd (false≢true fit)
rows_mean (suc d) m at (Lt a b) fit h =
    let p = and_parts (fits_depth a d) _ fit in
    two_there m at a b 10 Lt _ (λ x y z. refl) h (rows_mean d m at a p.0) (rows_mean d m (after at a) b p.1) _ refl
rows_mean zero m at (Eq a b) fit h = absurd (false≢true fit)
rows_mean (suc d) m at (Eq a b) fit h =
    let p = and_parts (fits_depth a d) _ fit in
    two_there m at a b 11 Eq _ (λ x y z. refl) h (rows_mean d m at a p.0) (rows_mean d m (after at a) b p.1) _ refl
rows_mean zero m at (If a b c) fit h = absurd (false≢true fit)
rows_mean (suc d) m at (If a b c) fit h =
    let s = and_parts (fits_depth a d) _ fit in
    let t = and_parts (fits_depth b d) _ s.1 in
    let p : ℕ = after at a in
    let q : ℕ = after p b in
    let last : List ℕ = row 12 (root at a) (root p b) (root q c) in
    let h₁ = has_back m at (expr_rows at a) (expr_rows p b ++ (expr_rows q c ++ last)) (4 * expr_parts a) (rows_long at a) h in
    let h₂ = has_back m p (expr_rows p b) (expr_rows q c ++ last) (4 * expr_parts b) (rows_long p b) h₁ in
    let h₃ = has_back m q (expr_rows q c) last (4 * expr_parts c) (rows_long q c) h₂ in
    let x = rows_mean d m at a s.0 (has_front m at (expr_rows at a) (expr_rows p b ++ (expr_rows q c ++ last)) h) in
    let y = rows_mean d m p b t.0 (has_front m p (expr_rows p b) (expr_rows q c ++ last) h₁) in
    let z = rows_mean d m q c t.1 (has_front m q (expr_rows q c) last h₂) in
    ap (λ o. expr_of o (expr_within (suc d) m)) (has_row m (after q c) _ 12 _ _ _ (omega arith) h₃) ∙ (λ j. If (x j) (y j) (z j))

-- an expression that is at most 32 deep is there
pub expr_there : (m : List ℕ) (at : ℕ) (e : Expr) → fits_depth e 32 ≡ true → Has m at (expr_rows at e) → expr_at m (root at e) ≡ e
unfolding expr_at
expr_there m at e fit h = rows_mean 32 m at e fit h

-- each word of a row fits
pub fit_words : (xs : List ℕ) (a : ℕ) → a < 4294967296 → all_below 4294967296 xs ≡ true → all_below 4294967296 (a ∷ xs) ≡ true
unfolding all_below
fit_words xs a l h = and_from _ _ (lt-ltb a 4294967296 l) h

pub no_words_fit : all_below 4294967296 [] ≡ true
unfolding all_below
no_words_fit = refl

row_fits : (k a b c : ℕ) → k < 4294967296 → a < 4294967296 → b < 4294967296 → c < 4294967296 → all_below 4294967296 (row k a b c) ≡ true
row_fits k a b c p q r s = fit_words _ k p (fit_words _ a q (fit_words _ b r (fit_words _ c s no_words_fit)))

two_fit :
    (at : ℕ) (a b : Expr) (k : ℕ) → k < 13 → at + 4 * suc (expr_parts a + expr_parts b) ≤ 4294967296 → all_below 4294967296 (expr_rows at a) ≡ true
    → all_below 4294967296 (expr_rows (after at a) b) ≡ true
    → all_below 4294967296 (expr_rows at a ++ (expr_rows (after at a) b ++ row k (root at a) (root (after at a) b) 0)) ≡ true
two_fit at a b k known room p q =
    below_append _ (expr_rows at a) _ p
    (below_append _ (expr_rows (after at a) b) _ q (row_fits k (root at a) (root (after at a) b) 0 (omega arith) (omega arith) (omega arith) (omega arith)))

pub rows_fit : (d at : ℕ) (e : Expr) → fits_depth e d ≡ true → at + 4 * expr_parts e ≤ 4294967296 → all_below 4294967296 (expr_rows at e) ≡ true
unfolding fits_depth expr_rows expr_parts
rows_fit d at (Num n) fit room = row_fits 0 n 0 0 (omega arith) (omega (arith, ltb-true n 65536 fit)) (omega arith) (omega arith)
rows_fit zero at (Cell a) fit room = absurd (false≢true fit)
rows_fit (suc d) at (Cell a) fit room =
    below_append _ (expr_rows at a) _ (rows_fit d at a fit (omega arith)) (row_fits 1 (root at a) 0 0 (omega arith) (omega arith) (omega arith) (omega arith))
rows_fit d at First fit room = row_fits 2 0 0 0 (omega arith) (omega arith) (omega arith) (omega arith)
rows_fit d at Second fit room = row_fits 3 0 0 0 (omega arith) (omega arith) (omega arith) (omega arith)
rows_fit d at Me fit room = row_fits 4 0 0 0 (omega arith) (omega arith) (omega arith) (omega arith)
rows_fit zero at (Add a b) fit room = absurd (false≢true fit)
rows_fit (suc d) at (Add a b) fit room =
    let p = and_parts (fits_depth a d) _ fit in
    two_fit at a b 5 (omega arith) room (rows_fit d at a p.0 (omega arith)) (rows_fit d (after at a) b p.1 (omega arith))
rows_fit zero at (Sub a b) fit room = absurd (false≢true fit)
rows_fit (suc d) at (Sub a b) fit room =
    let p = and_parts (fits_depth a d) _ fit in
    two_fit at a b 6 (omega arith) room (rows_fit d at a p.0 (omega arith)) (rows_fit d (after at a) b p.1 (omega arith))
rows_fit zero at (Mul a b) fit room = absurd (false≢true fit)
rows_fit (suc d) at (Mul a b) fit room =
    let p = and_parts (fits_depth a d) _ fit in
    two_fit at a b 7 (omega arith) room (rows_fit d at a p.0 (omega arith)) (rows_fit d (after at a) b p.1 (omega arith))
rows_fit zero at (Div a b) fit room = absurd (false≢true fit)
rows_fit (suc d) at (Div a b) fit room =
    let p = and_parts (fits_depth a d) _ fit in
    two_fit at a b 8 (omega arith) room (rows_fit d at a p.0 (omega arith)) (rows_fit d (after at a) b p.1 (omega arith))
rows_fit zero at (Rem a b) fit room = absurd (false≢true fit)
rows_fit (suc d) at (Rem a b) fit room =
    let p = and_parts (fits_depth a d) _ fit in
    two_fit at a b 9 (omega arith) room (rows_fit d at a p.0 (omega arith)) (rows_fit d (after at a) b p.1 (omega arith))
rows_fit zero at (Lt a b) fit room = absurd (false≢true fit)
rows_fit (suc d) at (Lt a b) fit room =
    let p = and_parts (fits_depth a d) _ fit in
    two_fit at a b 10 (omega arith) room (rows_fit d at a p.0 (omega arith)) (rows_fit d (after at a) b p.1 (omega arith))
rows_fit zero at (Eq a b) fit room = absurd (false≢true fit)
rows_fit (suc d) at (Eq a b) fit room =
    let p = and_parts (fits_depth a d) _ fit in
    two_fit at a b 11 (omega arith) room (rows_fit d at a p.0 (omega arith)) (rows_fit d (after at a) b p.1 (omega arith))
rows_fit zero at (If a b c) fit room = absurd (false≢true fit)
rows_fit (suc d) at (If a b c) fit room =
    let s = and_parts (fits_depth a d) _ fit in
    let t = and_parts (fits_depth b d) _ s.1 in
    let p : ℕ = after at a in
    let q : ℕ = after p b in
    below_append _ (expr_rows at a) _ (rows_fit d at a s.0 (omega arith))
    (below_append _ (expr_rows p b) _ (rows_fit d p b t.0 (omega arith)) (below_append _ (expr_rows q c) _ (rows_fit d q c t.1 (omega arith))
    (row_fits 12 (root at a) (root p b) (root q c) (omega arith) (omega arith) (omega arith) (omega arith))))
