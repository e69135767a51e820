-- Records stand one after the other, and what a row keeps where it is not written.
use Rattle.std.proofs.Common.{◌≡◌, ℕ, ◌+◌, ◌-◌, ◌<◌, ◌≤◌, List, length, get_or, take, drop, sym, ap, ◌∙◌, add-mul, arith, length-append, length-drop, length-take, rules}
use borrow.Rule.Slice.PartMut.{put_mid}
use Rattle.std.proofs.lemmas.List.{places, get_or-take, get_or-drop, drop_at, take_at, drop-take, take-take, drop-drop, ext_get_or}
use Rattle.std.proofs.lemmas.Nat.{mul-le}
use Rattle.tables.specs.Layout.{record_place}

pub stride : (n t u : ℕ) → t < u → record_place n t + (n + 9) ≤ record_place n u
stride n t u l = omega (arith, mul-le (t + 1) (n + 9) u (n + 9) (omega arith) (omega arith), add-mul t 1 (n + 9))

-- v has what w has from a up to e
abbrev pub Same : List ℕ → List ℕ → ℕ → ℕ → Type 0
Same w v a e = (i : ℕ) → a ≤ i → i < e → get_or v i 0 ≡ get_or w i 0

pub same_part : (w v : List ℕ) (a n : ℕ) → length v ≡ length w → Same w v a (a + n) → take n (drop a v) ≡ take n (drop a w)
same_part w v a n long same =
    let lv : length (take n (drop a v)) ≡ length (take n (drop a w)) = simp (length-take, length-drop) (omega arith) in
    ext_get_or 0 _ _ lv (λ i l.
    let li : i < n = omega (arith, length-take n (drop a v)) in
    get_or-take n (drop a v) i 0 li ∙ (get_or-drop a v i 0 ∙ (same (a + i) (omega arith) (omega arith) ∙ sym (get_or-take n (drop a w) i 0 li ∙ get_or-drop a w i 0))))

-- a part of a row that was written anew
module _ (a k : ℕ) (xs ys : List ℕ) (h : a + k ≤ length xs) (e : length ys ≡ k) where
  pub mid_length : length (put_mid a k xs ys) ≡ length xs
  mid_length = simp (length-append, length-take, length-drop) (omega arith)

  pub mid_below : (i : ℕ) → i < a → get_or (put_mid a k xs ys) i 0 ≡ get_or xs i 0
  mid_below i l = search (rules, places)

  pub mid_in : (i : ℕ) → i < k → get_or (put_mid a k xs ys) (a + i) 0 ≡ get_or ys i 0
  mid_in i l = search (rules, places)

  pub mid_above : (i : ℕ) → a + k ≤ i → get_or (put_mid a k xs ys) i 0 ≡ get_or xs i 0
  mid_above i l = search (rules, places)

  pub mid_part : take k (drop a (put_mid a k xs ys)) ≡ ys
  mid_part =
      let long : length (take a xs) ≡ a = simp length-take (omega arith) in
      rw (drop_at (take a xs) _ a long) (take_at ys _ k e)

-- of a part of a row that is known: a smaller part, and a word
module _ (w row : List ℕ) (a m : ℕ) (e : take m (drop a w) ≡ row) where
  pub inner_part : (j k : ℕ) → j + k ≤ m → take k (drop (a + j) w) ≡ take k (drop j row)
  inner_part j k h =
      let split : m ≡ j + (m - j) = omega arith in
      let front : drop j (take m (drop a w)) ≡ take (m - j) (drop j (drop a w)) =
      ap (λ x. drop j (take x (drop a w))) split ∙ drop-take j (m - j) (drop a w) in
      let least : take k (take (m - j) (drop j (drop a w))) ≡ take k (drop j (drop a w)) = take-take k (m - j) (drop j (drop a w)) (omega arith) in
      ap (λ x. take k x) (sym (drop-drop j a w)) ∙ (sym least ∙ (ap (λ x. take k x) (sym front) ∙ ap (λ x. take k (drop j x)) e))

  pub inner_word : (j : ℕ) → j < m → get_or w (a + j) 0 ≡ get_or row j 0
  inner_word j h = sym (ap (λ x. get_or x j 0) (sym e) ∙ (get_or-take m (drop a w) j 0 h ∙ get_or-drop a w j 0))
