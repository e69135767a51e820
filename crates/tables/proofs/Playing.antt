-- A move in memory: what it leaves as it was, and what it changes.
use Rattle.std.proofs.Common.{◌≡◌, ℕ, ◌+◌, ◌<◌, ◌≤◌, ◌≢◌, ◌⊎◌, List, length, get_or, take, drop, set, sym, ap, ◌∙◌, inl, inr, arith, length-drop, length-set, length-take}
use borrow.Rule.Slice.PartMut.{put_mid}
use Rattle.std.proofs.lemmas.List.{get_or-take, get_or-drop, get_or-set_same, get_or-set_other, ext_get_or}
use Rattle.rules.specs.declared.Move.{Move}
use Rattle.rules.specs.Rules.{Game, apply}
use Rattle.rules.specs.Play.{is_over}
use Rattle.tables.specs.Changes.{flag, one_more, advanced, with_entry}
use Rattle.tables.specs.Means.{move_in}
use Rattle.tables.proofs.Regions.{mid_length, mid_below, mid_in, mid_above}
use Rattle.tables.proofs.Writes.{apply_keeps}

-- a part of memory, word by word
pub part_is :
    (w ys : List ℕ) (a n : ℕ) → length ys ≡ n → a + n ≤ length w → ((i : ℕ) → i < n → get_or w (a + i) 0 ≡ get_or ys i 0) → take n (drop a w) ≡ ys
part_is w ys a n e fits same =
    let long : length (take n (drop a w)) ≡ n = simp (length-take, length-drop) (omega arith) in
    ext_get_or 0 _ _ (long ∙ sym e) (λ i l.
    let li : i < n = omega arith in
    get_or-take n (drop a w) i 0 li ∙ (get_or-drop a w i 0 ∙ same i li))

-- the words of a record after a move
module _ (g : Game) (n : ℕ) (r : List ℕ) (v : Move) (last : ℕ) (long : length r ≡ n + 9) where
  abbrev q : List ℕ
  q = apply g (take n r) v

  abbrev y : List ℕ
  y = put_mid 0 n r q

  pub cells_long : length q ≡ n
  cells_long = apply_keeps g (take n r) v ∙ simp length-take (omega arith)

  y_long : length y ≡ n + 9
  y_long = mid_length 0 n r q (omega arith) cells_long ∙ long

  pub advanced_length : length (advanced g n r v last) ≡ n + 9
  unfolding advanced
  advanced_length = simp length-set y_long

  pub advanced_other : (i : ℕ) → n ≤ i → i ≢ n + 5 → i ≢ n + 6 → i ≢ n + 8 → get_or (advanced g n r v last) i 0 ≡ get_or r i 0
  unfolding advanced
  advanced_other i h a b c =
      get_or-set_other _ (n + 8) i _ 0 c ∙ (get_or-set_other _ (n + 6) i _ 0 b ∙ (get_or-set_other _ (n + 5) i _ 0 a ∙ mid_above 0 n r q (omega arith) cells_long i (omega arith)))

  pub advanced_cell : (i : ℕ) → i < n → get_or (advanced g n r v last) i 0 ≡ get_or q i 0
  unfolding advanced
  advanced_cell i h =
      let here : i ≡ 0 + i = omega arith in
      get_or-set_other _ (n + 8) i _ 0 (omega arith) ∙ (get_or-set_other _ (n + 6) i _ 0 (omega arith) ∙ (get_or-set_other _ (n + 5) i _ 0 (omega arith)
      ∙ (ap (λ j. get_or y j 0) here ∙ mid_in 0 n r q (omega arith) cells_long i h)))

  pub advanced_end : get_or (advanced g n r v last) (n + 5) 0 ≡ flag (is_over g q)
  unfolding advanced
  advanced_end =
      get_or-set_other _ (n + 8) (n + 5) _ 0 (omega arith) ∙ (get_or-set_other _ (n + 6) (n + 5) _ 0 (omega arith)
      ∙ get_or-set_same y (n + 5) _ 0 (omega (arith, y_long)))

  pub advanced_count : get_or (advanced g n r v last) (n + 6) 0 ≡ one_more (get_or r (n + 6) 0)
  unfolding advanced
  advanced_count =
      get_or-set_other _ (n + 8) (n + 6) _ 0 (omega arith)
      ∙ get_or-set_same (set y (n + 5) (flag (is_over g q))) (n + 6) _ 0 (omega (arith, y_long, length-set y (n + 5) (flag (is_over g q))))

  pub advanced_link : get_or (advanced g n r v last) (n + 8) 0 ≡ last
  unfolding advanced
  advanced_link =
      let z : List ℕ = set (set y (n + 5) (flag (is_over g q))) (n + 6) (one_more (get_or r (n + 6) 0)) in
      let lz : length z ≡ n + 9 = simp length-set y_long in
      get_or-set_same z (n + 8) last 0 (omega arith)

move_is : (w : List ℕ) (e : ℕ) (v : Move) → get_or w e 0 ≡ v.rule → get_or w (e + 1) 0 ≡ v.first → get_or w (e + 2) 0 ≡ v.second → move_in w e ≡ v
move_is w e v e0 e1 e2 = simp (e0, e1, e2)

-- the words of the state after a move: the record at a gets row, word x gets k, and the entry is written at e
module _ (w row : List ℕ) (a n x k e : ℕ) (v : Move) (long : length row ≡ n) (low : 16 ≤ a) (apart : a + n ≤ e) (fits : e + 4 ≤ length w)
    (low-link : 16 ≤ x) (link : x < e) where
  abbrev x0 : List ℕ
  x0 = put_mid a n w row

  abbrev x1 : List ℕ
  x1 = set x0 x k

  abbrev after : List ℕ
  after = set (with_entry x1 e v) 10 (k + 1)

  l0 : length x0 ≡ length w
  l0 = mid_length a n w row (omega arith) long

  pub after_length : length after ≡ length w
  unfolding with_entry
  after_length = simp length-set l0

  -- outside the entry, the link and the count
  beside : (i : ℕ) → i ≢ 10 → i ≢ x → (i < e) ⊎ (e + 3 ≤ i) → get_or after i 0 ≡ get_or x0 i 0
  unfolding with_entry
  beside i ne nx out =
      let n0 : i ≢ e = elim out [ inl b ↦ omega arith | inr b ↦ omega arith ] in
      let n1 : i ≢ e + 1 = elim out [ inl b ↦ omega arith | inr b ↦ omega arith ] in
      let n2 : i ≢ e + 2 = elim out [ inl b ↦ omega arith | inr b ↦ omega arith ] in
      get_or-set_other _ 10 i _ 0 ne ∙ (get_or-set_other _ (e + 2) i _ 0 n2 ∙ (get_or-set_other _ (e + 1) i _ 0 n1
      ∙ (get_or-set_other _ e i _ 0 n0 ∙ get_or-set_other _ x i _ 0 nx)))

  pub after_other : (i : ℕ) → i ≢ 10 → i ≢ x → (i < e) ⊎ (e + 3 ≤ i) → (i < a) ⊎ (a + n ≤ i) → get_or after i 0 ≡ get_or w i 0
  after_other i ne nx out away =
      beside i ne nx out ∙ elim away [ inl b ↦ mid_below a n w row (omega arith) long i b | inr b ↦ mid_above a n w row (omega arith) long i b ]

  pub after_row : (i : ℕ) → i < n → a + i ≢ x → get_or after (a + i) 0 ≡ get_or row i 0
  after_row i h nx = beside (a + i) (omega arith) nx (inl (omega arith)) ∙ mid_in a n w row (omega arith) long i h

  written : length (with_entry x1 e v) ≡ length w
  unfolding with_entry
  written = simp length-set l0

  pub after_count : get_or after 10 0 ≡ k + 1
  after_count = get_or-set_same (with_entry x1 e v) 10 (k + 1) 0 (omega (arith, written))

  pub after_link : get_or after x 0 ≡ k
  unfolding with_entry
  after_link =
      get_or-set_other _ 10 x _ 0 (omega arith) ∙ (get_or-set_other _ (e + 2) x _ 0 (omega arith) ∙ (get_or-set_other _ (e + 1) x _ 0 (omega arith)
      ∙ (get_or-set_other _ e x _ 0 (omega arith) ∙ get_or-set_same x0 x k 0 (omega (arith, l0)))))

  pub after_entry : move_in after e ≡ v
  unfolding with_entry
  after_entry =
      let l1 : length x1 ≡ length w = simp length-set l0 in
      let l2 : length (set x1 e v.rule) ≡ length w = simp length-set l0 in
      let l3 : length (set (set x1 e v.rule) (e + 1) v.first) ≡ length w = simp length-set l0 in
      let e0 : get_or after e 0 ≡ v.rule =
      get_or-set_other _ 10 e _ 0 (omega arith) ∙ (get_or-set_other _ (e + 2) e _ 0 (omega arith) ∙ (get_or-set_other _ (e + 1) e _ 0 (omega arith)
      ∙ get_or-set_same x1 e _ 0 (omega arith))) in
      let e1 : get_or after (e + 1) 0 ≡ v.first =
      get_or-set_other _ 10 (e + 1) _ 0 (omega arith) ∙ (get_or-set_other _ (e + 2) (e + 1) _ 0 (omega arith)
      ∙ get_or-set_same (set x1 e v.rule) (e + 1) _ 0 (omega arith)) in
      let e2 : get_or after (e + 2) 0 ≡ v.second =
      get_or-set_other _ 10 (e + 2) _ 0 (omega arith)
      ∙ get_or-set_same (set (set x1 e v.rule) (e + 1) v.first) (e + 2) _ 0 (omega arith) in
      move_is after e v e0 e1 e2
