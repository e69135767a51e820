-- The line and the column by what stands before a place: its ends of lines, and what follows the last of them.
use Rattle.std.proofs.Common.{◌≡◌, ℕ, zero, suc, ◌+◌, ◌<◌, ◌≤◌, Bool, true, false, not, cond, eqb, List, [], ◌∷◌, ◌++◌, length, get_or, take, reverse, count_by, inl, inr, sym, refl, ap, subst, ◌∙◌, arith}
use Rattle.std.proofs.Math.Seq.{take-suc}
use Rattle.std.proofs.lemmas.Bool.{cases_Bool}
use Rattle.std.proofs.lemmas.List.{reverse-append, take_all}
use Rattle.std.proofs.lemmas.List.Sums.{sum_by_push}
use Rattle.std.specs.List.{prefix_len}
use Rattle.game_text.specs.Positions.{moved_by}

moved-append : (xs ys : List ℕ) (l c : ℕ) → moved_by (xs ++ ys) l c ≡ moved_by ys (moved_by xs l c).0 (moved_by xs l c).1
unfolding moved_by
moved-append [] ys l c = refl
moved-append (b ∷ xs) ys l c =
    elim (cases_Bool (eqb b 10)) [
      | inl e ↦ rw e (moved-append xs ys (l + 1) 1)
      | inr e ↦ rw e (moved-append xs ys l (c + 1))
    ]

abbrev pub lines : List ℕ → ℕ
lines bs = count_by (λ b. eqb b 10) bs

abbrev pub tail : List ℕ → ℕ
tail bs = prefix_len (λ b. not (eqb b 10)) (reverse bs)

-- one byte more, t: it ends a line
step :
    (t : Bool) (p : ℕ × ℕ) (n k n' k' : ℕ) → p ≡ (1 + n, 1 + k) → n' ≡ n + cond t 1 0 → k' ≡ cond (not t) (1 + k) 0 →
    ◌≡◌ {A = ℕ × ℕ} (cond t (p.0 + 1, 1) (p.0, p.1 + 1)) (1 + n', 1 + k')
step true p n k n' k' e f g =
    let x : p.0 ≡ 1 + n = ap (λ (q : ℕ × ℕ). q.0) e in
    let a : p.0 + 1 ≡ 1 + n' = omega arith in
    let b : 1 ≡ 1 + k' = omega arith in
    λ j. (a j, b j)
step false p n k n' k' e f g =
    let x : p.0 ≡ 1 + n = ap (λ (q : ℕ × ℕ). q.0) e in
    let y : p.1 ≡ 1 + k = ap (λ (q : ℕ × ℕ). q.1) e in
    let a : p.0 ≡ 1 + n' = omega arith in
    let b : p.1 + 1 ≡ 1 + k' = omega arith in
    λ j. (a j, b j)

one_more :
    (xs : List ℕ) (b : ℕ) → moved_by xs 1 1 ≡ (1 + lines xs, 1 + tail xs) → moved_by (xs ++ (b ∷ [])) 1 1 ≡ (1 + lines (xs ++ (b ∷ [])), 1 + tail (xs ++ (b ∷ [])))
unfolding moved_by
one_more xs b e =
    moved-append xs (b ∷ []) 1 1
    ∙ step (eqb b 10) (moved_by xs 1 1) (lines xs) (tail xs) _ _ e (sum_by_push (λ c. cond (eqb c 10) 1 0) xs b)
    (ap (prefix_len (λ c. not (eqb c 10))) (reverse-append xs (b ∷ [])))

counted : (bs : List ℕ) (k : ℕ) → k ≤ length bs → moved_by (take k bs) 1 1 ≡ (1 + lines (take k bs), 1 + tail (take k bs))
unfolding moved_by
counted bs zero h = refl
counted bs (suc k) h = let lt : k < length bs = omega arith in rw (take-suc bs k 0 lt) (one_more (take k bs) (get_or bs k 0) (counted bs k (omega arith)))

pub position_counted : (bs : List ℕ) → ◌≡◌ {A = ℕ × ℕ} (1 + lines bs, 1 + tail bs) (moved_by bs 1 1)
position_counted bs =
    sym (subst (λ xs. moved_by xs 1 1 ≡ (1 + lines xs, 1 + tail xs)) (take_all (length bs) bs (omega arith)) (counted bs (length bs) (omega arith)))
