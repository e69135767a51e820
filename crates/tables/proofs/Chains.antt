-- The entries of the moves that were played, and how those of one table name one another.
use Rattle.std.proofs.Common.{◌≡◌, ℕ, zero, suc, ◌+◌, ◌*◌, ◌<◌, ◌≤◌, Bool, true, false, cond, eqb, ◌≢◌, ◌⊎◌, List, [], ◌∷◌, length, sym, refl, ap, ◌∙◌, inl, inr, arith, length-append}
use Rattle.std.proofs.lemmas.Bool.{cases_eq, eq-eqb, ne_eqb, cond-true, cond-false}
use Rattle.rules.specs.declared.Move.{Move}
use Rattle.tables.specs.Means.{move_in, moves_of, link_of}
use Rattle.tables.proofs.Regions.{Same}

-- entries that keep their moves and their tables
pub same_moves :
    (w v : List ℕ) (from : ℕ) (owner other : ℕ → ℕ) (t k : ℕ)
    → ((j : ℕ) → j < k → move_in v (from + 4 * j) ≡ move_in w (from + 4 * j)) → ((j : ℕ) → j < k → other j ≡ owner j)
    → moves_of v from other t k ≡ moves_of w from owner t k
unfolding moves_of
same_moves w v from owner other t zero same own = refl
same_moves w v from owner other t (suc k) same own =
    let rest = same_moves w v from owner other t k (λ j h. same j (omega arith)) (λ j h. own j (omega arith)) in
    let e = same k (omega arith) in
    let o = own k (omega arith) in
    cc

pub same_move : (w v : List ℕ) (e : ℕ) → Same w v e (e + 3) → move_in v e ≡ move_in w e
same_move w v e same =
    let e0 = same e (omega arith) (omega arith) in
    let e1 = same (e + 1) (omega arith) (omega arith) in
    let e2 = same (e + 2) (omega arith) (omega arith) in
    simp (e0, e1, e2)

one_at_most : (b : Bool) (m : Move) → length (cond b (m ∷ []) []) ≤ 1
one_at_most true m = omega arith
one_at_most false m = omega arith

pub few_moves_of : (w : List ℕ) (from : ℕ) (owner : ℕ → ℕ) (t k : ℕ) → length (moves_of w from owner t k) ≤ k
unfolding moves_of
few_moves_of w from owner t zero = omega arith
few_moves_of w from owner t (suc k) =
    omega (
      arith,
      few_moves_of w from owner t k,
      one_at_most (eqb (owner k) t) (move_in w (from + 4 * k)),
      length-append (moves_of w from owner t k) (cond (eqb (owner k) t) (move_in w (from + 4 * k) ∷ []) []),
    )

module _ (first from : ℕ) where
  pub same_link :
      (owner other : ℕ → ℕ) (t k : ℕ) → ((j : ℕ) → j < k → other j ≡ owner j) → link_of first from other t k ≡ link_of first from owner t k
  unfolding link_of
  same_link owner other t zero own = refl
  same_link owner other t (suc k) own =
      let rest = same_link owner other t k (λ j h. own j (omega arith)) in
      let o = own k (omega arith) in
      simp (rest, o)

  module _ (owner : ℕ → ℕ) (t : ℕ) where
    pub link_here : (k : ℕ) → owner k ≡ t → link_of first from owner t (suc k) ≡ from + 4 * k + 3
    unfolding link_of
    link_here k e = cond-true _ _ _ (eq-eqb (owner k) t e)

    pub link_before : (k : ℕ) → (owner k ≡ t → ⊥) → link_of first from owner t (suc k) ≡ link_of first from owner t k
    unfolding link_of
    link_before k e = cond-false _ _ _ (ne_eqb (owner k) t e)

    -- a table with no entry yet is named in its own record
    pub link_first : (k : ℕ) → ((j : ℕ) → j < k → owner j ≡ t → ⊥) → link_of first from owner t k ≡ first
    unfolding link_of
    link_first zero none = refl
    link_first (suc k) none = link_before k (none k (omega arith)) ∙ link_first k (λ j h. none j (omega arith))

    -- past an entry of the table, the word is that entry's or a later one's
    pub link_past : (j k : ℕ) → j < k → owner j ≡ t → from + 4 * j + 3 ≤ link_of first from owner t k
    link_past j zero h e = absurd (omega arith)
    link_past j (suc k) h e =
        elim (cases_eq (owner k) t) [
          | inl here ↦ omega (arith, link_here k here)
          | inr differ ↦
              elim (cases_eq j k) [
                | inl same ↦ absurd (differ (ap owner (sym same) ∙ e))
                | inr less ↦ omega (arith, link_before k differ, link_past j k (omega arith) e)
              ]
        ]

  -- the word is the record's, or the last of an entry of the table
  pub record AnEntry (owner : ℕ → ℕ) (t k x : ℕ) : Type 0 where
    pub entry : ℕ
    pub before : entry < k
    pub owns : owner entry ≡ t
    pub is : x ≡ from + 4 * entry + 3

  pub link_place : (owner : ℕ → ℕ) (t k : ℕ) → (link_of first from owner t k ≡ first) ⊎ AnEntry owner t k (link_of first from owner t k)
  unfolding link_of
  link_place owner t zero = inl refl
  link_place owner t (suc k) =
      elim (cases_eq (owner k) t) [
        | inl here ↦ inr (record { entry = k; before = omega arith; owns = here; is = link_here owner t k here })
        | inr differ ↦
            elim (link_place owner t k) [
              | inl e ↦ inl (link_before owner t k differ ∙ e)
              | inr e ↦ inr (record { entry = e.entry; before = omega arith; owns = e.owns; is = link_before owner t k differ ∙ e.is })
            ]
      ]

  -- the word stands below the entries that are still to come
  pub link_below : (owner : ℕ → ℕ) (t k : ℕ) → first < from → link_of first from owner t k < from + 4 * k
  link_below owner t k h = elim (link_place owner t k) [ inl e ↦ omega arith | inr e ↦ omega arith ]

  -- and is its own record's, or no record's
  pub link_away : (owner : ℕ → ℕ) (t k : ℕ) → (link_of first from owner t k ≡ first) ⊎ (from ≤ link_of first from owner t k)
  link_away owner t k = elim (link_place owner t k) [ inl e ↦ inl e | inr e ↦ inr (omega arith) ]

-- no two entries are named by one word: what named entry k of table u is not what is to name the next entry of table t
pub links_apart :
    (first other from : ℕ) (owner : ℕ → ℕ) (t u j k : ℕ) → first < from → other < from → (first ≡ other → u ≡ t) → j < k → owner j ≡ u
    → link_of first from owner u j ≢ link_of other from owner t k
links_apart first other from owner t u j k lf lo differ before owns same =
    elim (cases_eq u t) [
      | inl is ↦
          let high = link_past other from owner t j k before (owns ∙ is) in
          let low = link_below first from owner u j lf in
          omega arith
      | inr not_t ↦
          elim (link_place first from owner u j) [
            | inl a ↦ elim (link_place other from owner t k) [ inl b ↦ not_t (differ (sym a ∙ (same ∙ b))) | inr b ↦ omega arith ]
            | inr a ↦
                elim (link_place other from owner t k) [
                  | inl b ↦ omega arith
                  | inr b ↦
                      let one : a.entry ≡ b.entry = omega arith in
                      not_t (sym a.owns ∙ (ap owner one ∙ b.owns))
                ]
          ]
    ]
