-- What a move at a table changes in memory, and that the memory then means the state after it.
use Rattle.std.proofs.Common.{◌≡◌, ℕ, ◌+◌, ◌<◌, ◌≤◌, ◌≢◌, ◌⊎◌, List, length, get_or, take, drop, set, sym, refl, ap, ◌∙◌, inl, inr, arith, length-drop, length-take}
use borrow.Rule.Slice.PartMut.{put_mid}
use Rattle.std.proofs.lemmas.List.{take-take}
use Rattle.rules.specs.declared.Move.{Move}
use Rattle.rules.specs.Rules.{Game, apply}
use Rattle.rules.specs.Play.{is_over}
use Rattle.tables.specs.declared.plan.Plan.{Plan}
use Rattle.tables.specs.Layout.{record_place, entry_place}
use Rattle.tables.specs.Changes.{flag, one_more, advanced, with_entry, played_in}
use Rattle.tables.specs.Means.{move_in}
use Rattle.tables.proofs.Regions.{inner_word}
use Rattle.tables.proofs.Playing.{part_is, cells_long, advanced_length, advanced_other, advanced_cell, advanced_end, advanced_count, advanced_link, after_length, after_other, after_row, after_count, after_link, after_entry}

-- memory v is memory w after a move: the record is at a, x is the word that was to name the table's next entry, e the entry, and k its number
pub record Moved (g : Game) (w v : List ℕ) (n a x k e : ℕ) (u : Move) : Type 0 where
  pub long : length v ≡ length w
  pub other : (i : ℕ) → i ≢ 10 → i ≢ x → (i < e) ⊎ (e + 3 ≤ i) → (i < a) ⊎ (a + (n + 9) ≤ i) → get_or v i 0 ≡ get_or w i 0
  pub kept : (i : ℕ) → n ≤ i → i < n + 8 → i ≢ n + 5 → i ≢ n + 6 → a + i ≢ x → get_or v (a + i) 0 ≡ get_or w (a + i) 0
  pub cells : take n (drop a v) ≡ apply g (take n (drop a w)) u
  pub end : get_or v (a + n + 5) 0 ≡ flag (is_over g (apply g (take n (drop a w)) u))
  pub count : get_or v (a + n + 6) 0 ≡ one_more (get_or w (a + n + 6) 0)
  pub next : get_or v (a + n + 8) 0 ≡ e + 3
  pub total : get_or v 10 0 ≡ k + 1
  pub names : get_or v x 0 ≡ k
  pub entry : move_in v e ≡ u

moved_at :
    (g : Game) (w : List ℕ) (n a x k e : ℕ) (u : Move) → 16 ≤ a → a + (n + 9) ≤ e → e + 4 ≤ length w → (x ≡ a + n + 7) ⊎ (a + (n + 9) ≤ x) → x < e
    → Moved g w (set (with_entry (set (put_mid a (n + 9) w (advanced g n (take (n + 9) (drop a w)) u (e + 3))) x k) e u) 10 (k + 1)) n a x k e u
moved_at g w n a x k e u low apart fits away link =
    let r : List ℕ = take (n + 9) (drop a w) in
    let lr : length r ≡ n + 9 = simp (length-take, length-drop) (omega arith) in
    let row : List ℕ = advanced g n r u (e + 3) in
    let long : length row ≡ n + 9 = advanced_length g n r u (e + 3) lr in
    let lx : 16 ≤ x = elim away [ inl i ↦ omega arith | inr i ↦ omega arith ] in
    let v : List ℕ = set (with_entry (set (put_mid a (n + 9) w row) x k) e u) 10 (k + 1) in
    let lv : length v ≡ length w = after_length w row a (n + 9) x k e u long low apart fits lx link in
    let front : take n r ≡ take n (drop a w) = take-take n (n + 9) (drop a w) (omega arith) in
    let in_row = after_row w row a (n + 9) x k e u long low apart fits lx link in
    let old : (i : ℕ) → i < n + 9 → get_or r i 0 ≡ get_or w (a + i) 0 = λ i h. sym (inner_word w r a (n + 9) refl i h) in
    let ne : (i : ℕ) → i < n + 9 → i ≢ n + 7 → a + i ≢ x = λ i h d. elim away [ inl is ↦ omega arith | inr is ↦ omega arith ] in
    let i5 : a + n + 5 ≡ a + (n + 5) = omega arith in
    let i6 : a + n + 6 ≡ a + (n + 6) = omega arith in
    let i8 : a + n + 8 ≡ a + (n + 8) = omega arith in
    record {
      long = lv;
      other = after_other w row a (n + 9) x k e u long low apart fits lx link;
      kept = λ i ge lt a5 a6 nx. in_row i (omega arith) nx ∙ (advanced_other g n r u (e + 3) lr i ge a5 a6 (omega arith) ∙ old i (omega arith));
      cells =
          part_is v (apply g (take n r) u) a n (cells_long g n r u (e + 3) lr) (omega arith)
          (λ i h. in_row i (omega arith) (ne i (omega arith) (omega arith)) ∙ advanced_cell g n r u (e + 3) lr i h)
          ∙ ap (λ c. apply g c u) front;
      end =
          ap (λ i. get_or v i 0) i5
          ∙ (in_row (n + 5) (omega arith) (ne (n + 5) (omega arith) (omega arith))
          ∙ (advanced_end g n r u (e + 3) lr ∙ ap (λ c. flag (is_over g (apply g c u))) front));
      count =
          ap (λ i. get_or v i 0) i6
          ∙ (in_row (n + 6) (omega arith) (ne (n + 6) (omega arith) (omega arith))
          ∙ (advanced_count g n r u (e + 3) lr ∙ ap one_more (old (n + 6) (omega arith) ∙ ap (λ i. get_or w i 0) (sym i6))));
      next =
          ap (λ i. get_or v i 0) i8
          ∙ (in_row (n + 8) (omega arith) (ne (n + 8) (omega arith) (omega arith)) ∙ advanced_link g n r u (e + 3) lr);
      total = after_count w row a (n + 9) x k e u long low apart fits lx link;
      names = after_link w row a (n + 9) x k e u long low apart fits lx link;
      entry = after_entry w row a (n + 9) x k e u long low apart fits lx link;
    }

pub moved :
    (g : Game) (w : List ℕ) (p : Plan) (t x e : ℕ) (u : Move) → e ≡ entry_place p.cells p.tables p.played
    → x ≡ get_or w (record_place p.cells t + p.cells + 8) 0 → record_place p.cells t + (p.cells + 9) ≤ e → e + 4 ≤ length w
    → (x ≡ record_place p.cells t + p.cells + 7) ⊎ (record_place p.cells t + (p.cells + 9) ≤ x) → x < e
    → Moved g w (played_in g w p t u) p.cells (record_place p.cells t) x p.played e u
unfolding played_in
moved g w p t x e u ee ex apart fits away link =
    rw (← ee, ← ex) (moved_at g w p.cells (record_place p.cells t) x p.played e u (omega arith) apart fits away link)
