-- Things of one sort, printed one after the other.
use Rattle.std.proofs.Common.{◌≡◌, ℕ, ◌+◌, Bool, true, List, [], ◌∷◌, ◌++◌, length, sym, ap, ◌∙◌, subst, append_assoc, arith}
use Rattle.std.proofs.lemmas.List.{nil_from_length}
use Rattle.printing.specs.declared.writer.Writer.{Writer}
use Rattle.printing.specs.Puts.{Wrote}
use Rattle.printing.specs.Sorts.{Sort, SortLaws}
use Rattle.printing.specs.Walk.{Walked, OnePut}
use Rattle.printing.proofs.Putting.{join, nothing}

-- of the things that were to be put, the n that are left: once they are put too, all are
pub record Left {X : Type 0} (b : List X → List ℕ) (f : List X → Bool) (t : List X → List ℕ) (bs : List ℕ) (n : ℕ) (from now : Writer) (all : List X) (rest : List ℕ) : Type 0 where
  pub xs : List X
  pub bytes : bs ≡ b xs ++ rest
  pub fit : f xs ≡ true
  pub count : length xs ≡ n
  pub on : (new : Writer) → Wrote now (t xs) new → Wrote from (t all) new

pub left_all :
    {X : Type 0} {b : List X → List ℕ} {f : List X → Bool} {t : List X → List ℕ} {bs : List ℕ} {n : ℕ} (from : Writer) (all : List X) (rest : List ℕ) →
    bs ≡ b all ++ rest → f all ≡ true → length all ≡ n → Left b f t bs n from from all rest
left_all from all rest e h l = record { xs = all; bytes = e; fit = h; count = l; on = λ new p. p }

module _ {s : Sort} (laws : SortLaws s) {bs : List ℕ} {n : ℕ} {from now : Writer} {all : List s.0} {rest : List ℕ} where
  more :
      {m : ℕ} {left : List ℕ} {mid : Writer} → n ≡ m + 1 → OnePut s bs now mid left → (xs : List s.0) → bs ≡ s.1.all_bytes xs ++ rest → s.1.all_fit xs ≡ true → length xs ≡ n →
      ((new : Writer) → Wrote now (s.1.all_text xs) new → Wrote from (s.1.all_text all) new) →
      Left s.1.all_bytes s.1.all_fit s.1.all_text left m from mid all rest
  more some one [] e h l on = absurd (omega arith)
  more some one (x ∷ xs) e h l on =
      let p = laws.more_fit x xs h in
      let w = one x (s.1.all_bytes xs ++ rest) (e ∙ ap (λ y. y ++ rest) (laws.more_bytes x xs) ∙ append_assoc (s.1.bytes x) (s.1.all_bytes xs) rest) p.0 in
      record {
        xs = xs;
        bytes = w.next;
        fit = p.1;
        count = omega arith;
        on = λ new q. on new (subst (λ y. Wrote now y new) (sym (laws.more_text x xs)) (join w.wrote q));
      }

  pub left_more :
      {m : ℕ} {left : List ℕ} {mid : Writer} → n ≡ m + 1 → OnePut s bs now mid left → Left s.1.all_bytes s.1.all_fit s.1.all_text bs n from now all rest →
      Left s.1.all_bytes s.1.all_fit s.1.all_text left m from mid all rest
  left_more some one l = more some one l.xs l.bytes l.fit l.count l.on

  pub left_end : n ≡ 0 → Left s.1.all_bytes s.1.all_fit s.1.all_text bs n from now all rest → Walked from now (s.1.all_text all) bs rest
  left_end z l =
      let none : l.xs ≡ [] = nil_from_length l.xs (l.count ∙ z) in
      record {
        wrote = l.on now (subst (λ y. Wrote now y now) (sym (ap s.1.all_text none ∙ laws.no_text)) (nothing now));
        next = l.bytes ∙ ap (λ y. y ++ rest) (ap s.1.all_bytes none ∙ laws.no_bytes);
      }
