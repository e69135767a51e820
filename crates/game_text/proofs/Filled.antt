-- Bytes in lent memory, one more or one changed.
use Rattle.std.proofs.Common.{◌≡◌, ℕ, List, [], ◌∷◌, ◌++◌, length, set, sym, refl, ap, ◌∙◌}
use Rattle.game_text.specs.Filling.{filled}

filled_none : (bs : List ℕ) → filled bs [] ≡ []
unfolding filled
filled_none [] = refl
filled_none (b ∷ bs) = refl

filled_nothing : (old : List ℕ) → filled [] old ≡ old
unfolding filled
filled_nothing [] = refl
filled_nothing (o ∷ old) = refl

filled_both : (b o : ℕ) (bs old : List ℕ) → filled (b ∷ bs) (o ∷ old) ≡ b ∷ filled bs old
unfolding filled
filled_both b o bs old = refl

pub filled_start : (old : List ℕ) → filled [] old ≡ old
filled_start = filled_nothing

-- a byte behind those that are there
pub filled_more : (d old : List ℕ) (b : ℕ) → set (filled d old) (length d) b ≡ filled (d ++ (b ∷ [])) old
filled_more d [] b = ap (λ l. set l (length d) b) (filled_none d) ∙ sym (filled_none (d ++ (b ∷ [])))
filled_more [] (o ∷ old) b = ap (λ l. set l 0 b) (filled_nothing (o ∷ old)) ∙ sym (filled_both b o [] old ∙ ap (λ l. b ∷ l) (filled_nothing old))
filled_more (x ∷ d) (o ∷ old) b =
    ap (λ l. set l (length (x ∷ d)) b) (filled_both x o d old) ∙ ap (λ l. x ∷ l) (filled_more d old b) ∙ sym (filled_both x o (d ++ (b ∷ [])) old)

-- one that is there, changed
pub filled_set : (pre : List ℕ) (y : ℕ) (post old : List ℕ) (v : ℕ) → set (filled (pre ++ (y ∷ post)) old) (length pre) v ≡ filled (pre ++ (v ∷ post)) old
filled_set pre y post [] v = ap (λ l. set l (length pre) v) (filled_none (pre ++ (y ∷ post))) ∙ sym (filled_none (pre ++ (v ∷ post)))
filled_set [] y post (o ∷ old) v = ap (λ l. set l 0 v) (filled_both y o post old) ∙ sym (filled_both v o post old)
filled_set (x ∷ pre) y post (o ∷ old) v =
    ap (λ l. set l (length (x ∷ pre)) v) (filled_both x o (pre ++ (y ∷ post)) old) ∙ ap (λ l. x ∷ l) (filled_set pre y post old v)
    ∙ sym (filled_both x o (pre ++ (v ∷ post)) old)
