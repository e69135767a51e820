-- Bytes put one after the other into lent memory, as the code puts them. No reader has to believe these: the contracts of the public functions do not name them.
use Rattle.std.specs.Prelude.{◌≡◌, ℕ, ◌+◌, min, List, [], ◌∷◌, slice_set}
use Rattle.printing.specs.declared.writer.Writer.{Writer}

-- places stop at the largest number that code has for one: no memory goes so far
abbrev pub after : ℕ → ℕ
after i = min (i + 1) 18446744073709551615

-- the place after bs, put from place i on
unfoldable pub past : ℕ → List ℕ → ℕ
past i [] = i
past i (b ∷ bs) = past (after i) bs

-- memory that held `old`, once bs are put there from place i on
unfoldable pub put : ℕ → List ℕ → List ℕ → List ℕ
put i [] old = old
put i (b ∷ bs) old = put (after i) bs (slice_set old i b)

-- bs were put where a writer stood, into its memory
pub record Wrote (old : Writer) (bs : List ℕ) (new : Writer) : Type 0 where
  pub same_memory : new.out.ghost_name ≡ old.out.ghost_name
  pub place : new.at ≡ past old.at bs
  pub bytes : new.out.now ≡ put old.at bs old.out.now
