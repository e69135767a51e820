-- What the steps of printing a game find in its bytes. No reader has to believe these: the contract of the whole does not name them.
use Rattle.std.specs.Prelude.{◌≡◌, ℕ, Bool, true, ◌&&◌, List, [], ◌∷◌, ◌++◌, length, map, slice_index_or}
use Rattle.rules.specs.Rules.{Expr, Num, Cell, First, Second, Me, Add, Sub, Mul, Div, Rem, Lt, Eq, If}
use Rattle.wire.specs.Exprs.{expr_bytes, expr_fits}
use Rattle.wire.specs.Kinds.{kind_letters}
use Rattle.wire.specs.declared.kinds.ExprKind.TheVariants as kinds
use Rattle.text.specs.Grammar.{Piece, number}
use Rattle.game_text.specs.Text.{expr_pieces}
use Rattle.printing.specs.declared.writer.Writer.{Writer}
use Rattle.printing.specs.Games.{spaced, line}
use Rattle.printing.specs.Puts.{Wrote}
use Rattle.printing.specs.Sorts.{Sort}

-- expressions that follow one another
unfoldable pub exprs_bytes : List Expr → List ℕ
exprs_bytes [] = []
exprs_bytes (e ∷ es) = expr_bytes e ++ exprs_bytes es

unfoldable pub exprs_fit : List Expr → Bool
exprs_fit [] = true
exprs_fit (e ∷ es) = expr_fits e && exprs_fit es

unfoldable pub exprs_pieces : List Expr → List Piece
exprs_pieces [] = []
exprs_pieces (e ∷ es) = expr_pieces e ++ exprs_pieces es

-- the words of the kinds from 0 on, with a blank in front; a number has none
abbrev pub kind_words : List (List ℕ)
kind_words =
    [] ∷ map (λ k. 32 ∷ kind_letters k) (kinds.Cell ∷ kinds.First ∷ kinds.Second ∷ kinds.Me ∷ kinds.Add ∷ kinds.Sub ∷ kinds.Mul ∷ kinds.Div
    ∷ kinds.Rem ∷ kinds.Lt ∷ kinds.Eq ∷ kinds.If ∷ [])

abbrev pub kind_word : ℕ → List ℕ
kind_word k = slice_index_or kind_words k []

-- the parts that an expression is made of
unfoldable pub parts : Expr → List Expr
parts (Num n) = []
parts (Cell a) = a ∷ []
parts First = []
parts Second = []
parts Me = []
parts (Add a b) = a ∷ b ∷ []
parts (Sub a b) = a ∷ b ∷ []
parts (Mul a b) = a ∷ b ∷ []
parts (Div a b) = a ∷ b ∷ []
parts (Rem a b) = a ∷ b ∷ []
parts (Lt a b) = a ∷ b ∷ []
parts (Eq a b) = a ∷ b ∷ []
parts (If a b c) = a ∷ b ∷ c ∷ []

-- what is printed of an expression before its parts
unfoldable pub head_text : Expr → List ℕ
head_text (Num n) = spaced (number n ∷ [])
head_text (Cell a) = kind_word 1
head_text First = kind_word 2
head_text Second = kind_word 3
head_text Me = kind_word 4
head_text (Add a b) = kind_word 5
head_text (Sub a b) = kind_word 6
head_text (Mul a b) = kind_word 7
head_text (Div a b) = kind_word 8
head_text (Rem a b) = kind_word 9
head_text (Lt a b) = kind_word 10
head_text (Eq a b) = kind_word 11
head_text (If a b c) = kind_word 12

-- what stands before an expression's n parts was put, and they are what is left, before the rest
pub record Headed (old new : Writer) (e : Expr) (n : ℕ) (left rest : List ℕ) : Type 0 where
  pub wrote : Wrote old (head_text e) new
  pub next : left ≡ exprs_bytes (parts e) ++ rest
  pub count : n ≡ length (parts e)

-- a text was put, and the rest is what is left
pub record Walked (old new : Writer) (text left rest : List ℕ) : Type 0 where
  pub wrote : Wrote old text new
  pub next : left ≡ rest

-- what putting the one thing of a sort that bytes begin with comes to
abbrev pub OnePut : Sort → List ℕ → Writer → Writer → List ℕ → Type 0
OnePut s bs old new left = (x : s.0) (rest : List ℕ) → bs ≡ s.1.bytes x ++ rest → s.1.fits x ≡ true → Walked old new (s.1.text x) left rest

-- what putting the n things that bytes begin with comes to: b are their bytes, f says that they fit, t is their text
abbrev pub AllPut : {X : Type 0} → (List X → List ℕ) → (List X → Bool) → (List X → List ℕ) → ℕ → List ℕ → Writer → Writer → List ℕ → Type 0
AllPut {X} b f t n bs old new left =
    (xs : List X) (rest : List ℕ) → bs ≡ b xs ++ rest → f xs ≡ true → length xs ≡ n → Walked old new (t xs) left rest

abbrev pub EachPut : Sort → ℕ → List ℕ → Writer → Writer → List ℕ → Type 0
EachPut s = AllPut s.1.all_bytes s.1.all_fit s.1.all_text

abbrev pub exprs_text : List Expr → List ℕ
exprs_text es = spaced (exprs_pieces es)

-- a line that begins with a word, and has expressions
abbrev pub exprs_line : List ℕ → List Expr → List ℕ
exprs_line w es = line w (exprs_pieces es)
