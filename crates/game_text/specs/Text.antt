-- Games as plain text: what the text of a game is. Assumes nothing: these are definitions.
-- A text is a list of bytes, any bytes. Words and numbers stand between white space, as in the lines of calls.
use Rattle.std.specs.Prelude.{◌≡◌, ℕ, Bool, true, false, cond, not, ◌||◌, List, [], ◌∷◌, ◌++◌, codes, ◌==◌}
use Rattle.rules.specs.Rules.{Expr, Num, Cell, First, Second, Me, Add, Sub, Mul, Div, Rem, Lt, Eq, If, Effect, Rule, Game}
use Rattle.wire.specs.Games.{fits_bytes}
use Rattle.text.specs.Grammar.{Piece, word, number, blank, Written}

-- white space in a game's text: blanks and tabs, and what ends a line
abbrev pub white : ℕ → Bool
white b = blank b || (b == 10 || b == 13)

-- the text with white space and comments as blanks, letter by letter. A comment goes from '#' to the end of its line; c: a comment has begun
unfoldable pub blanked : Bool → List ℕ → List ℕ
blanked c [] = []
blanked c (b ∷ bs) = cond (cond c (not (b == 10)) (b == 35)) (32 ∷ blanked true bs) (cond (white b) 32 b ∷ blanked false bs)

-- an expression is written in front of its parts
unfoldable pub expr_pieces : Expr → List Piece
expr_pieces (Num n) = number n ∷ []
expr_pieces (Cell a) = word (codes "cell") ∷ expr_pieces a
expr_pieces First = word (codes "first") ∷ []
expr_pieces Second = word (codes "second") ∷ []
expr_pieces Me = word (codes "me") ∷ []
expr_pieces (Add a b) = word (codes "+") ∷ (expr_pieces a ++ expr_pieces b)
expr_pieces (Sub a b) = word (codes "-") ∷ (expr_pieces a ++ expr_pieces b)
expr_pieces (Mul a b) = word (codes "*") ∷ (expr_pieces a ++ expr_pieces b)
expr_pieces (Div a b) = word (codes "/") ∷ (expr_pieces a ++ expr_pieces b)
expr_pieces (Rem a b) = word (codes "rest") ∷ (expr_pieces a ++ expr_pieces b)
expr_pieces (Lt a b) = word (codes "below") ∷ (expr_pieces a ++ expr_pieces b)
expr_pieces (Eq a b) = word (codes "same") ∷ (expr_pieces a ++ expr_pieces b)
expr_pieces (If a b c) = word (codes "if") ∷ (expr_pieces a ++ (expr_pieces b ++ expr_pieces c))

unfoldable pub number_pieces : List ℕ → List Piece
number_pieces [] = []
number_pieces (n ∷ ns) = number n ∷ number_pieces ns

-- for each effect the cell's expression and the value's
unfoldable pub effects_pieces : List Effect → List Piece
effects_pieces [] = []
effects_pieces (e ∷ es) = word (codes "set") ∷ (expr_pieces e.cell ++ (expr_pieces e.value ++ effects_pieces es))

unfoldable pub rules_pieces : List Rule → List Piece
rules_pieces [] = []
rules_pieces (u ∷ us) =
    word (codes "rule") ∷ number u.first_bound ∷ number u.second_bound ∷ word (codes "may")
    ∷ (expr_pieces u.guard ++ (effects_pieces u.effects ++ rules_pieces us))

unfoldable pub game_pieces : Game → List Piece
game_pieces g =
    word (codes "players") ∷ number g.players ∷ word (codes "cells")
    ∷ (number_pieces g.start
    ++ (rules_pieces g.rules ++ (word (codes "over") ∷ (expr_pieces g.terminal ++ (word (codes "gain") ∷ expr_pieces g.payoff)))))

-- the text of a game: its pieces, with white space and comments between them. Its numbers and counts fit their bytes:
-- at most 255 players, 65,535 cells, 255 rules and 255 effects a rule, and no number above 65,535
abbrev pub IsText : Game → List ℕ → Type 0
IsText g text = (fits_bytes g ≡ true) × Written 0 (game_pieces g) (blanked false text)
