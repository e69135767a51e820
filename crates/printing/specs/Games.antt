-- How a game is printed: a line for the players, the cells, each rule, its guard and each of its effects, the end and the gain.
-- Assumes nothing: these are definitions.
use Rattle.std.specs.Prelude.{◌≡◌, ℕ, ◌*◌, ◌<◌, ◌≤◌, min, true, List, [], ◌∷◌, ◌++◌, length, Some, None, Ok, codes, Option, Result}
use Rattle.rules.specs.Rules.{Effect, Rule, Game}
use Rattle.wire.specs.Games.{game_bytes, fits_bytes, parse_game}
use Rattle.text.specs.Grammar.{Piece, number, printed_piece}
use Rattle.game_text.specs.Filling.{filled}
use Rattle.game_text.specs.Text.{expr_pieces, number_pieces, IsText}
use Rattle.game_text.specs.declared.progress.Fault.{Fault}
use Rattle.game_text.specs.Theorems.{Means}

-- a blank in front of each piece
unfoldable pub spaced : List Piece → List ℕ
spaced [] = []
spaced (p ∷ ps) = 32 ∷ (printed_piece p ++ spaced ps)

-- numbers with a blank in front of each
abbrev pub numbers_text : List ℕ → List ℕ
numbers_text ns = spaced (number_pieces ns)

-- a line: the word that it begins with, its pieces, and the end of the line
unfoldable pub line : List ℕ → List Piece → List ℕ
line w ps = w ++ (spaced ps ++ (10 ∷ []))

unfoldable pub printed_effects : List Effect → List ℕ
printed_effects [] = []
printed_effects (e ∷ es) = line (codes "  set") (expr_pieces e.cell ++ expr_pieces e.value) ++ printed_effects es

unfoldable pub printed_rules : List Rule → List ℕ
printed_rules [] = []
printed_rules (u ∷ us) =
    line (codes "rule") (number u.first_bound ∷ number u.second_bound ∷ [])
    ++ (line (codes "  may") (expr_pieces u.guard) ++ (printed_effects u.effects ++ printed_rules us))

unfoldable pub printed : Game → List ℕ
printed g =
    line (codes "players") (number g.players ∷ [])
    ++ (line (codes "cells") (number_pieces g.start) ++ (printed_rules g.rules
    ++ (line (codes "over") (expr_pieces g.terminal) ++ line (codes "gain") (expr_pieces g.payoff))))

-- the size of a text, as it is told: a size above the largest number that code has for one is told as that number
abbrev pub told : ℕ → ℕ
told n = min n 18446744073709551615

-- what printing the game that bytes are answers, and what it makes of memory: nothing where they are no game
abbrev pub printed_size : Option Game → Option ℕ
printed_size None = None
printed_size (Some g) = Some (told (length (printed g)))

abbrev pub printed_into : Option Game → List ℕ → List ℕ
printed_into None old = old
printed_into (Some g) old = filled (printed g) old

-- of fewer than 2 ^ 60 bytes, just the size of the text is told
abbrev pub ExactSize : List ℕ → Option ℕ → Type 0
ExactSize bs r = (g : Game) → parse_game bs ≡ Some g → length bs < 1152921504606846976 → r ≡ Some (length (printed g))

-- what is printed of a game whose numbers fit is its text
abbrev pub PrintedIsText : Type 0
PrintedIsText = (g : Game) → fits_bytes g ≡ true → IsText g (printed g)

-- memory ten times as large as a game's bytes has room for what is printed of it
abbrev pub PrintedFits : Type 0
PrintedFits = (g : Game) → fits_bytes g ≡ true → length (printed g) ≤ 10 * length (game_bytes g)

-- what is printed of a game whose numbers fit is read back as just this game
abbrev pub PrintedReadsBack : Type 0
PrintedReadsBack =
    (g : Game) → fits_bytes g ≡ true → (old new : List ℕ) (r : Result ℕ Fault) → Means (printed g) old r new →
    (r ≡ Ok (length (game_bytes g))) × (new ≡ filled (game_bytes g) old)
