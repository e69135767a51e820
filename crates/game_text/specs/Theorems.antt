-- What reading a game's text answers. The functions have these as their contracts.
use Rattle.std.specs.Prelude.{◌≡◌, ℕ, List, length, Ok, Err, Result}
use Rattle.rules.specs.Rules.{Game}
use Rattle.wire.specs.Games.{game_bytes}
use Rattle.text.specs.Grammar.{ReadsAs}
use Rattle.game_text.specs.declared.progress.Fault.{Fault}
use Rattle.game_text.specs.Text.{IsText}
use Rattle.game_text.specs.Filling.{filled}
use Rattle.game_text.specs.Machine.{expected_at}

-- the text of a game was read: how many bytes the game has, and those that have room are in the memory.
-- Or it is no game's text: the place is the length of its longest front that some game's text begins with, and what could have come there is told
abbrev pub Means : List ℕ → List ℕ → Result ℕ Fault → List ℕ → Type 0
Means text old (Ok n) exit = (g : Game) × IsText g text × (n ≡ length (game_bytes g)) × (exit ≡ filled (game_bytes g) old)
Means text old (Err f) exit = ReadsAs IsText text (Err f.place) × (f.expected ≡ expected_at text old f.place)

-- no text is that of two games
abbrev pub OneGameAText : Type 0
OneGameAText = (g h : Game) (text : List ℕ) → IsText g text → IsText h text → g ≡ h
