-- What holds of reading at every byte, so that no number in the code is too large. No reader has to believe these: the contract of the whole does not name them.
use Rattle.std.specs.Prelude.{◌≡◌, ℕ, ◌+◌, ◌-◌, ◌*◌, ◌<◌, ◌≤◌, List, take, drop, Some, None, Option}
use Rattle.wire.specs.Kinds.{kind_number}
use Rattle.game_text.specs.declared.progress.Stage.{Stage}
use Rattle.game_text.specs.declared.progress.Stage.TheVariants.{PlayersWord, PlayersNumber, CellsWord, Values, FirstBound, SecondBound, MayWord, Expr, Sets, GainWord, End}
use Rattle.game_text.specs.declared.progress.Word.{Word}
use Rattle.game_text.specs.declared.progress.Word.TheVariants.{Players, Cells, Rule, May, Set, Over, Gain, Kind}
use Rattle.game_text.specs.declared.progress.Progress.{Progress}
use Rattle.game_text.specs.declared.progress.Token.{Token}
use Rattle.game_text.specs.declared.progress.Token.TheVariants.{Gap, Comment, Digits, Letters}
use Rattle.game_text.specs.declared.progress.Reader.{Reader}
use Rattle.game_text.specs.Machine.{State, Machine, Lexer, gap, comment, digits, letters, bound}

-- a word that may be taken
abbrev pub Fine : Word → Progress → Type 0
Fine Players p = Unit {0}
Fine Cells p = Unit {0}
Fine Rule p = p.rules < 255
Fine May p = Unit {0}
Fine Set p = p.sets < 255
Fine Over p = Unit {0}
Fine Gain p = Unit {0}
Fine (Kind k) p = 1 ≤ kind_number k

-- how many bytes may be written for the piece that comes next, beyond the four that any piece has at most
abbrev pub slack : Stage → ℕ
slack PlayersWord = 0
slack PlayersNumber = 0
slack CellsWord = 2
slack Values = 2
slack FirstBound = 2
slack SecondBound = 2
slack MayWord = 2
slack Expr = 2
slack Sets = 2
slack GainWord = 2
slack End = 2

-- counts are no larger than n bytes of text allow: a piece and the white space after it have two bytes, and add at most four
pub record Room (p : Progress) (n : ℕ) : Type 0 where
  pub bytes : p.len + slack p.stage ≤ 2 * n
  pub few : p.more ≤ n

-- a piece was taken
pub record Grew (p q : Progress) : Type 0 where
  pub bytes : q.len + slack q.stage ≤ p.len + slack p.stage + 4
  pub few : q.more ≤ p.more + 2

abbrev pub Roomy : Option Progress → ℕ → Type 0
Roomy None n = Unit {0}
Roomy (Some q) n = Room q n

-- the code keeps where a word began
abbrev pub lexer_of : List ℕ → ℕ → Token → Lexer
lexer_of text i Gap = gap
lexer_of text i Comment = comment
lexer_of text i (Digits n) = digits n
lexer_of text i (Letters from) = letters (take (i - from) (drop from text))

abbrev pub Sane : ℕ → Progress → Token → Type 0
Sane i p Gap = Room p i
Sane i p Comment = Room p i
Sane i p (Digits n) = Room p (i - 1) × (1 ≤ i) × (n < bound p.stage p)
Sane i p (Letters from) = Room p (i - 1) × (from < i)

-- what the code has after a piece, and what the machine has
abbrev pub SameState : Option State → Option Progress → List ℕ → List ℕ → Type 0
SameState s None entry exit = (s ≡ None) × (exit ≡ entry)
SameState s (Some q) entry exit = s ≡ Some (record { at = q; memory = exit })

-- what a byte belongs to, in the code and in the machine, and that all is well before the next byte
abbrev pub SameLexer : Option Lexer → List ℕ → ℕ → Progress → Option Token → Type 0
SameLexer x text i p None = x ≡ None
SameLexer x text i p (Some t) = (x ≡ Some (lexer_of text i t)) × Sane i p t

-- a digit, which is no different wherever it stands
abbrev pub SameDigits : Option Lexer → ℕ → Progress → Option Token → Type 0
SameDigits x i p r = (text : List ℕ) → SameLexer x text i p r

abbrev pub machine_of : List ℕ → ℕ → Reader → List ℕ → Machine
machine_of text i m memory = record { at = m.at; lexer = lexer_of text i m.token; memory = memory }

-- after a byte
abbrev pub SameMachine : Option Machine → List ℕ → ℕ → Option Reader → List ℕ → List ℕ → Type 0
SameMachine x text i None entry exit = (x ≡ None) × (exit ≡ entry)
SameMachine x text i (Some m) entry exit = (x ≡ Some (machine_of text i m exit)) × Sane i m.at m.token
