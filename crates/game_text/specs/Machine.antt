-- How a game's text is read, byte by byte, as a machine. What it answers is said in Theorems, apart from it: only what could have come
-- where a text can't be read on, `expected_at`, is as the machine says.
use Rattle.std.specs.Prelude.{ℕ, zero, suc, ◌+◌, ◌-◌, ◌*◌, ◌/◌, ◌%◌, Bool, true, false, cond, not, ◌&&◌, ◌||◌, List, [], ◌∷◌, ◌++◌, length, take, Some, None, Ok, Err, codes, Option, Result, ◌==◌, nat_lt, slice_set}
use Rattle.wire.specs.Exprs.{kind_after}
use Rattle.wire.specs.Kinds.{kind_number, kind_letters}
use Rattle.wire.specs.declared.kinds.ExprKind.TheVariants.{Cell, First, Second, Me, Add, Sub, Mul, Div, Rem, Lt, Eq, If}
use Rattle.text.specs.Grammar.{digit}
use Rattle.game_text.specs.declared.progress.Part.{Part}
use Rattle.game_text.specs.declared.progress.Part.TheVariants.{Guard, Effect, Terminal, Payoff}
use Rattle.game_text.specs.declared.progress.Stage.{Stage}
use Rattle.game_text.specs.declared.progress.Stage.TheVariants.{PlayersWord, PlayersNumber, CellsWord, Values, FirstBound, SecondBound, MayWord, Expr, Sets, GainWord, End}
use Rattle.game_text.specs.declared.progress.Word.{Word}
use Rattle.game_text.specs.declared.progress.Word.TheVariants.{Players, Cells, Rule, May, Set, Over, Gain, Kind}
use Rattle.game_text.specs.declared.progress.Progress.{Progress}
use Rattle.game_text.specs.declared.progress.Expected.{Expected}
use Rattle.game_text.specs.declared.progress.Expected.TheVariants.{ThePlayers, PlayerCount, TheCells, CellRuleOrOver, RuleOrOver, Number, TheMay, AnExpression, SetRuleOrOver, SetOrOver, TheOver, TheGain, TheEnd}
use Rattle.game_text.specs.declared.progress.Fault.{Fault}
use Rattle.game_text.specs.Text.{white}

-- how the words are written; a number has no letters
abbrev pub spelling : Word → List ℕ
spelling Players = codes "players"
spelling Cells = codes "cells"
spelling Rule = codes "rule"
spelling May = codes "may"
spelling Set = codes "set"
spelling Over = codes "over"
spelling Gain = codes "gain"
spelling (Kind k) = kind_letters k

abbrev pub kind_words : List Word
kind_words =
    Kind Cell ∷ Kind First ∷ Kind Second ∷ Kind Me ∷ Kind Add ∷ Kind Sub ∷ Kind Mul ∷ Kind Div ∷ Kind Rem ∷ Kind Lt ∷ Kind Eq ∷ Kind If ∷ []

-- the words that may come next: no 256th rule, no 256th effect
abbrev pub awaited : Stage → Progress → List Word
awaited PlayersWord p = Players ∷ []
awaited PlayersNumber p = []
awaited CellsWord p = Cells ∷ []
awaited Values p = cond (nat_lt p.rules 255) (Rule ∷ []) [] ++ (Over ∷ [])
awaited FirstBound p = []
awaited SecondBound p = []
awaited MayWord p = May ∷ []
awaited Expr p = kind_words
awaited Sets p = cond (nat_lt p.sets 255) (Set ∷ []) [] ++ (cond (nat_lt p.rules 255) (Rule ∷ []) [] ++ (Over ∷ []))
awaited GainWord p = Gain ∷ []
awaited End p = []

-- a number that comes next is below this; no 65,536th cell
abbrev pub bound : Stage → Progress → ℕ
bound PlayersWord p = 0
bound PlayersNumber p = 256
bound CellsWord p = 0
bound Values p = cond (nat_lt p.cells 65535) 65536 0
bound FirstBound p = 65536
bound SecondBound p = 65536
bound MayWord p = 0
bound Expr p = 65536
bound Sets p = 0
bound GainWord p = 0
bound End p = 0

-- the bytes l are a front of w
unfoldable pub is_front : List ℕ → List ℕ → Bool
is_front [] w = true
is_front (b ∷ l) [] = false
is_front (b ∷ l) (c ∷ w) = b == c && is_front l w

-- the first of some words that begins with l or, if all of it is asked for, that is l
unfoldable pub agrees : Bool → List ℕ → List ℕ → Bool
agrees whole l w = is_front l w && (not whole || length l == length w)

abbrev pub look : Bool → List Word → List ℕ → Option Word
look whole [] l = None
look whole (w ∷ ws) l = cond (agrees whole l (spelling w)) (Some w) (look whole ws l)

-- how far reading has come, and what the memory holds
pub record State : Type 0 where
  pub at : Progress
  pub memory : List ℕ

abbrev pub state_of : Progress → List ℕ → State
state_of p memory = record { at = p; memory = memory }

abbrev pub staged : Stage → ℕ → Progress → Progress
staged s n p = record { stage = s; part = p.part; more = p.more; cells = p.cells; rules = p.rules; sets = p.sets; len = n; sets_at = p.sets_at }

-- a part of the game, an expression, begins: how many more expressions follow this one
abbrev pub part_begun : Part → ℕ → Progress → Progress
part_begun t m p = record { stage = Expr; part = t; more = m; cells = p.cells; rules = p.rules; sets = p.sets; len = p.len; sets_at = p.sets_at }

abbrev pub put_two : List ℕ → ℕ → ℕ → List ℕ
put_two memory i n = slice_set (slice_set memory i (n % 256)) (i + 1) (n / 256)

-- after a part, n bytes being written and the last count of effects, k, standing at place i
abbrev pub part_left : Stage → ℕ → ℕ → ℕ → Progress → Progress
part_left s n k i p = record { stage = s; part = Guard; more = 0; cells = p.cells; rules = p.rules; sets = k; len = n; sets_at = i }

-- all of a part was read. After a guard comes the count of effects, at first 0
abbrev pub part_ended : Part → Progress → List ℕ → State
part_ended Guard p memory = record { at = part_left Sets (p.len + 1) 0 p.len p; memory = slice_set memory p.len 0 }
part_ended Effect p memory = record { at = part_left Sets p.len p.sets p.sets_at p; memory = memory }
part_ended Terminal p memory = record { at = part_left GainWord p.len p.sets p.sets_at p; memory = memory }
part_ended Payoff p memory = record { at = part_left End p.len p.sets p.sets_at p; memory = memory }

-- so many expressions of a part are still to come
abbrev pub pending : ℕ → Progress → List ℕ → State
pending zero p memory = part_ended p.part p memory
pending (suc m) p memory = record { at = part_begun p.part m p; memory = memory }

-- a number was read
abbrev pub number_taken : Stage → ℕ → Progress → List ℕ → State
number_taken PlayersWord n p memory = record { at = p; memory = memory }
number_taken PlayersNumber n p memory = record { at = staged CellsWord (p.len + 1) p; memory = slice_set memory p.len n }
number_taken CellsWord n p memory = record { at = p; memory = memory }
number_taken Values n p memory = record {
  at = record { stage = Values; part = p.part; more = p.more; cells = p.cells + 1; rules = p.rules; sets = p.sets; len = p.len + 2; sets_at = p.sets_at };
  memory = put_two (put_two memory p.len n) 1 (p.cells + 1);
}
number_taken FirstBound n p memory = record { at = staged SecondBound (p.len + 2) p; memory = put_two memory p.len n }
number_taken SecondBound n p memory = record { at = staged MayWord (p.len + 2) p; memory = put_two memory p.len n }
number_taken MayWord n p memory = record { at = p; memory = memory }
number_taken Expr n p memory = pending p.more (staged Expr (p.len + 3) p) (put_two (slice_set memory p.len 0) (p.len + 1) n)
number_taken Sets n p memory = record { at = p; memory = memory }
number_taken GainWord n p memory = record { at = p; memory = memory }
number_taken End n p memory = record { at = p; memory = memory }

-- after the rules
abbrev pub rules_left : ℕ → Progress → Progress
rules_left n p = record { stage = Expr; part = Terminal; more = 0; cells = p.cells; rules = p.rules; sets = 0; len = n; sets_at = 0 }

-- a word was read. Counts are brought up to date as a rule or an effect begins; the count of rules stands behind the cells, and comes with the first rule
abbrev pub word_taken : Word → Progress → List ℕ → State
word_taken Players p memory = record { at = staged PlayersNumber p.len p; memory = memory }
word_taken Cells p memory = record { at = staged Values (p.len + 2) p; memory = put_two memory p.len 0 }
word_taken Rule p memory = record {
  at = record {
    stage = FirstBound;
    part = p.part;
    more = p.more;
    cells = p.cells;
    rules = p.rules + 1;
    sets = p.sets;
    len = cond (p.rules == 0) (p.len + 1) p.len;
    sets_at = p.sets_at;
  };
  memory = slice_set memory (3 + 2 * p.cells) (p.rules + 1);
}
word_taken May p memory = record { at = part_begun Guard 0 p; memory = memory }
word_taken Set p memory = record {
  at = record { stage = Expr; part = Effect; more = 1; cells = p.cells; rules = p.rules; sets = p.sets + 1; len = p.len; sets_at = p.sets_at };
  memory = slice_set memory p.sets_at (p.sets + 1);
}
word_taken Over p memory =
    cond (p.rules == 0) (record { at = rules_left (p.len + 1) p; memory = slice_set memory p.len 0 }) (record { at = rules_left p.len p; memory = memory })
word_taken Gain p memory = record { at = part_begun Payoff 0 p; memory = memory }
word_taken (Kind k) p memory =
    pending (p.more + (kind_after (kind_number k - 1)).arity) (staged Expr (p.len + 1) p) (slice_set memory p.len (kind_number k))

-- what a byte belongs to: white space, a comment, a number of which the digits so far come to this, or a word with these letters so far
pub data Lexer : Type 0 where
  gap : Lexer
  comment : Lexer
  digits : ℕ → Lexer
  letters : List ℕ → Lexer

pub record Machine : Type 0 where
  pub at : Progress
  pub lexer : Lexer
  pub memory : List ℕ

abbrev pub and_then : {X Y : Type 0} → Option X → (X → Option Y) → Option Y
and_then None f = None
and_then (Some x) f = f x

-- if the bytes so far are all
abbrev pub settled : Lexer → Progress → List ℕ → Option State
settled gap p memory = Some (record { at = p; memory = memory })
settled comment p memory = Some (record { at = p; memory = memory })
settled (digits n) p memory = Some (number_taken p.stage n p memory)
settled (letters l) p memory = and_then (look true (awaited p.stage p) l) (λ w. Some (word_taken w p memory))

-- a byte that ends a word or a number
abbrev pub ends : ℕ → Bool
ends b = white b || b == 35

abbrev pub more_digits : ℕ → ℕ → Progress → Option Lexer
more_digits n b p =
    cond (digit b) (cond (nat_lt (n * 10 + (b - 48)) (bound p.stage p)) (Some (digits (n * 10 + (b - 48)))) None) None

abbrev pub more_letters : List ℕ → ℕ → Progress → Option Lexer
more_letters l b p = and_then (look false (awaited p.stage p) (l ++ (b ∷ []))) (λ w. Some (letters (l ++ (b ∷ []))))

-- what a byte that ends nothing adds to
abbrev pub added : Lexer → ℕ → Progress → Option Lexer
added gap b p = cond (digit b) (more_digits 0 b p) (more_letters [] b p)
added comment b p = Some comment
added (digits n) b p = more_digits n b p
added (letters l) b p = more_letters l b p

abbrev pub in_comment : Lexer → Bool
in_comment gap = false
in_comment comment = true
in_comment (digits n) = false
in_comment (letters l) = false

abbrev pub step : Machine → ℕ → Option Machine
step m b =
    cond (in_comment m.lexer) (Some (record { at = m.at; lexer = cond (b == 10) gap comment; memory = m.memory }))
    (cond (ends b)
    (and_then (settled m.lexer m.at m.memory) (λ s. Some (record { at = s.at; lexer = cond (b == 35) comment gap; memory = s.memory })))
    (and_then (added m.lexer b m.at) (λ x. Some (record { at = m.at; lexer = x; memory = m.memory }))))

-- the machine after some bytes, if they fit
unfoldable pub feed : Machine → List ℕ → Option Machine
feed m [] = Some m
feed m (b ∷ bs) = and_then (step m b) (λ n. feed n bs)

-- what could have come next
abbrev pub expecting : Stage → Progress → Expected
expecting PlayersWord p = ThePlayers
expecting PlayersNumber p = PlayerCount
expecting CellsWord p = TheCells
expecting Values p = cond (nat_lt p.cells 65535) CellRuleOrOver RuleOrOver
expecting FirstBound p = Number
expecting SecondBound p = Number
expecting MayWord p = TheMay
expecting Expr p = AnExpression
expecting Sets p = cond (nat_lt p.sets 255) (cond (nat_lt p.rules 255) SetRuleOrOver SetOrOver) (cond (nat_lt p.rules 255) RuleOrOver TheOver)
expecting GainWord p = TheGain
expecting End p = TheEnd

abbrev pub is_end : Stage → Bool
is_end PlayersWord = false
is_end PlayersNumber = false
is_end CellsWord = false
is_end Values = false
is_end FirstBound = false
is_end SecondBound = false
is_end MayWord = false
is_end Expr = false
is_end Sets = false
is_end GainWord = false
is_end End = true

-- what reading answers, and what the memory then holds
pub record Outcome : Type 0 where
  pub answer : Result ℕ Fault
  pub memory : List ℕ

abbrev pub fault_at : ℕ → Progress → Result ℕ Fault
fault_at i p = Err (record { place = i; expected = expecting p.stage p })

abbrev pub failed : ℕ → Progress → List ℕ → Outcome
failed i p memory = record { answer = fault_at i p; memory = memory }

-- the text has ended, at place i
abbrev pub at_end : Machine → Option State → ℕ → Outcome
at_end m None i = failed i m.at m.memory
at_end m (Some s) i =
    cond (is_end s.at.stage) (record { answer = Ok s.at.len; memory = s.memory }) (failed i s.at s.memory)

abbrev pub went_on : Machine → Option Machine → (Machine → Outcome) → ℕ → Outcome
went_on m None f i = failed i m.at m.memory
went_on m (Some n) f i = f n

-- reads on, from place i: a step, and so on until none is possible
unfoldable pub reading : Machine → List ℕ → ℕ → Outcome
reading m [] i = at_end m (settled m.lexer m.at m.memory) i
reading m (b ∷ bs) i = went_on m (step m b) (λ n. reading n bs (i + 1)) i

-- before any byte
abbrev pub beginning : Progress
beginning = record { stage = PlayersWord; part = Guard; more = 0; cells = 0; rules = 0; sets = 0; len = 0; sets_at = 0 }

abbrev pub start : List ℕ → Machine
start memory = record { at = beginning; lexer = gap; memory = memory }

unfoldable pub read : List ℕ → List ℕ → Outcome
read text memory = reading (start memory) text 0

-- what could have come at place i: what is awaited there or, where the text ends, after the piece that ends with it
abbrev pub expected_at_end : Machine → Option State → Expected
expected_at_end m None = expecting m.at.stage m.at
expected_at_end m (Some s) = expecting s.at.stage s.at

abbrev pub expected_by : Option Machine → Bool → Expected
expected_by None b = TheEnd
expected_by (Some m) true = expecting m.at.stage m.at
expected_by (Some m) false = expected_at_end m (settled m.lexer m.at m.memory)

unfoldable pub expected_at : List ℕ → List ℕ → ℕ → Expected
expected_at text memory i = expected_by (feed (start memory) (take i text)) (nat_lt i (length text))
