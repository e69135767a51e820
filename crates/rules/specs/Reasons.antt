-- The closed list of refusals: a number for each reason, and the place that is at fault. Assumes nothing: these are definitions.
use Rattle.std.specs.Prelude.{ℕ}
use Rattle.rules.specs.declared.Refusal.{Refusal}
use Rattle.rules.specs.declared.Reason.{Reason}
use Rattle.rules.specs.declared.Reason.TheVariants.{NoCall, NotDone, NoGame, NotGood, NoMemory, NoTable, TableOver, NotTheirTurn, NotLegal, Full}

abbrev pub refused_by : ℕ → ℕ → Refusal
refused_by k i = record { number = k; place = i }

abbrev pub refusal_by : Reason → Refusal
refusal_by (NoCall i) = refused_by 1 i
refusal_by (NotDone i) = refused_by 2 i
refusal_by NoGame = refused_by 3 0
refusal_by NotGood = refused_by 3 1
refusal_by NoMemory = refused_by 3 2
refusal_by NoTable = refused_by 4 0
refusal_by TableOver = refused_by 5 0
refusal_by NotTheirTurn = refused_by 6 1
refusal_by NotLegal = refused_by 7 2
refusal_by Full = refused_by 8 0
