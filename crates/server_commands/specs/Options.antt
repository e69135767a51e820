-- What the words of a command line ask for. Assumes nothing: these are definitions.
use Rattle.std.specs.Prelude.{ℕ, Bool, true, false, cond, ◌&&◌, List, Some, None, Ok, Err, codes, Option, Result, is_none}
use Rattle.std.specs.Str.{bytes_eq}
use Rattle.rules.specs.declared.Limits.{Limits}
use Rattle.commands.specs.declared.options.Fault.{Fault}
use Rattle.commands.specs.declared.options.Fault.TheVariants.{ExtraFile, MissingNumber, MissingGame}
use Rattle.commands.specs.Faults.{and_then, taken}
use Rattle.commands.specs.Options as common
use Rattle.server_commands.specs.declared.options.Task.{Task}
use Rattle.server_commands.specs.declared.options.Task.TheVariants as task
use Rattle.server_commands.specs.declared.options.Given.{Given}
use Rattle.server_commands.specs.declared.options.Request.{Request}
use Rattle.server_commands.specs.declared.options.Request.TheVariants as request

-- word i is this option, and not the number of the one before it
abbrev pub is_option : Given → List ℕ → List ℕ → Bool
is_option g w option = bytes_eq w option && is_none g.common.awaited

-- word i: one of three options, or what is common to all programs. Of two options that say what is done with the game the last counts
unfoldable pub with_word : Given → List ℕ → ℕ → Result Given Fault
with_word g w i =
    cond (is_option g w (codes "--large")) (Ok (record { common = g.common; large = true; task = g.task }))
    (cond (is_option g w (codes "--print")) (Ok (record { common = g.common; large = g.large; task = task.Print }))
    (cond (is_option g w (codes "--bytes")) (Ok (record { common = g.common; large = g.large; task = task.Bytes }))
    (and_then (common.with_word g.common w i) (λ h. Ok (record { common = h; large = g.large; task = g.task })))))

-- what is asked for of the game, which is word i. Only a server takes a second file
abbrev pub asked_of : Given → Task → ℕ → Result Request Fault
asked_of g task.Run i = Ok (request.Run g.common.limits g.large i g.common.calls)
asked_of g task.Print i = common.by_option g.common.calls (Ok (request.Print i)) (λ j. Err (ExtraFile j))
asked_of g task.Bytes i = common.by_option g.common.calls (Ok (request.Bytes i)) (λ j. Err (ExtraFile j))

-- what is asked for once all words are taken
abbrev pub asked : Given → Result Request Fault
asked g =
    cond g.common.help (Ok request.Help)
    (common.by_option g.common.awaited (common.by_option g.common.game (Err MissingGame) (asked_of g g.task)) (λ _. Err MissingNumber))

-- unless others are given: a server of the ordinary size, with the limits that are common to all programs
abbrev pub nothing_given : Given
nothing_given = record { common = common.nothing_given; large = false; task = task.Run }

unfoldable pub request_of : List (List ℕ) → Result Request Fault
request_of ws = and_then (taken with_word nothing_given ws 0) asked
