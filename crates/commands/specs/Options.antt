-- What the words of a command line ask for. Assumes nothing: these are definitions.
use Rattle.std.specs.Prelude.{String, string_bytes, slice_get, [], ℕ, Bool, true, false, cond, ◌&&◌, List, length, Some, None, Ok, Err, codes, Option, Result, ◌==◌, nat_lt, slice_index}
use Rattle.std.specs.Str.{bytes_eq}
use Rattle.std.specs.Option.{option_map_or}
use Rattle.text.specs.Grammar.{number_of}
use Rattle.commands.specs.Faults.{and_then, taken}
use Rattle.rules.specs.declared.Limit.TheVariants.{Tables, Moves, Positions}
use Rattle.rules.specs.Bounds.{with_limit, usual_limits}
use Rattle.commands.specs.declared.options.Kind.{Kind}
use Rattle.commands.specs.declared.options.Kind.TheVariants as kind
use Rattle.commands.specs.declared.options.Given.{Given}
use Rattle.commands.specs.declared.options.Request.{Request}
use Rattle.commands.specs.declared.options.Request.TheVariants as request
use Rattle.commands.specs.declared.options.Fault.{Fault}
use Rattle.commands.specs.declared.options.Fault.TheVariants.{UnknownOption, BadNumber, ExtraFile, MissingNumber, MissingGame}

-- a word that begins with '-' is an option
abbrev pub begins_as_option : List ℕ → Bool
begins_as_option w = nat_lt 0 (length w) && slice_index w 0 == 45

-- what kind of word it is
abbrev pub word_kind : List ℕ → Kind
word_kind w =
    cond (bytes_eq w (codes "--help")) kind.Help
    (cond (bytes_eq w (codes "--tables")) (kind.Number Tables)
    (cond (bytes_eq w (codes "--moves")) (kind.Number Moves)
    (cond (bytes_eq w (codes "--positions")) (kind.Number Positions)
    (cond (begins_as_option w) kind.Unknown kind.File))))

abbrev pub by_option : {X Y : Type 0} → Option X → Y → (X → Y) → Y
by_option None y f = y
by_option (Some x) y f = f x

-- the first file is the game, the second the calls
abbrev pub with_file : Given → ℕ → Result Given Fault
with_file g i =
    by_option g.game (Ok (record { help = g.help; limits = g.limits; awaited = g.awaited; game = Some i; calls = g.calls }))
    (λ _. by_option g.calls (Ok (record { help = g.help; limits = g.limits; awaited = g.awaited; game = g.game; calls = Some i }))
    (λ _. Err (ExtraFile i)))

abbrev pub with_kind : Given → Kind → ℕ → Result Given Fault
with_kind g kind.Help i = Ok (record { help = true; limits = g.limits; awaited = g.awaited; game = g.game; calls = g.calls })
with_kind g (kind.Number x) i = Ok (record { help = g.help; limits = g.limits; awaited = Some x; game = g.game; calls = g.calls })
with_kind g kind.Unknown i = Err (UnknownOption i)
with_kind g kind.File i = with_file g i

-- word i: the number of the option before it, or an option or a file itself
unfoldable pub with_word : Given → List ℕ → ℕ → Result Given Fault
with_word g w i =
    by_option g.awaited (with_kind g (word_kind w) i)
    (λ x. by_option (number_of w) (Err (BadNumber i))
    (λ n. Ok (record { help = g.help; limits = with_limit g.limits x n; awaited = None; game = g.game; calls = g.calls })))

-- what is asked for once all words are taken
abbrev pub asked : Given → Result Request Fault
asked g =
    cond g.help (Ok request.Help)
    (by_option g.awaited (by_option g.game (Err MissingGame) (λ i. Ok (request.Run g.limits i g.calls))) (λ _. Err MissingNumber))

-- unless others are given: 16 tables, 1000 moves, 256 positions
abbrev pub nothing_given : Given
nothing_given = record { help = false; limits = usual_limits; awaited = None; game = None; calls = None }

unfoldable pub request_of : List (List ℕ) → Result Request Fault
request_of ws = and_then (taken with_word nothing_given ws 0) asked

-- a word of a command line, of no letters where there is none
abbrev pub word_of : {Z : Type 0} → List (String Z) → ℕ → List ℕ
word_of ws i = option_map_or string_bytes (slice_get ws i) []
