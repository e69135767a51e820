-- Where things stand in a server's state. Assumes nothing: these are definitions.
-- First a header of 16 words, then a record for each table that there may be, then an entry for each move that may be played.
use Rattle.std.specs.Prelude.{ℕ, ◌+◌, ◌*◌, Bool, cond, ◌&&◌, List, length, Some, None, Option, ◌==◌, nat_le, slice_index}
use Rattle.rules.specs.declared.Limits.{Limits}
use Rattle.wire.specs.declared.games.GameSize.{GameSize}
use Rattle.rows.specs.Layout.{words_needed}
use Rattle.tables.specs.declared.plan.Plan.{Plan}
use Rattle.tables.specs.declared.plan.Sizes.{Sizes}

-- the header's first word tells that memory was made by opening a server
abbrev pub mark : ℕ
mark = 1465208388

abbrev pub header_words : ℕ
header_words = 16

-- a table's record: its cells, then clocks for four players, whether it has clocks, its end (0, 1 or 2), how many moves were played,
-- the first entry of its moves, and the place of the word that is to name its next entry
abbrev pub record_words : ℕ → ℕ
record_words cells = cells + 9

abbrev pub record_place : ℕ → ℕ → ℕ
record_place cells t = header_words + t * record_words cells

-- a move's entry: rule, first, second, and the next entry of the same table
abbrev pub entry_place : ℕ → ℕ → ℕ → ℕ
entry_place cells tables k = record_place cells tables + 4 * k

abbrev pub state_words : ℕ → ℕ → ℕ → ℕ
state_words cells tables moves = entry_place cells tables moves

-- how much memory a server is lent: words for its rules, its state and its searches, and bytes for an answer
abbrev pub sizes_of : Limits → GameSize → Sizes
sizes_of l z = record {
  rules = words_needed z;
  state = state_words z.cells l.tables l.moves;
  scratch = 2 * l.positions * (z.cells + 16) + 512;
  answer = 12 * z.moves + 4096;
}

-- the sizes that a good game can have
unfoldable pub good_size : GameSize → Bool
good_size z =
    (nat_le z.players 4 && (nat_le z.cells 256 && nat_le z.rules 64))
    && (nat_le z.effects 16384 && (nat_le z.moves 4096 && nat_le z.parts 16384))

-- the header as a plan: limits, sizes of the game, how many tables there are, and how many moves were played at all of them
abbrev pub plan_in : List ℕ → Plan
plan_in w = record {
  tables = slice_index w 1;
  moves = slice_index w 2;
  cells = slice_index w 4;
  players = slice_index w 5;
  seated = slice_index w 9;
  played = slice_index w 10;
}

-- the plan can be that of an opening, and memory is as long as it asks for
abbrev pub good_plan : Plan → ℕ → Bool
good_plan p size =
    (nat_le p.tables 1024 && (nat_le p.moves 1000000 && (nat_le p.cells 256 && nat_le p.players 4)))
    && ((nat_le p.seated p.tables && nat_le p.played p.moves) && nat_le (state_words p.cells p.tables p.moves) size)

unfoldable pub plan_of : List ℕ → Option Plan
plan_of w = cond ((nat_le header_words (length w) && slice_index w 0 == mark) && good_plan (plan_in w) (length w)) (Some (plan_in w)) None
