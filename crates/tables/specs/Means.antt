-- What lent memory means: which limits a server has, and which tables stand in its state. Assumes nothing: these are definitions.
use Rattle.std.specs.Prelude.{◌≡◌, ℕ, zero, suc, ◌+◌, ◌*◌, ◌<◌, ◌≤◌, true, cond, List, [], ◌∷◌, ◌++◌, length, take, drop, ◌==◌, slice_index, slice_index_or}
use Rattle.rules.specs.declared.Move.{Move}
use Rattle.rules.specs.declared.Limits.{Limits}
use Rattle.rules.specs.Rules.{Game}
use Rattle.rules.specs.Calls.{Table, State, table_at, total_played, end_of}
use Rattle.rules.specs.Bounds.{good_game, good_limits}
use Rattle.rows.specs.Layout.{game_at}
use Rattle.wire.specs.Games.{size_of}
use Rattle.tables.specs.Layout.{mark, sizes_of, record_place, entry_place, state_words}
use Rattle.tables.specs.Changes.{flag}

-- what the header says
pub record Headed (w : List ℕ) (l : Limits) (s : State) : Type 0 where
  pub marked : slice_index_or w 0 0 ≡ mark
  pub tables : slice_index_or w 1 0 ≡ l.tables
  pub moves : slice_index_or w 2 0 ≡ l.moves
  pub positions : slice_index_or w 3 0 ≡ l.positions
  pub cells : slice_index_or w 4 0 ≡ length s.game.start
  pub players : slice_index_or w 5 0 ≡ s.game.players
  pub rules_size : slice_index_or w 6 0 ≡ (sizes_of l (size_of s.game)).rules
  pub scratch_size : slice_index_or w 7 0 ≡ (sizes_of l (size_of s.game)).scratch
  pub answer_size : slice_index_or w 8 0 ≡ (sizes_of l (size_of s.game)).answer
  pub seated : slice_index_or w 9 0 ≡ length s.tables
  pub played : slice_index_or w 10 0 ≡ total_played s.tables

-- the record at place a is that of table u of game g
pub record Stored (w : List ℕ) (g : Game) (a : ℕ) (u : Table) : Type 0 where
  pub cells : take (length g.start) (drop a w) ≡ u.cells
  pub clocks : take g.players (drop (a + length g.start) w) ≡ u.clocks
  pub clocked : slice_index_or w (a + length g.start + 4) 0 ≡ flag u.clocked
  pub end : slice_index_or w (a + length g.start + 5) 0 ≡ end_of g u
  pub count : slice_index_or w (a + length g.start + 6) 0 ≡ length u.played

-- the move in the entry at a place
abbrev pub move_in : List ℕ → ℕ → Move
move_in w e = record { rule = slice_index w e; first = slice_index w (e + 1); second = slice_index w (e + 2) }

-- of the first k entries, `from` being the place of the first and `owner` the table of each, the moves of table t
unfoldable pub moves_of : List ℕ → ℕ → (ℕ → ℕ) → ℕ → ℕ → List Move
moves_of w from owner t zero = []
moves_of w from owner t (suc k) = moves_of w from owner t k ++ cond (owner k == t) (move_in w (from + 4 * k) ∷ []) []

-- where the word stands that names the next entry of a table after those of the first k that are its own: `first` if there is none of them
unfoldable pub link_of : ℕ → ℕ → (ℕ → ℕ) → ℕ → ℕ → ℕ
link_of first from owner t zero = first
link_of first from owner t (suc k) = cond (owner k == t) (from + 4 * k + 3) (link_of first from owner t k)

-- the entries are the moves played at each table, in order, and each table's own entries name one another
pub record Logged (w : List ℕ) (cells from : ℕ) (s : State) : Type 0 where
  pub owner : ℕ → ℕ
  pub owned : (k : ℕ) → k < total_played s.tables → owner k < length s.tables
  pub moves : (t : ℕ) → moves_of w from owner t (total_played s.tables) ≡ (table_at s t).played
  pub named :
      (k : ℕ) → k < total_played s.tables
      → slice_index w (link_of (record_place cells (owner k) + cells + 7) from owner (owner k) k) ≡ k
  pub awaits :
      (t : ℕ) → t < length s.tables
      → slice_index w (record_place cells t + cells + 8) ≡ link_of (record_place cells t + cells + 7) from owner t (total_played s.tables)

-- rules and state are those of a server with limits l that has come to s
pub record Means (rules state : List ℕ) (l : Limits) (s : State) : Type 0 where
  pub game : game_at rules ≡ s.game
  pub good : good_game s.game ≡ true
  pub limits : good_limits l ≡ true
  pub few_tables : length s.tables ≤ l.tables
  pub few_moves : total_played s.tables ≤ l.moves
  pub room : state_words (length s.game.start) l.tables l.moves ≤ length state
  pub head : Headed state l s
  pub each : (t : ℕ) → t < length s.tables → Stored state s.game (record_place (length s.game.start) t) (table_at s t)
  pub log : Logged state (length s.game.start) (entry_place (length s.game.start) l.tables 0) s
