-- What sitting down and playing a move make of a server's state, as lists. Assumes nothing: these are definitions.
use Rattle.std.specs.Prelude.{ℕ, zero, suc, ◌+◌, ◌-◌, min, Bool, cond, not, List, [], ◌∷◌, ◌++◌, take, drop, replicate, ◌==◌, slice_index, slice_index_or, slice_set}
use borrow.Rule.Slice.PartMut.{put_mid}
use Rattle.rules.specs.declared.Move.{Move}
use Rattle.rules.specs.declared.Limits.{Limits}
use Rattle.wire.specs.declared.games.GameSize.{GameSize}
use Rattle.rules.specs.Rules.{Game, apply}
use Rattle.rules.specs.Play.{is_over}
use Rattle.tables.specs.declared.plan.Plan.{Plan}
use Rattle.tables.specs.Layout.{mark, sizes_of, record_words, record_place, entry_place}

-- 1 or 0
abbrev pub flag : Bool → ℕ
flag b = cond b 1 0

-- the header that an opening writes: a mark, the limits, the game's cells and players, how long the other slices are at least, no tables and no moves
abbrev pub header : Limits → GameSize → List ℕ
header l z =
    mark ∷ l.tables ∷ l.moves ∷ l.positions ∷ z.cells ∷ z.players ∷ (sizes_of l z).rules ∷ (sizes_of l z).scratch ∷ (sizes_of l z).answer
    ∷ 0 ∷ 0 ∷ 0 ∷ 0 ∷ 0 ∷ 0 ∷ 0 ∷ []

unfoldable pub opened_in : List ℕ → Limits → GameSize → List ℕ
opened_in w l z = put_mid 0 16 w (header l z)

-- the first n cells of the game's start
unfoldable pub start_cells : Game → ℕ → List ℕ
start_cells g zero = []
start_cells g (suc n) = start_cells g n ++ (slice_index g.start n ∷ [])

-- the record of a new table at place a
unfoldable pub new_record : Game → ℕ → ℕ → ℕ → ℕ → List ℕ
new_record g cells players ticks a =
    start_cells g cells ++ (replicate players ticks ++ (replicate (4 - players) 0
    ++ (flag (not (ticks == 0)) ∷ flag (is_over g (start_cells g cells)) ∷ 0 ∷ 0 ∷ (a + cells + 7) ∷ [])))

-- the state after a new table was made
unfoldable pub sat_in : Game → List ℕ → Plan → ℕ → List ℕ
sat_in g w p ticks =
    let a : ℕ = record_place p.cells p.seated in
    slice_set (put_mid a (record_words p.cells) w (new_record g p.cells p.players ticks a)) 9 (p.seated + 1)

-- how many moves were played at a table, after one more
abbrev pub one_more : ℕ → ℕ
one_more n = min (n + 1) 4294967295

-- a table's record after move v, whose entry's last word stands at place e
unfoldable pub advanced : Game → ℕ → List ℕ → Move → ℕ → List ℕ
advanced g cells r v e =
    let q : List ℕ = apply g (take cells r) v in
    slice_set (slice_set (slice_set (put_mid 0 cells r q) (cells + 5) (flag (is_over g q))) (cells + 6) (one_more (slice_index r (cells + 6)))) (cells + 8) e

-- the words of an entry, but for the last
unfoldable pub with_entry : List ℕ → ℕ → Move → List ℕ
with_entry w e v = slice_set (slice_set (slice_set w e v.rule) (e + 1) v.first) (e + 2) v.second

-- the state after move v at table t: the record goes on, the word that was to name the table's next entry does, and the entry is written
unfoldable pub played_in : Game → List ℕ → Plan → ℕ → Move → List ℕ
played_in g w p t v =
    let a : ℕ = record_place p.cells t in
    let e : ℕ = entry_place p.cells p.tables p.played in
    let n : ℕ = record_words p.cells in
    let link : ℕ = slice_index_or w (a + p.cells + 8) 0 in
    slice_set (with_entry (slice_set (put_mid a n w (advanced g p.cells (take n (drop a w)) v (e + 3))) link p.played) e v) 10 (p.played + 1)
