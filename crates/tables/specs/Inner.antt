-- What the private functions are given, and what they answer. Assumes nothing: these are definitions.
use Rattle.std.specs.Prelude.{ℕ, ◌+◌, List, take, drop, set, slice_index, slice_set}
use borrow.Rule.Slice.PartMut.{put_mid}
use Rattle.rules.specs.declared.Move.{Move}
use Rattle.rules.specs.Rules.{Game}
use Rattle.tables.specs.declared.plan.Plan.{Plan}
use Rattle.tables.specs.declared.acting.Seat.{Seat}
use Rattle.tables.specs.Layout.{record_words, entry_place}
use Rattle.tables.specs.Changes.{advanced, with_entry}

-- the seat whose record stands at place a
abbrev pub seat_with : List ℕ → Plan → ℕ → Seat
seat_with w p a =
    record { at = a; cells = p.cells; players = p.players; end = slice_index w (a + p.cells + 5); played = slice_index w (a + p.cells + 6) }

-- the state after move v at the table whose record stands at place a
unfoldable pub played_from : Game → List ℕ → Plan → ℕ → Move → List ℕ
played_from g w p a v =
    let e : ℕ = entry_place p.cells p.tables p.played in
    let n : ℕ = record_words p.cells in
    set (with_entry (slice_set (put_mid a n w (advanced g p.cells (take n (drop a w)) v (e + 3))) (slice_index w (a + p.cells + 8)) p.played) e v) 10
    (p.played + 1)
