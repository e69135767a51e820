-- The letters of a line. Assumes nothing: these are definitions.
use Rattle.std.specs.Prelude.{ℕ, ◌-◌, cond, ◌&&◌, List, length, take, ◌==◌, nat_le, slice_index}

-- where a line's own letters end: before its LF, and before a CR in front of that
abbrev pub end_of_line : List ℕ → ℕ
end_of_line bs =
    cond (nat_le 1 (length bs) && slice_index bs (length bs - 1) == 10)
    (cond (nat_le 2 (length bs) && slice_index bs (length bs - 2) == 13) (length bs - 2) (length bs - 1)) (length bs)

abbrev pub letters : List ℕ → List ℕ
letters bs = take (end_of_line bs) bs
