-- Answers as lines of text, without the end of the line. Assumes nothing: these are definitions.
use Rattle.std.specs.Prelude.{◌≡◌, ℕ, ◌+◌, ◌*◌, ◌≤◌, true, cond, List, [], ◌∷◌, ◌++◌, length, Some, None, codes, decimal, Option, ◌==◌}
use Rattle.rules.specs.declared.Move.{Move}
use Rattle.rules.specs.Calls.{Answer, refused, number, shown, listed, forced}
use Rattle.answers.specs.Answers.{answer_bytes, fits_answer}
use Rattle.game_text.specs.Filling.{filled}
use Rattle.printing.specs.Games.{numbers_text}

-- 0 a game goes on, 2 it is over by time; any other number is that it is over
unfoldable pub end_text : ℕ → List ℕ
end_text e = cond (e == 0) (codes "goes on") (cond (e == 2) (codes "over by time") (codes "over"))

-- where there are no clocks, nothing is said of them
unfoldable pub clocks_text : List ℕ → List ℕ
clocks_text [] = []
clocks_text (c ∷ cs) = codes ", clocks" ++ numbers_text (c ∷ cs)

-- a move: its rule, its first number and its second
unfoldable pub move_text : Move → List ℕ
move_text v = decimal v.rule ++ numbers_text (v.first ∷ v.second ∷ [])

-- the moves after the first
unfoldable pub later_moves : List Move → List ℕ
later_moves [] = []
later_moves (v ∷ vs) = codes ", " ++ (move_text v ++ later_moves vs)

unfoldable pub moves_text : List Move → List ℕ
moves_text [] = codes "none"
moves_text (v ∷ vs) = move_text v ++ later_moves vs

unfoldable pub answer_text : Answer → List ℕ
answer_text (refused r) = codes "refused " ++ (decimal r.number ++ (codes " at " ++ decimal r.place))
answer_text (number n) = decimal n
answer_text (shown p t e cs) =
    codes "cells" ++ (numbers_text p ++ (codes ", turn " ++ (decimal t ++ (codes ", " ++ (end_text e ++ clocks_text cs)))))
answer_text (listed vs) = moves_text vs
answer_text (forced n) = decimal n

-- what printing the answer that bytes are answers, and what it makes of memory: nothing where they are no answer
abbrev pub answer_size : Option Answer → Option ℕ
answer_size None = None
answer_size (Some a) = Some (length (answer_text a))

abbrev pub answer_into : Option Answer → List ℕ → List ℕ
answer_into None old = old
answer_into (Some a) old = filled (answer_text a) old

-- memory three times as large as an answer's bytes, and 5 more, has room for its line
abbrev pub AnswerTextFits : Type 0
AnswerTextFits = (a : Answer) → fits_answer a ≡ true → length (answer_text a) ≤ 3 * length (answer_bytes a) + 5
