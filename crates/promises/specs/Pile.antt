-- A pile of 5 from which two players take in turn, played in bytes. Assumes nothing: these are statements.
use Rattle.std.specs.Prelude.{◌≡◌, ℕ, ◌≤◌, List, [], ◌∷◌, map}
use Rattle.rules.specs.declared.Limits.{Limits}
use Rattle.rules.specs.declared.Call.{Call}
use Rattle.rules.specs.declared.Call.TheVariants.{Sit, Play, See, May}
use Rattle.rules.specs.Calls.{Answer, refused, number, shown, listed}
use Rattle.wire.specs.Calls.{call_bytes}
use Rattle.wire.specs.Games.{game_bytes}
use Rattle.answers.specs.Answers.{answer_bytes}
use Rattle.laws.specs.Pile.{pile, taking}
use Rattle.tables.specs.declared.plan.Sizes.{Sizes}
use Rattle.session.specs.Opening.{Lent}
use Rattle.session.specs.Promise.{Run, Started}

-- a table without clocks is asked for, and its moves. Then player 1 would take 1, player 0 none, and player 0 takes 1; and the table is looked at
abbrev pub asked : List Call
asked = Sit 0 ∷ May 0 ∷ Play 0 1 (taking 1) ∷ Play 0 0 (taking 0) ∷ Play 0 0 (taking 1) ∷ See 0 ∷ []

-- it is table 0, and 1, 2 or 3 can be taken. It is not player 1's turn, to take none is not legal, and to take 1 is the first move.
-- Then it is player 1's turn, 4 are left, and the game goes on
abbrev pub told : List Answer
told =
    number 0 ∷ listed (taking 1 ∷ taking 2 ∷ taking 3 ∷ []) ∷ refused (record { number = 6; place = 1 }) ∷ refused (record { number = 7; place = 2 })
    ∷ number 1 ∷ shown (1 ∷ 4 ∷ []) 1 0 (0 ∷ 0 ∷ []) ∷ []

-- every server for a pile of 5 with room for a table and a move answers the bytes of these calls by the bytes of these answers
abbrev pub PileByBytes : Type 0
PileByBytes =
    (l : Limits) (z : Sizes) (n : Lent) (u : List ℕ) (rs : List (List ℕ)) → 1 ≤ l.tables → 1 ≤ l.moves → Started l (pile 5) z n
    → Run z n.rules n.state (map call_bytes asked) rs u → rs ≡ map answer_bytes told

-- the bytes of this game, which the tests of games as text compare with what they read
abbrev pub PileBytes : Type 0
PileBytes =
    game_bytes (pile 5)
    ≡ 2 ∷ 2 ∷ 0 ∷ 0 ∷ 0 ∷ 5 ∷ 0 ∷ 1 ∷ 4 ∷ 0 ∷ 1 ∷ 0 ∷ 7 ∷ 10 ∷ 0 ∷ 0 ∷ 0 ∷ 2 ∷ 10 ∷ 2 ∷ 5 ∷ 1 ∷ 0 ∷ 1 ∷ 0 ∷ 0 ∷ 1 ∷ 0 ∷ 2 ∷ 0 ∷ 1 ∷ 0 ∷ 6 ∷ 1 ∷ 0 ∷
    1 ∷ 0 ∷ 2 ∷ 0 ∷ 0 ∷ 0 ∷ 6 ∷ 0 ∷ 1 ∷ 0 ∷ 1 ∷ 0 ∷ 0 ∷ 0 ∷ 11 ∷ 1 ∷ 0 ∷ 1 ∷ 0 ∷ 0 ∷ 0 ∷ 0 ∷ 12 ∷ 11 ∷ 4 ∷ 9 ∷ 1 ∷ 0 ∷ 0 ∷ 0 ∷ 0 ∷ 2 ∷ 0 ∷ 0 ∷ 0
    ∷ 0 ∷ 0 ∷ 1 ∷ 0 ∷ []
