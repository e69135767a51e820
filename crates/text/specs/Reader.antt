-- How a line is read, as a function. What it answers is said in Grammar: nobody has to believe this one.
-- Each reader goes on at place i of the line, and `bs` is what the line has from there.
use Rattle.std.specs.Prelude.{ℕ, ◌+◌, ◌-◌, ◌*◌, max, cond, List, [], ◌∷◌, length, drop, Ok, Err, codes, Result, ◌==◌, nat_lt}
use Rattle.rules.specs.declared.Call.{Call}
use Rattle.rules.specs.declared.Call.TheVariants.{Sit, Play, Ticks, See, May, Back, CanForce}
use Rattle.text.specs.Grammar.{blank, digit}

abbrev pub and_then : {X Y : Type 0} → Result X ℕ → (X → Result Y ℕ) → Result Y ℕ
and_then (Ok x) f = f x
and_then (Err i) f = Err i

-- the place after a step of reading, where the code then stands
abbrev pub placed : Result (Unit {0}) ℕ → ℕ → Result ℕ ℕ
placed (Ok u) j = Ok j
placed (Err i) j = Err i

-- a number that was found, and the place after it
abbrev pub found : Result ℕ ℕ → ℕ → Result (ℕ × ℕ) ℕ
found (Ok n) j = Ok (n, j)
found (Err i) j = Err i

-- where white space ends
unfoldable pub past : List ℕ → ℕ → ℕ
past [] i = i
past (b ∷ bs) i = cond (blank b) (past bs (i + 1)) i

-- where white space ends, if there is enough of it
abbrev pub gap_at : ℕ → List ℕ → ℕ → Result ℕ ℕ
gap_at least line i = cond (nat_lt (past (drop i line) i) (i + least)) (Err (past (drop i line) i)) (Ok (past (drop i line) i))

-- where the word ends, if it stands here, or the first byte that is not the word's
unfoldable pub letters_at : List ℕ → List ℕ → ℕ → Result ℕ ℕ
letters_at [] bs i = Ok i
letters_at (w ∷ ws) [] i = Err i
letters_at (w ∷ ws) (b ∷ bs) i = cond (b == w) (letters_at ws bs (i + 1)) (Err i)

-- the number that the digits come to, n being what went before, and where they end; or the digit that makes it too large
unfoldable pub digits_at : List ℕ → ℕ → ℕ → Result (ℕ × ℕ) ℕ
digits_at [] n i = Ok (n, i)
digits_at (b ∷ bs) n i =
    cond (digit b) (cond (nat_lt (n * 10 + (b - 48)) 4294967296) (digits_at bs (n * 10 + (b - 48)) (i + 1)) (Err i)) (Ok (n, i))

-- a number has a digit
abbrev pub some_digits : List ℕ → ℕ → Result (ℕ × ℕ) ℕ
some_digits bs i = and_then (digits_at bs 0 i) (λ n. cond (n.1 == i) (Err i) (Ok n))

-- a word or a number after white space
abbrev pub word_at : List ℕ → ℕ → List ℕ → ℕ → Result ℕ ℕ
word_at letters least line i = and_then (gap_at least line i) (λ j. letters_at letters (drop j line) j)

abbrev pub number_at : ℕ → List ℕ → ℕ → Result (ℕ × ℕ) ℕ
number_at least line i = and_then (gap_at least line i) (λ j. some_digits (drop j line) j)

-- the line ends, but for white space
abbrev pub end_at : List ℕ → ℕ → Call → Result Call ℕ
end_at line i c = cond (past (drop i line) i == length line) (Ok c) (Err (past (drop i line) i))

-- a form of call: what is still to come, and the call that it makes. A number that comes goes into what follows
pub data Form : Type 0 where
  done : Call → Form
  the : List ℕ → Form → Form
  ask : (ℕ → Form) → Form

abbrev pub fit : Form → ℕ → List ℕ → ℕ → Result Call ℕ
fit (done c) least line i = end_at line i c
fit (the w f) least line i = and_then (word_at w least line i) (λ j. fit f 1 line j)
fit (ask f) least line i = and_then (number_at least line i) (λ n. fit (f n.0) 1 line n.1)

abbrev pub sit_form : Form
sit_form = the (codes "sit") (ask (λ n. done (Sit n)))

abbrev pub play_form : Form
play_form = the (codes "play") (ask (λ t. ask (λ m. ask (λ r. ask (λ x. ask (λ y. done (Play t m (record { rule = r; first = x; second = y }))))))))

abbrev pub ticks_form : Form
ticks_form = the (codes "ticks") (ask (λ n. done (Ticks n)))

abbrev pub see_form : Form
see_form = the (codes "see") (ask (λ t. done (See t)))

abbrev pub may_form : Form
may_form = the (codes "may") (ask (λ t. done (May t)))

abbrev pub back_form : Form
back_form = the (codes "back") (ask (λ t. ask (λ n. done (Back t n))))

abbrev pub force_form : Form
force_form = the (codes "can") (the (codes "force") (ask (λ t. ask (λ m. ask (λ k. ask (λ d. done (CanForce t m k d)))))))

-- the call if there is one, and else the place that is further on
abbrev pub better : Result Call ℕ → Result Call ℕ → Result Call ℕ
better (Ok c) r = Ok c
better (Err i) (Ok c) = Ok c
better (Err i) (Err j) = Err (max i j)

-- the best of an answer and of what the line is by each of some forms
abbrev pub best_of : Result Call ℕ → List Form → List ℕ → Result Call ℕ
best_of r [] line = r
best_of r (f ∷ fs) line = best_of (better r (fit f 0 line 0)) fs line

unfoldable pub call_of : List ℕ → Result Call ℕ
call_of line = best_of (fit sit_form 0 line 0) (play_form ∷ ticks_form ∷ see_form ∷ may_form ∷ back_form ∷ force_form ∷ []) line
