-- Every answer has room: a game has no more legal moves than its rules allow for, and no move changes how many cells there are.
use Rattle.std.proofs.Common.{◌≡◌, ℕ, zero, suc, ◌+◌, ◌*◌, ◌<◌, ◌≤◌, Bool, true, cond, not, ◌&&◌, eqb, leb, List, [], ◌∷◌, ◌++◌, length, get_or, take, set, sym, refl, ◌∙◌, subst, ⊎_elim, suc-mul, arith, length-append, length-set}
use lib.ListN.{length-replicate}
use Rattle.std.proofs.lemmas.Bool.{and_parts, and_from, eqb-true, eq-eqb, leb-true, cond_both, cases_lt}
use Rattle.std.proofs.lemmas.List.{get_or_past}
use Rattle.rules.specs.declared.Move.{Move}
use Rattle.rules.specs.declared.Limits.{Limits}
use Rattle.rules.specs.declared.Call.{Call}
use Rattle.rules.specs.declared.Call.TheVariants.{Sit, Play, Ticks, See, May, Back, CanForce}
use Rattle.rules.specs.Rules.{Position, Effect, Rule, Game, eval, turn, is_legal, apply_effects, apply}
use Rattle.rules.specs.Play.{moves_by_second, moves_by_first, moves_by_rule, legal_moves, is_over, replay}
use Rattle.rules.specs.Calls.{refused, shown, listed, Table, State, Stage, no_table, table_at, table_over, end_of, all_ticked, ticked, refusal, refusal_place, next, step, reply, answer, opened, run}
use Rattle.rules.specs.Bounds.{good_game, possible_moves}
use Rattle.answers.specs.Answers.{answer_fields, answer_bytes}
use Rattle.answers.specs.Size.{table_sized, tables_sized, answer_room, AnswersFit, AllAnswersFit}
use Rattle.answers.proofs.AnswerBytes.{length_answer, length_moves}

-- how many legal moves there can be
by_second : (g : Game) (p : Position) (r x y : ℕ) → length (moves_by_second g p r x y) ≤ y
unfolding moves_by_second
by_second g p r x zero = omega arith
by_second g p r x (suc y) =
    let v : Move = record { rule = r; first = x; second = y } in
    let one : length (cond (is_legal g p v) (v ∷ []) []) ≤ 1 =
    cond_both (is_legal g p v) (v ∷ []) [] (λ l. length l ≤ 1) (λ e. omega arith) (λ e. omega arith) in
    omega (arith, by_second g p r x y, length-append (moves_by_second g p r x y) (cond (is_legal g p v) (v ∷ []) []))

by_first : (g : Game) (p : Position) (r x n : ℕ) → length (moves_by_first g p r x n) ≤ x * n
unfolding moves_by_first
by_first g p r zero n = omega arith
by_first g p r (suc x) n =
    omega (arith, by_first g p r x n, by_second g p r x n, length-append (moves_by_first g p r x n) (moves_by_second g p r x n), suc-mul x n)

by_rule : (g : Game) (p : Position) (r : ℕ) (us : List Rule) → length (moves_by_rule g p r us) ≤ possible_moves us
unfolding moves_by_rule possible_moves
by_rule g p r [] = omega arith
by_rule g p r (u ∷ us) =
    omega (
      arith,
      by_first g p r u.first_bound u.second_bound,
      by_rule g p (suc r) us,
      length-append (moves_by_first g p r u.first_bound u.second_bound) (moves_by_rule g p (suc r) us),
    )

pub few_moves : (g : Game) (p : Position) → length (legal_moves g p) ≤ possible_moves g.rules
unfolding legal_moves
few_moves g p = by_rule g p 0 g.rules

-- a move leaves as many cells as there were
effects_keep : (es : List Effect) (p : Position) (x y m : ℕ) → length (apply_effects es p x y m) ≡ length p
unfolding apply_effects
effects_keep [] p x y m = refl
effects_keep (e ∷ es) p x y m =
    effects_keep es (set p (eval e.cell p x y m) (eval e.value p x y m)) x y m
    ∙ length-set p (eval e.cell p x y m) (eval e.value p x y m)

pub apply_keeps : (g : Game) (p : Position) (v : Move) → length (apply g p v) ≡ length p
unfolding apply
apply_keeps g p v = effects_keep _ p v.first v.second (turn g p)

pub replay_keeps : (g : Game) (p : Position) (vs : List Move) → length (replay g p vs) ≡ length p
unfolding replay
replay_keeps g p [] = refl
replay_keeps g p (v ∷ vs) = replay_keeps g (apply g p v) vs ∙ apply_keeps g p v

-- the sizes of a table, as numbers and as a test
abbrev Sized : Game → Table → Type 0
Sized g t = (length t.cells ≡ length g.start) × (length t.clocks ≡ g.players)

sized_from : (g : Game) (t : Table) → table_sized g t ≡ true → Sized g t
unfolding table_sized
sized_from g t h =
    let p = and_parts (eqb (length t.cells) (length g.start)) (eqb (length t.clocks) g.players) h in
    (eqb-true _ _ p.0, eqb-true _ _ p.1)

to_sized : (g : Game) (t : Table) → Sized g t → table_sized g t ≡ true
unfolding table_sized
to_sized g t h = and_from _ _ (eq-eqb _ _ h.0) (eq-eqb _ _ h.1)

module _ (g : Game) where
  sized_at : (ts : List Table) (i : ℕ) → tables_sized g ts ≡ true → i < length ts → Sized g (get_or ts i no_table)
  unfolding tables_sized
  sized_at [] i h l = absurd (omega arith)
  sized_at (t ∷ ts) zero h l = sized_from g t (and_parts (table_sized g t) (tables_sized g ts) h).0
  sized_at (t ∷ ts) (suc i) h l = sized_at ts i (and_parts (table_sized g t) (tables_sized g ts) h).1 (omega arith)

  -- what stands for a table that is not there is smaller than any
  at_most : (ts : List Table) (i : ℕ) → tables_sized g ts ≡ true
      → (length (get_or ts i no_table).cells ≤ length g.start) × (length (get_or ts i no_table).clocks ≤ g.players)
  at_most ts i h =
      ⊎_elim (λ l. let z = sized_at ts i h l in (omega arith, omega arith))
      (λ l. rw (get_or_past ts i no_table l) (omega arith, omega arith)) (cases_lt i (length ts))

  sized_push : (ts : List Table) (t : Table) → tables_sized g ts ≡ true → Sized g t → tables_sized g (ts ++ (t ∷ [])) ≡ true
  unfolding tables_sized
  sized_push [] t h k = and_from (table_sized g t) true (to_sized g t k) refl
  sized_push (u ∷ ts) t h k =
      let p = and_parts (table_sized g u) (tables_sized g ts) h in
      and_from (table_sized g u) (tables_sized g (ts ++ (t ∷ []))) p.0 (sized_push ts t p.1 k)

  sized_set : (ts : List Table) (i : ℕ) (t : Table) → tables_sized g ts ≡ true → (i < length ts → Sized g t) → tables_sized g (set ts i t) ≡ true
  unfolding tables_sized
  sized_set [] i t h k = refl
  sized_set (u ∷ ts) zero t h k =
      and_from (table_sized g t) (tables_sized g ts) (to_sized g t (k (omega arith))) (and_parts (table_sized g u) (tables_sized g ts) h).1
  sized_set (u ∷ ts) (suc i) t h k =
      let p = and_parts (table_sized g u) (tables_sized g ts) h in
      and_from (table_sized g u) (tables_sized g (set ts i t)) p.0 (sized_set ts i t p.1 (λ l. k (omega arith)))

  sized_ticked : (n : ℕ) (ts : List Table) → tables_sized g ts ≡ true → tables_sized g (all_ticked g n ts) ≡ true
  unfolding tables_sized all_ticked
  sized_ticked n [] h = refl
  sized_ticked n (t ∷ ts) h =
      let p = and_parts (table_sized g t) (tables_sized g ts) h in
      let z = sized_from g t p.0 in
      and_from _ (tables_sized g (all_ticked g n ts))
      (cond_both (t.clocked && not (table_over g t)) (ticked g n t) t (λ u. table_sized g u ≡ true)
      (λ e. to_sized g (ticked g n t) (z.0, length-set t.clocks _ _ ∙ z.1)) (λ e. p.0)) (sized_ticked n ts p.1)

-- the game of a server stays, and its tables stay as large
abbrev Kept : Game → State → Type 0
Kept g s = (s.game ≡ g) × (tables_sized g s.tables ≡ true)

next_keeps : (s : State) (c : Call) → tables_sized s.game s.tables ≡ true → Kept s.game (next s c)
unfolding next
next_keeps s (Sit n) h = (refl, sized_push s.game s.tables _ h (refl, length-replicate s.game.players n))
next_keeps s (Play t m v) h = (
  refl,
  sized_set s.game s.tables t _ h
      (λ l.
      let z = sized_at s.game s.tables t h l in
      (apply_keeps s.game (table_at s t).cells v ∙ z.0, z.1)),
)
next_keeps s (Ticks n) h = (refl, sized_ticked s.game n s.tables h)
next_keeps s (See t) h = (refl, h)
next_keeps s (May t) h = (refl, h)
next_keeps s (Back t n) h = (refl, h)
next_keeps s (CanForce t m k d) h = (refl, h)

run_keeps : (can : Stage) (l : Limits) (g : Game) (cs : List Call) (s : State) → Kept g s → Kept g (run can l s cs)
unfolding run step
run_keeps can l g [] s h = h
run_keeps can l g (c ∷ cs) s h =
    let own : tables_sized s.game s.tables ≡ true = rw h.0 h.1 in
    let n = next_keeps s c own in
    run_keeps can l g cs (cond (eqb (refusal can l s c) 0) (next s c) s)
    (cond_both (eqb (refusal can l s c) 0) (next s c) s (Kept g) (λ e. (n.0 ∙ h.0, subst (λ x. tables_sized x (next s c).tables ≡ true) h.0 n.1)) (λ e. h))

-- the longest position and the longest list
small_shown : (p : Position) (t e : ℕ) (cs : List ℕ) → length p ≤ 256 → length cs ≤ 4 → length (answer_fields (shown p t e cs)) ≤ 264
unfolding answer_fields
small_shown p t e cs h k = omega (arith, length-append p (t ∷ e ∷ length cs ∷ cs))

small_listed : (n : ℕ) (vs : List Move) → length vs ≤ n → length (answer_fields (listed vs)) ≤ 1 + 3 * n
unfolding answer_fields
small_listed n vs h = omega (arith, length_moves vs)

good_sizes : (g : Game) → good_game g ≡ true → (g.players ≤ 4) × (length g.start ≤ 256)
unfolding good_game
good_sizes g h =
    let front = (and_parts ((leb 1 g.players && leb g.players 4) && ((leb 1 (length g.start) && leb (length g.start) 256) && _)) _ h).0 in
    let parts = and_parts (leb 1 g.players && leb g.players 4) ((leb 1 (length g.start) && leb (length g.start) 256) && _) front in
    let cells = (and_parts (leb 1 (length g.start) && leb (length g.start) 256) _ parts.1).0 in (
      leb-true g.players 4 (and_parts (leb 1 g.players) (leb g.players 4) parts.0).1,
      leb-true (length g.start) 256 (and_parts (leb 1 (length g.start)) (leb (length g.start) 256) cells).1,
    )

small_reply :
    (l : Limits) (s : State) (c : Call) → good_game s.game ≡ true → tables_sized s.game s.tables ≡ true
    → length (answer_fields (reply l s c)) ≤ 3 * possible_moves s.game.rules + 264
unfolding reply answer_fields
small_reply l s (Sit n) good sized = omega arith
small_reply l s (Play t m v) good sized = omega arith
small_reply l s (Ticks n) good sized = omega arith
small_reply l s (See t) good sized =
    let sizes = good_sizes s.game good in
    let most = at_most s.game s.tables t sized in
    let small = small_shown (table_at s t).cells (turn s.game (table_at s t).cells) (end_of s.game (table_at s t)) (table_at s t).clocks
    (omega arith) (omega arith) in
    omega arith
small_reply l s (May t) good sized =
    let over : Bool = table_over s.game (table_at s t) in
    let few : length (cond over [] (legal_moves s.game (table_at s t).cells)) ≤ possible_moves s.game.rules =
    cond_both over [] (legal_moves s.game (table_at s t).cells) (λ vs. length vs ≤ possible_moves s.game.rules) (λ e. omega arith)
    (λ e. few_moves s.game (table_at s t).cells) in
    let small = small_listed (possible_moves s.game.rules) (cond over [] (legal_moves s.game (table_at s t).cells)) few in
    omega arith
small_reply l s (Back t n) good sized =
    let sizes = good_sizes s.game good in
    let p : Position = replay s.game s.game.start (take n (table_at s t).played) in
    let same : length p ≡ length s.game.start = replay_keeps s.game s.game.start (take n (table_at s t).played) in
    let small = small_shown p (turn s.game p) (cond (is_over s.game p) 1 0) [] (omega arith) (omega arith) in
    omega arith
small_reply l s (CanForce t m k d) good sized = omega arith

pub answers_fit : AnswersFit
unfolding answer answer_fields
answers_fit can l s c good sized =
    cond_both (eqb (refusal can l s c) 0) (reply l s c) _ (λ a. length (answer_bytes a) ≤ answer_room s.game)
    (λ e. omega (arith, length_answer (reply l s c), small_reply l s c good sized))
    (λ e. rw (length_answer (refused (record { number = refusal can l s c; place = refusal_place c (refusal can l s c) }))) (omega arith))

pub all_answers_fit : AllAnswersFit
unfolding tables_sized
all_answers_fit can l g cs c good =
    let s : State = run can l (opened g) cs in
    let kept = run_keeps can l g cs (opened g) (refl, refl) in
    subst (λ x. length (answer_bytes (answer can l s c)) ≤ answer_room x) kept.0
    (answers_fit can l s c (rw kept.0 good) (subst (λ x. tables_sized x s.tables ≡ true) (sym kept.0) kept.1))
