-- What is answered to each call that is not refused, and what it changes.
use Rattle.std.proofs.Common.{◌≡◌, ℕ, zero, suc, ◌<◌, true, false, not, ◌&&◌, leb, List, [], ◌∷◌, ◌++◌, length, get_or, take, set, sym, refl, ap, ◌∙◌, arith}
use Rattle.std.proofs.lemmas.Bool.{cond_both, cond-true, cond-false, eq-eqb, le-leb, lt-leb, or_left, or_right, or_from}
use Rattle.std.proofs.lemmas.List.{length_push, length-set, get_or-set_same, take_at}
use Rattle.rules.specs.declared.Move.{Move}
use Rattle.rules.specs.declared.Limits.{Limits}
use Rattle.rules.specs.declared.Call.{Call}
use Rattle.rules.specs.declared.Call.TheVariants.{Sit, Play, Ticks, See, May, Back, CanForce}
use Rattle.rules.specs.Rules.{Position, Game, turn, apply}
use Rattle.rules.specs.Play.{is_over, replay}
use Rattle.rules.specs.Calls.{number, shown, listed, Table, State, Stage, call_number, first_calls, clock_calls, no_table, table_at, table_over, total_played, refusal_of, refusal, ticked, all_ticked, next, step, end_of, reply, answer, answers, run}
use Rattle.laws.specs.Replies.{Stands, goes_on, over, by_time, OverByEither, EachCallAnswered, Moved, PlayMakesItsMove, AskingChangesNothing, MovesCounted, OneCallAfterTheOther, is_first, is_clocked, StagesGrow}
use Rattle.laws.proofs.Clocks.{after_step, step_taken}
use Rattle.laws.proofs.Reached.{passed, playable}

-- how a table stands, as its tests have it
stands_over : (g : Game) (u : Table) (e : ℕ) → Stands g u e → table_over g u ≡ leb 1 e
stands_over g u e (goes_on t p) = or_from u.timed_out (is_over g u.cells) t p
stands_over g u e (over t p) = or_right u.timed_out (is_over g u.cells) p
stands_over g u e (by_time t) = or_left u.timed_out (is_over g u.cells) t

stands_end : (g : Game) (u : Table) (e : ℕ) → Stands g u e → end_of g u ≡ e
unfolding end_of
stands_end g u e (goes_on t p) = rw (t, p)
stands_end g u e (over t p) = rw (t, p)
stands_end g u e (by_time t) = rw t

pub over_by_either : OverByEither
over_by_either = record {
  goes_on = λ g u. stands_over g u 0;
  over = λ g u. stands_over g u 1;
  by_time = λ g u. stands_over g u 2;
}

module _ (can : Stage) (l : Limits) (s : State) where
  -- a call that is taken is answered by its reply
  replied : (c : Call) → refusal can l s c ≡ 0 → answer can l s c ≡ reply l s c
  unfolding answer
  replied c e = cond-true _ _ _ (eq-eqb (refusal can l s c) 0 e)

  -- a play that is taken is at a table that is there
  table_there : (t m : ℕ) (v : Move) → refusal can l s (Play t m v) ≡ 0 → t < length s.tables
  unfolding refusal
  table_there t m v e = (playable l s t m v (passed _ (refusal_of l s (Play t m v)) 2 (omega arith) e).1).there

one_longer : (vs : List Move) (v : Move) → length (vs ++ (v ∷ [])) ≡ suc (length vs)
one_longer vs v = omega (arith, length_push vs v)

-- what a play that is taken makes of its table
moved : (g : Game) (u : Table) (v : Move) → Table
moved g u v = record { cells = apply g u.cells v; played = u.played ++ (v ∷ []); clocked = u.clocked; clocks = u.clocks; timed_out = false }

play_sets : (s : State) (t m : ℕ) (v : Move) → (next s (Play t m v)).tables ≡ set s.tables t (moved s.game (table_at s t) v)
unfolding next moved
play_sets s t m v = refl

module _ (can : Stage) (l : Limits) (s : State) (t m : ℕ) (v : Move) (e : refusal can l s (Play t m v) ≡ 0) where
  stepped : (step can l s (Play t m v)).tables ≡ set s.tables t (moved s.game (table_at s t) v)
  stepped = ap (λ (after : State). after.tables) (step_taken can l s (Play t m v) e) ∙ play_sets s t m v

  table_after : table_at (step can l s (Play t m v)) t ≡ moved s.game (table_at s t) v
  table_after = ap (λ us. get_or us t no_table) stepped ∙ get_or-set_same s.tables t _ no_table (table_there can l s t m v e)

  move_made : Moved s.game v (table_at s t) (table_at (step can l s (Play t m v)) t)
  unfolding moved
  move_made = rw table_after (record { cells = refl; played = refl; same_clocked = refl; same_clocks = refl; goes_on = refl })

  same_many : length (step can l s (Play t m v)).tables ≡ length s.tables
  same_many = ap length stepped ∙ length-set s.tables t _

  one_more_played : length (table_at (step can l s (Play t m v)) t).played ≡ suc (length (table_at s t).played)
  one_more_played = ap length move_made.played ∙ one_longer (table_at s t).played v

pub play_makes_its_move : PlayMakesItsMove
play_makes_its_move can l s t m v e = (move_made can l s t m v e, same_many can l s t m v e)

-- the answers
pub each_call_answered : EachCallAnswered
unfolding reply
each_call_answered can l s =
    record {
      play = λ t m v e. replied can l s (Play t m v) e ∙ ap number (sym (one_more_played can l s t m v e));
      ticks = λ n e. replied can l s (Ticks n) e;
      see = λ t n e stands. replied can l s (See t) e ∙ rw (stands_end s.game (table_at s t) n stands);
      may = λ t e stands. replied can l s (May t) e ∙ ap listed (cond-false _ _ _ (stands_over s.game (table_at s t) 0 stands));
      may_over = λ t e stands. replied can l s (May t) e ∙ ap listed (cond-true _ _ _ (stands_over s.game (table_at s t) 1 stands));
      may_by_time = λ t e stands. replied can l s (May t) e ∙ ap listed (cond-true _ _ _ (stands_over s.game (table_at s t) 2 stands));
      back = λ t vs ws parts e. looked_back t vs ws parts e;
      force_yes = λ t m k d e room yes-so. replied can l s (CanForce t m k d) e ∙ rw (le-leb _ _ room, yes-so);
      force_not = λ t m k d e room not_so. replied can l s (CanForce t m k d) e ∙ rw (le-leb _ _ room, not_so);
      force_too_many = λ t m k d e many. replied can l s (CanForce t m k d) e ∙ rw (lt-leb _ _ many);
    }
  where
    looked_back :
        (t : ℕ) (vs ws : List Move) → (table_at s t).played ≡ vs ++ ws → refusal can l s (Back t (length vs)) ≡ 0 →
        let p : Position = replay s.game s.game.start vs in
        (is_over s.game p ≡ false → answer can l s (Back t (length vs)) ≡ shown p (turn s.game p) 0 [])
        × (is_over s.game p ≡ true → answer can l s (Back t (length vs)) ≡ shown p (turn s.game p) 1 [])
    looked_back t vs ws parts e =
        let first : take (length vs) (table_at s t).played ≡ vs = ap (take (length vs)) parts ∙ take_at vs ws (length vs) refl in
        let said = replied can l s (Back t (length vs)) e in
        (λ o. said ∙ rw (first, o), λ o. said ∙ rw (first, o))

-- a call after which `next` is the state itself changes nothing, taken or not
pub asking_changes_nothing : AskingChangesNothing
unfolding next
asking_changes_nothing = record {
  see = λ can l s t. after_step can l s (See t) (λ after. after ≡ s) refl refl;
  may = λ can l s t. after_step can l s (May t) (λ after. after ≡ s) refl refl;
  back = λ can l s t n. after_step can l s (Back t n) (λ after. after ≡ s) refl refl;
  can_force = λ can l s t m k d. after_step can l s (CanForce t m k d) (λ after. after ≡ s) refl refl;
}

-- the moves of all tables together
total_set : (us : List Table) (t : ℕ) (w : Table) → t < length us → length w.played ≡ suc (length (get_or us t no_table).played) → total_played (set us t w) ≡ suc (total_played us)
unfolding total_played
total_set [] t w h e = absurd (omega arith)
total_set (u ∷ us) zero w h e = omega arith
total_set (u ∷ us) (suc t) w h e = omega (arith, total_set us t w (omega arith) e)

total_push : (us : List Table) (w : Table) → w.played ≡ [] → total_played (us ++ (w ∷ [])) ≡ total_played us
unfolding total_played
total_push [] w e = rw e refl
total_push (u ∷ us) w e = omega (arith, total_push us w e)

total_ticked : (g : Game) (n : ℕ) (us : List Table) → total_played (all_ticked g n us) ≡ total_played us
unfolding total_played all_ticked
total_ticked g n [] = refl
total_ticked g n (u ∷ us) =
    let same = cond_both (u.clocked && not (table_over g u)) (ticked g n u) u (λ w. length w.played ≡ length u.played) (λ _. refl) (λ _. refl) in
    omega (arith, same, total_ticked g n us)

pub moves_counted : MovesCounted
unfolding next total_played moved
moves_counted = record {
  at_first = λ g. refl;
  play = λ can l s t m v e.
      ap total_played (stepped can l s t m v e)
      ∙ total_set s.tables t (moved s.game (table_at s t) v) (table_there can l s t m v e) (one_longer (table_at s t).played v);
  sit = λ can l s n. after_step can l s (Sit n) (λ after. total_played after.tables ≡ total_played s.tables) (total_push s.tables _ refl) refl;
  ticks = λ can l s n.
      after_step can l s (Ticks n) (λ after. total_played after.tables ≡ total_played s.tables) (total_ticked s.game n s.tables) refl;
}

-- calls one after the other
module _ (can : Stage) (l : Limits) where
  answers_join : (s : State) (bs cs : List Call) → answers can l s (bs ++ cs) ≡ answers can l s bs ++ answers can l (run can l s bs) cs
  unfolding answers run
  answers_join s [] cs = refl
  answers_join s (b ∷ bs) cs = ap (λ rest. answer can l s b ∷ rest) (answers_join (step can l s b) bs cs)

  run_join : (s : State) (bs cs : List Call) → run can l s (bs ++ cs) ≡ run can l (run can l s bs) cs
  unfolding run
  run_join s [] cs = refl
  run_join s (b ∷ bs) cs = run_join (step can l s b) bs cs

pub one_call_after_the_other : OneCallAfterTheOther
unfolding answers run
one_call_after_the_other = record {
  same_game = λ g. refl;
  no_tables = λ g. refl;
  no_answers = λ can l s. refl;
  no_step = λ can l s. refl;
  one_answer = λ can l s c. refl;
  one_step = λ can l s c. refl;
  more_answers = answers_join;
  more_steps = run_join;
}

in_first : (c : Call) → first_calls (call_number c) ≡ is_first c
unfolding call_number
in_first (Sit n) = refl
in_first (Play t m v) = refl
in_first (Ticks n) = refl
in_first (See t) = refl
in_first (May t) = refl
in_first (Back t n) = refl
in_first (CanForce t m k d) = refl

in_clocked : (c : Call) → clock_calls (call_number c) ≡ is_clocked c
unfolding call_number
in_clocked (Sit n) = refl
in_clocked (Play t m v) = refl
in_clocked (Ticks n) = refl
in_clocked (See t) = refl
in_clocked (May t) = refl
in_clocked (Back t n) = refl
in_clocked (CanForce t m k d) = refl

pub stages_grow : StagesGrow
stages_grow = record { none = λ c. refl; first = in_first; clocks = in_clocked; all = λ c. refl }
