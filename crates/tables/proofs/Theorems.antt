-- Opening, sitting down, playing and looking at a table are right.
use Rattle.std.proofs.Common.{◌≡◌, ℕ, suc, ◌+◌, ◌<◌, ◌≤◌, Bool, true, false, cond, not, ◌||◌, eqb, ltb, List, [], ◌∷◌, length, get_or, Ok, Err, sym, refl, ap, ◌∙◌, subst, inl, inr, arith}
use borrow.Rule.Slice.PartMut.{put_mid}
use Rattle.std.proofs.lemmas.Bool.{cases_lt, ltb-true, lt-ltb, le-ltb, le-leb, and_from, cond-true, cond-false}
use Rattle.rules.specs.declared.Move.{Move}
use Rattle.rules.specs.declared.Limits.{Limits}
use Rattle.rules.specs.declared.Call.TheVariants.{Sit, Play}
use Rattle.rules.specs.Rules.{Effect, Rule, Game, turn, is_legal}
use Rattle.rules.specs.Play.{is_over}
use Rattle.rules.specs.Calls.{number, Table, State, all_calls, call_number, table_at, table_over, good_fields, total_played, refusal_of, refusal, refusal_place, end_of, reply}
use Rattle.rules.specs.Bounds.{effect_parts, rule_parts, game_parts}
use Rattle.wire.specs.Games.{total_effects, size_of}
use Rattle.tables.specs.Layout.{record_place, good_size}
use Rattle.tables.specs.Changes.{one_more, header, opened_in, sat_in, played_in}
use Rattle.tables.specs.Means.{Means, moves_of}
use Rattle.tables.specs.Acting.{Outcome, refused_by, sat, played_at, played, seat_in, seat_of, RightOutcome, SittingIsRight, PlayingIsRight, RightSeat, SeatsAreRight, OpeningIsRight, GoodGamesHaveGoodSizes}
use Rattle.tables.proofs.Regions.{stride, mid_in, mid_length}
use Rattle.tables.proofs.Standing.{sized, the_plan, plan_is, kept_right, done_right}
use Rattle.tables.proofs.After.{made, play_means}
use Rattle.tables.proofs.Sitting.{sat_length, sat_above, sat_means}

-- sitting down

refusal_sit : (l : Limits) (s : State) (n : ℕ) → n < 4294967296 → refusal all_calls l s (Sit n) ≡ cond (ltb (length s.tables) l.tables) 0 8
unfolding refusal call_number good_fields refusal_of
refusal_sit l s n h = rw (lt-ltb n 4294967296 h) refl

sat_is :
    (rules w : List ℕ) (l : Limits) (s : State) (ticks : ℕ) → Means rules w l s
    → sat s.game w ticks
    ≡ cond (ltb (length s.tables) l.tables) (sat_in s.game w (the_plan l s) ticks, Ok (length s.tables)) (w, Err (refused_by 8 0))
unfolding sat
sat_is rules w l s ticks m = rw (plan_is rules w l s m) refl

pub sitting_is_right : SittingIsRight
unfolding refusal_place reply
sitting_is_right rules w l s ticks m h =
    elim (cases_lt (length s.tables) l.tables) [
      | inl free ↦
          let z = sized s.game m.good in
          let n : ℕ = length s.game.start in
          let before = stride n (length s.tables) l.tables free in
          let fits : record_place n (length s.tables) + (n + 9) ≤ length w = omega (arith, m.room) in
          let yes' = lt-ltb _ _ free in
          subst (λ o. RightOutcome rules w l s (Sit ticks) o) (sym (sat_is rules w l s ticks m ∙ cond-true _ _ _ yes'))
          (done_right rules w _ l s (Sit ticks) (Ok (length s.tables)) (refusal_sit l s ticks h ∙ cond-true _ _ _ yes') (sat_means rules w l s ticks m free) refl
          (sat_length s.game w (the_plan l s) ticks z.players fits)
          (λ k q. sat_above s.game w (the_plan l s) ticks z.players fits k (omega arith)))
      | inr full ↦
          let none = le-ltb _ _ full in
          subst (λ o. RightOutcome rules w l s (Sit ticks) o) (sym (sat_is rules w l s ticks m ∙ cond-false _ _ _ none))
          (kept_right rules w l s (Sit ticks) 8 m (refusal_sit l s ticks h ∙ cond-false _ _ _ none) (omega arith))
    ]

-- looking at a table

seat_is :
    (rules w : List ℕ) (l : Limits) (s : State) (t : ℕ) → Means rules w l s
    → seat_of w t ≡ cond (ltb t (length s.tables)) (Ok (seat_in w (the_plan l s) t)) (Err (refused_by 4 0))
unfolding seat_of
seat_is rules w l s t m = rw (plan_is rules w l s m) refl

pub seats_are_right : SeatsAreRight
seats_are_right rules w l s t m =
    elim (cases_lt t (length s.tables)) [
      | inl there ↦
          let z = sized s.game m.good in
          let n : ℕ = length s.game.start in
          let before = stride n t l.tables (omega (arith, m.few_tables)) in
          let u = m.each t there in
          subst (λ o. RightSeat w s t o) (sym (seat_is rules w l s t m ∙ cond-true _ _ _ (lt-ltb _ _ there)))
          (record { there = there; cells = u.cells; clocks = u.clocks; end = u.end; played = u.count; inside = omega (arith, m.room) })
      | inr none ↦ subst (λ o. RightSeat w s t o) (sym (seat_is rules w l s t m ∙ cond-false _ _ _ (le-ltb _ _ none))) (refl, none)
    ]

-- playing

-- a table's end is kept as 0 just if it is not over
goes_on_by : (a b : Bool) → eqb (cond a 2 (cond b 1 0)) 0 ≡ not (a || b)
goes_on_by true b = refl
goes_on_by false true = refl
goes_on_by false false = refl

goes_on : (g : Game) (u : Table) → eqb (end_of g u) 0 ≡ not (table_over g u)
unfolding end_of
goes_on g u = goes_on_by u.timed_out (is_over g u.cells)

module _ (rules w : List ℕ) (l : Limits) (s : State) (t p : ℕ) (v : Move) (m : Means rules w l s) where
  abbrev u : Table
  u = table_at s t

  abbrev done : Outcome
  done =
      (played_in s.game w (the_plan l s) t v, Ok (one_more (get_or w (record_place (length s.game.start) t + length s.game.start + 6) 0)))

  played_is : played s.game w t p v ≡ played_at s.game w (the_plan l s) t p v
  unfolding played
  played_is = rw (plan_is rules w l s m) refl

  -- at a table that is there, the tests on memory are the tests on the table
  played_by :
      t < length s.tables
      → played s.game w t p v
      ≡ cond (not (table_over s.game u)) (cond (eqb p (turn s.game u.cells)) (cond (is_legal s.game u.cells v)
      (cond (ltb (total_played s.tables) l.moves) done (w, Err (refused_by 8 0))) (w, Err (refused_by 7 2))) (w, Err (refused_by 6 1)))
      (w, Err (refused_by 5 0))
  unfolding played_at
  played_by here =
      let r = m.each t here in
      let e : eqb (get_or w (record_place (length s.game.start) t + length s.game.start + 5) 0) 0 ≡ not (table_over s.game u) =
      ap (λ k. eqb k 0) r.end ∙ goes_on s.game u in
      played_is ∙ (cond-true _ _ _ (lt-ltb _ _ here) ∙ rw (e, r.cells) refl)

  refused_right :
      (r : ℕ) → refusal all_calls l s (Play t p v) ≡ r → 0 < r
      → played s.game w t p v ≡ (w, Err (record { number = r; place = refusal_place (Play t p v) r }))
      → RightOutcome rules w l s (Play t p v) (played s.game w t p v)
  refused_right r e pos f = subst (λ o. RightOutcome rules w l s (Play t p v) o) (sym f) (kept_right rules w l s (Play t p v) r m e pos)

  right_by :
      (a b c d : Bool) → refusal all_calls l s (Play t p v) ≡ cond a 5 (cond b (cond c (cond d 0 8) 7) 6)
      → played s.game w t p v
      ≡ cond (not a) (cond b (cond c (cond d done (w, Err (refused_by 8 0))) (w, Err (refused_by 7 2))) (w, Err (refused_by 6 1))) (w, Err (refused_by 5 0))
      → (refusal all_calls l s (Play t p v) ≡ 0 → d ≡ true → RightOutcome rules w l s (Play t p v) done)
      → RightOutcome rules w l s (Play t p v) (played s.game w t p v)
  unfolding refusal_place
  right_by true b c d e f ok = refused_right 5 e (omega arith) f
  right_by false false c d e f ok = refused_right 6 e (omega arith) f
  right_by false true false d e f ok = refused_right 7 e (omega arith) f
  right_by false true true false e f ok = refused_right 8 e (omega arith) f
  right_by false true true true e f ok = subst (λ o. RightOutcome rules w l s (Play t p v) o) (sym f) (ok e refl)

  refusal_play :
      t < length s.tables
      → refusal all_calls l s (Play t p v)
      ≡ cond (table_over s.game u) 5 (cond (eqb p (turn s.game u.cells)) (cond (is_legal s.game u.cells v)
      (cond (ltb (total_played s.tables) l.moves) 0 8) 7) 6)
  unfolding refusal call_number good_fields refusal_of
  refusal_play here = cond-true _ _ _ (lt-ltb _ _ here)

  no_table_there : length s.tables ≤ t → refusal all_calls l s (Play t p v) ≡ 4
  unfolding refusal call_number good_fields refusal_of
  no_table_there none = cond-false _ _ _ (le-ltb _ _ none)

  played_nowhere_there : length s.tables ≤ t → played s.game w t p v ≡ (w, Err (refused_by 4 0))
  unfolding played_at
  played_nowhere_there none = played_is ∙ cond-false _ _ _ (le-ltb _ _ none)

  move_right :
      t < length s.tables → total_played s.tables < l.moves → refusal all_calls l s (Play t p v) ≡ 0 → RightOutcome rules w l s (Play t p v) done
  unfolding reply
  move_right here free e =
      let n : ℕ = length s.game.start in
      let d = made rules w l s t v m here free in
      let r = m.each t here in
      let before = stride n t l.tables d.inside in
      let counted : one_more (get_or w (record_place n t + n + 6) 0) ≡ suc (length u.played) = omega (arith, r.count, d.few_here) in
      done_right rules w (played_in s.game w (the_plan l s) t v) l s (Play t p v) done.1 e (play_means rules w l s t p v m here free) (ap number counted) d.moved.long
      (λ k q. d.moved.other k (omega arith) (omega (arith, d.high)) (inr (omega arith)) (inr (omega arith)))

pub playing_is_right : PlayingIsRight
unfolding refusal_place
playing_is_right rules w l s t p v m =
    elim (cases_lt t (length s.tables)) [
      | inl here ↦
          right_by rules w l s t p v m (table_over s.game (table_at s t)) (eqb p (turn s.game (table_at s t).cells)) (is_legal s.game (table_at s t).cells v)
          (ltb (total_played s.tables) l.moves) (refusal_play rules w l s t p v m here) (played_by rules w l s t p v m here)
          (λ e q. move_right rules w l s t p v m here (ltb-true _ _ q) e)
      | inr none ↦ refused_right rules w l s t p v m 4 (no_table_there rules w l s t p v m none) (omega arith) (played_nowhere_there rules w l s t p v m none)
    ]

-- opening

effects_count : (es : List Effect) → length es ≤ effect_parts es
unfolding effect_parts
effects_count [] = omega arith
effects_count (e ∷ es) = omega (arith, effects_count es)

effects_are_parts : (rs : List Rule) → total_effects rs ≤ rule_parts rs
unfolding total_effects rule_parts
effects_are_parts [] = omega arith
effects_are_parts (r ∷ rs) = omega (arith, effects_are_parts rs, effects_count r.effects)

pub good_games_have_good_sizes : GoodGamesHaveGoodSizes
unfolding good_size size_of game_parts
good_games_have_good_sizes g h =
    let z = sized g h in
    let e = effects_are_parts g.rules in
    and_from _ _ (and_from _ _ (le-leb _ _ z.players) (and_from _ _ (le-leb _ _ z.cells) (le-leb _ _ z.rules)))
    (and_from _ _ (le-leb _ _ (omega arith)) (and_from _ _ (le-leb _ _ z.moves) (le-leb _ _ z.parts)))

pub opening_is_right : OpeningIsRight
unfolding opened_in size_of total_played moves_of
opening_is_right rules w l g is good limits room =
    let long : 16 ≤ length w = omega arith in
    let word : (i : ℕ) → i < 16 → get_or (put_mid 0 16 w (header l (size_of g))) (0 + i) 0 ≡ get_or (header l (size_of g)) i 0 =
    λ i h. mid_in 0 16 w (header l (size_of g)) long refl i h in
    record {
      game = is;
      good = good;
      limits = limits;
      few_tables = omega arith;
      few_moves = omega arith;
      room = rw (mid_length 0 16 w (header l (size_of g)) long refl) room;
      head = record {
        marked = word 0 (omega arith);
        tables = word 1 (omega arith);
        moves = word 2 (omega arith);
        positions = word 3 (omega arith);
        cells = word 4 (omega arith);
        players = word 5 (omega arith);
        rules_size = word 6 (omega arith);
        scratch_size = word 7 (omega arith);
        answer_size = word 8 (omega arith);
        seated = word 9 (omega arith);
        played = word 10 (omega arith);
      };
      each = λ t h. absurd (omega arith);
      log = record { owner = λ k. 0; owned = λ k h. absurd (omega arith); moves = λ t. refl; named = λ k h. absurd (omega arith); awaits = λ t h. absurd (omega arith) };
    }
