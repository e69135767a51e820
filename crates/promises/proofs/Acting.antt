-- What each call makes of a server's state, and what it answers, as functions of memory; and that they are right.
use Rattle.std.proofs.Common.{◌≡◌, ℕ, ◌+◌, ◌<◌, ◌≤◌, Bool, true, false, cond, ◌&&◌, ◌||◌, eqb, ltb, List, [], length, get_or, take, drop, Ok, Err, Result, sym, refl, ap, ◌∙◌, subst}
use Rattle.std.proofs.lemmas.Bool.{and_parts, ltb-true, lt-ltb, le-ltb, cond-true, cond-false}
use Rattle.rules.specs.declared.Limits.{Limits}
use Rattle.rules.specs.declared.Refusal.{Refusal}
use Rattle.rules.specs.declared.Call.{Call}
use Rattle.rules.specs.declared.Call.TheVariants.{Sit, Play, Ticks, See, May, Back, CanForce}
use Rattle.rules.specs.Rules.{Position, Game, turn}
use Rattle.rules.specs.Play.{is_over, legal_moves}
use Rattle.rules.specs.Calls.{Answer, refused, shown, listed, Table, State, call_number, good_fields, table_at, end_of, refusal_of, refusal, refusal_place, next, step, reply, answer}
use Rattle.rules.specs.Bounds.{fits_field, readable, all_below}
use Rattle.rows.specs.Layout.{game_at}
use Rattle.tables.specs.declared.acting.Seat.{Seat}
use Rattle.tables.specs.Layout.{state_words}
use Rattle.tables.specs.Means.{Means}
use Rattle.tables.specs.Acting.{told, refused_by, sat, played, RightSeat, seat_of}
use Rattle.tables.proofs.Theorems.{sitting_is_right, playing_is_right, seats_are_right}
use Rattle.session.specs.Calling.{stage}
use Rattle.session.proofs.Acting.{see_still, may_still}
use Rattle.promises.proofs.Words.{sat_fits, played_fits}

-- a table is seen, and its moves are listed, by its seat
abbrev seen : Game → List ℕ → Result Seat Refusal → Answer
seen g w (Err f) = refused f
seen g w (Ok q) =
    let p : Position = take q.cells (drop q.at w) in
    shown p (turn g p) q.end (take q.players (drop (q.at + q.cells) w))

abbrev moves_seen : Game → List ℕ → Result Seat Refusal → Answer
moves_seen g w (Err f) = refused f
moves_seen g w (Ok q) = listed (cond (eqb q.end 0) (legal_moves g (take q.cells (drop q.at w))) [])

abbrev unable : Call → Answer
unable c = refused (refused_by 2 (refusal_place c 2))

-- what a call answers, and what it makes of the state w
unfoldable pub said : Game → List ℕ → Call → Answer
said g w (Sit n) = told (sat g w n).1
said g w (Play t m v) = told (played g w t m v).1
said g w (Ticks n) = unable (Ticks n)
said g w (See t) = seen g w (seat_of w t)
said g w (May t) = moves_seen g w (seat_of w t)
said g w (Back t n) = unable (Back t n)
said g w (CanForce t m k d) = unable (CanForce t m k d)

unfoldable pub made : Game → List ℕ → Call → List ℕ
made g w (Sit n) = (sat g w n).0
made g w (Play t m v) = (played g w t m v).0
made g w (Ticks n) = w
made g w (See t) = w
made g w (May t) = w
made g w (Back t n) = w
made g w (CanForce t m k d) = w

-- both are right
pub record Does (g : Game) (rules w : List ℕ) (l : Limits) (s : State) (c : Call) : Type 0 where
  pub says : said g w c ≡ answer stage l s c
  pub means : Means rules (made g w c) l (step stage l s c)
  pub keeps : 0 < refusal stage l s c → made g w c ≡ w
  pub long : length (made g w c) ≡ length w
  pub past : (k : ℕ) → state_words (length s.game.start) l.tables l.moves ≤ k → get_or (made g w c) k 0 ≡ get_or w k 0

-- a call that leaves the state as it was
still : (rules w : List ℕ) (l : Limits) (s : State) (c : Call) → Means rules w l s → made s.game w c ≡ w → step stage l s c ≡ s
    → said s.game w c ≡ answer stage l s c → Does s.game rules w l s c
still rules w l s c m same stays says = record {
  says = says;
  means = subst (λ x. Means rules x l (step stage l s c)) (sym same) (subst (Means rules w l) (sym stays) m);
  keeps = λ _. same;
  long = ap length same;
  past = λ k _. ap (λ x. get_or x k 0) same;
}

-- the answer and the next state, by the number of the refusal
answer_by : (l : Limits) (s : State) (c : Call) (k : ℕ) → refusal stage l s c ≡ k
    → answer stage l s c ≡ cond (eqb k 0) (reply l s c) (refused (refused_by k (refusal_place c k)))
unfolding answer
answer_by l s c k e = ap (λ n. cond (eqb n 0) (reply l s c) (refused (refused_by n (refusal_place c n)))) e

step_by : (l : Limits) (s : State) (c : Call) (k : ℕ) → refusal stage l s c ≡ k → step stage l s c ≡ cond (eqb k 0) (next s c) s
unfolding step
step_by l s c k e = ap (λ n. cond (eqb n 0) (next s c) s) e

-- a table's end is kept as 0 just if it is not over
going : (a b : Bool) {X : Type 0} (x y : X) → cond (eqb (cond a 2 (cond b 1 0)) 0) x y ≡ cond (a || b) y x
going true b x y = refl
going false true x y = refl
going false false x y = refl

module _ (rules w : List ℕ) (l : Limits) (s : State) (t : ℕ) where
  see_refusal : refusal stage l s (See t) ≡ cond (ltb t (length s.tables)) 0 4
  unfolding refusal refusal_of call_number good_fields
  see_refusal = refl

  may_refusal : refusal stage l s (May t) ≡ cond (ltb t (length s.tables)) 0 4
  unfolding refusal refusal_of call_number good_fields
  may_refusal = refl

  see_says : (r : Result Seat Refusal) → RightSeat w s t r → seen s.game w r ≡ answer stage l s (See t)
  unfolding reply refusal_place
  see_says (Err f) right =
      ap refused right.0 ∙ sym (answer_by l s (See t) 4 (see_refusal ∙ cond-false (ltb t (length s.tables)) 0 4 (le-ltb t (length s.tables) right.1)))
  see_says (Ok q) right =
      (λ i. shown (right.cells i) (turn s.game (right.cells i)) (right.end i) (right.clocks i))
      ∙ sym (answer_by l s (See t) 0 (see_refusal ∙ cond-true (ltb t (length s.tables)) 0 4 (lt-ltb t (length s.tables) right.there)))

  may_says : (r : Result Seat Refusal) → RightSeat w s t r → moves_seen s.game w r ≡ answer stage l s (May t)
  unfolding reply refusal_place end_of
  may_says (Err f) right =
      ap refused right.0 ∙ sym (answer_by l s (May t) 4 (may_refusal ∙ cond-false (ltb t (length s.tables)) 0 4 (le-ltb t (length s.tables) right.1)))
  may_says (Ok q) right =
      let u : Table = table_at s t in
      (λ i. listed (cond (eqb (right.end i) 0) (legal_moves s.game (right.cells i)) []))
      ∙ ap listed (going u.timed_out (is_over s.game u.cells) (legal_moves s.game u.cells) [])
      ∙ sym (answer_by l s (May t) 0 (may_refusal ∙ cond-true (ltb t (length s.tables)) 0 4 (lt-ltb t (length s.tables) right.there)))

-- a call that the server can't do
module _ (rules w : List ℕ) (l : Limits) (s : State) (m : Means rules w l s) where
  cannot : (c : Call) → made s.game w c ≡ w → said s.game w c ≡ unable c → refusal stage l s c ≡ 2 → Does s.game rules w l s c
  cannot c same says why = still rules w l s c m same (step_by l s c 2 why) (says ∙ sym (answer_by l s c 2 why))

  does_game : (c : Call) → readable c ≡ true → Does s.game rules w l s c
  unfolding said made refusal call_number step answer readable
  does_game (Sit n) ok =
      let r = sitting_is_right rules w l s n m (ltb-true n 4294967296 ok) in
      record { says = r.says; means = r.means; keeps = r.keeps; long = r.long; past = r.past }
  does_game (Play t p v) ok =
      let r = playing_is_right rules w l s t p v m in
      record { says = r.says; means = r.means; keeps = r.keeps; long = r.long; past = r.past }
  does_game (Ticks n) ok = cannot (Ticks n) refl refl refl
  does_game (See t) ok = still rules w l s (See t) m refl (see_still l s t) (see_says rules w l s t (seat_of w t) (seats_are_right rules w l s t m))
  does_game (May t) ok = still rules w l s (May t) m refl (may_still l s t) (may_says rules w l s t (seat_of w t) (seats_are_right rules w l s t m))
  does_game (Back t n) ok = cannot (Back t n) refl refl refl
  does_game (CanForce t p k d) ok = cannot (CanForce t p k d) refl refl refl

  -- the game is the one in memory
  pub does : (c : Call) → readable c ≡ true → Does (game_at rules) rules w l s c
  does c ok = subst (λ g. Does g rules w l s c) (sym m.game) (does_game c ok)

  -- what it leaves fits
  pub made_fits :
      (g : Game) → all_below 4294967296 g.start ≡ true → all_below 4294967296 w ≡ true → (c : Call) → readable c ≡ true
      → all_below 4294967296 (made g w c) ≡ true
  unfolding made readable
  made_fits g start fit (Sit n) ok = sat_fits rules w l s m fit g start n (ltb-true n 4294967296 ok)
  made_fits g start fit (Play t p v) ok =
      let a = and_parts (fits_field t && fits_field p) _ ok in
      let b = and_parts (fits_field v.rule) _ a.1 in
      let c = and_parts (fits_field v.first) _ b.1 in
      played_fits rules w l s m fit g start t p v (ltb-true _ _ b.0) (ltb-true _ _ c.0) (ltb-true _ _ c.1)
  made_fits g start fit (Ticks n) ok = fit
  made_fits g start fit (See t) ok = fit
  made_fits g start fit (May t) ok = fit
  made_fits g start fit (Back t n) ok = fit
  made_fits g start fit (CanForce t p k d) ok = fit
