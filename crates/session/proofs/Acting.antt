-- Each call does what the meaning says, and its answer is written.
use Rattle.std.proofs.Common.{◌≡◌, ℕ, ◌+◌, ◌<◌, ◌≤◌, Bool, true, false, cond, ◌||◌, eqb, List, [], length, get_or, take, drop, Ok, Err, Option, Result, sym, refl, ap, ◌∙◌, subst, arith, MatchOption}
use Rattle.std.proofs.lemmas.Bool.{cond-true, cond-false, cond_both, lt-ltb, le-ltb, le-leb}
use Rattle.std.proofs.lemmas.Option.{MatchOption-at_some}
use Rattle.rules.specs.declared.Limits.{Limits}
use Rattle.rules.specs.declared.Refusal.{Refusal}
use Rattle.rules.specs.declared.Call.{Call}
use Rattle.rules.specs.declared.Call.TheVariants.{Sit, Play, Ticks, See, May, Back, CanForce}
use Rattle.rules.specs.declared.Move.{Move}
use Rattle.rules.specs.Rules.{Game, turn}
use Rattle.rules.specs.Play.{is_over, legal_moves}
use Rattle.rules.specs.Calls.{Answer, refused, shown, listed, Table, State, all_calls, call_number, good_fields, table_at, table_over, end_of, refusal_of, refusal, refusal_place, next, step, reply, answer}
use Rattle.wire.specs.Fields.{written, room}
use Rattle.answers.specs.Answers.{moves_fields, answer_kind, answer_fields, answer_bytes}
use Rattle.answers.specs.Writing.{list_head}
use Rattle.rows.specs.Layout.{game_at}
use Rattle.tables.specs.declared.acting.Seat.{Seat}
use Rattle.tables.specs.Means.{Means}
use Rattle.tables.specs.Acting.{Outcome, told, refused_by, RightOutcome, sat, played, IsSeat, RightSeat, seat_of}
use Rattle.session.specs.Calling.{stage}
use Rattle.session.specs.Inner.{Writes, Acts}
use Rattle.tables.proofs.Theorems.{sitting_is_right, playing_is_right, seats_are_right}

-- an answer that was written whole
pub writes_answer :
    (rules w a b : List ℕ) (c : Call) (r : Option ℕ) (x : Answer) → r ≡ room 0 (answer_bytes x) a → b ≡ written 0 (answer_bytes x) a
    → ((l : Limits) (s : State) → Means rules w l s → x ≡ answer stage l s c) → Writes rules w c a b r
writes_answer rules w a b c r x size bytes is l s m =
    let e = is l s m in
    (subst (λ y. r ≡ room 0 (answer_bytes y) a) e size, λ _. subst (λ y. b ≡ written 0 (answer_bytes y) a) e bytes)

-- what has room was written
pub room_some :
    (r : Option ℕ) (bs a b : List ℕ) (P : Type 0) → r ≡ room 0 bs a → MatchOption r P (λ _. b ≡ written 0 bs a) → length bs ≤ length a → b ≡ written 0 bs a
unfolding room
room_some r bs a b P size bytes h =
    MatchOption-at_some P (λ _. b ≡ written 0 bs a) (length bs) (size ∙ cond-true _ _ _ (le-leb (0 + length bs) (length a) (omega arith))) bytes

-- a call that changes nothing
pub changes_nothing :
    (rules w a b : List ℕ) (c : Call) (r : Option ℕ) → ((l : Limits) (s : State) → step stage l s c ≡ s) → Writes rules w c a b r → Acts rules w a c w b r
changes_nothing rules w a b c r still writes = record {
  writes = writes;
  changes = λ l s m. record { means = subst (Means rules w l) (sym (still l s)) m; keeps = λ h. refl; past = λ k h. refl };
}

-- a call that changes the state
changes_state :
    (rules w a v b : List ℕ) (c : Call) (o : Game → Outcome) (t : Result ℕ Refusal) (r : Option ℕ)
    → ((l : Limits) (s : State) → refusal stage l s c ≡ refusal all_calls l s c)
    → ((l : Limits) (s : State) → Means rules w l s → RightOutcome rules w l s c (o s.game)) → v ≡ (o (game_at rules)).0 → t ≡ (o (game_at rules)).1
    → r ≡ room 0 (answer_bytes (told t)) a → b ≡ written 0 (answer_bytes (told t)) a → Acts rules w a c v b r
unfolding step answer
changes_state rules w a v b c o t r same right after says size bytes = record {
  writes =
      writes_answer rules w a b c r (told t) size bytes
      (λ l s m.
      ap told (says ∙ ap (λ g. (o g).1) m.game) ∙ (right l s m).says
      ∙ ap (λ k. cond (eqb k 0) (reply l s c) (refused (record { number = k; place = refusal_place c k }))) (sym (same l s)));
  changes = λ l s m.
      let x = right l s m in
      let e : v ≡ (o s.game).0 = after ∙ ap (λ g. (o g).0) m.game in
      let to : step all_calls l s c ≡ step stage l s c = ap (λ k. cond (eqb k 0) (next s c) s) (sym (same l s)) in
      record {
        means = subst (λ y. Means rules y l (step stage l s c)) (sym e) (subst (Means rules (o s.game).0 l) to x.means);
        keeps = λ h. e ∙ x.keeps (subst (λ k. 0 < k) (same l s) h);
        past = λ k h. ap (λ y. get_or y k 0) e ∙ x.past k h;
      };
}

-- the server refuses what it can do for the reasons of one that can do all
refusal_sit : (l : Limits) (s : State) (n : ℕ) → refusal stage l s (Sit n) ≡ refusal all_calls l s (Sit n)
unfolding refusal call_number
refusal_sit l s n = refl

refusal_play : (l : Limits) (s : State) (u m : ℕ) (x : Move) → refusal stage l s (Play u m x) ≡ refusal all_calls l s (Play u m x)
unfolding refusal call_number
refusal_play l s u m x = refl

pub sits :
    (rules w a v b : List ℕ) (n : ℕ) (t : Result ℕ Refusal) (r : Option ℕ) → n < 4294967296 → v ≡ (sat (game_at rules) w n).0
    → t ≡ (sat (game_at rules) w n).1 → r ≡ room 0 (answer_bytes (told t)) a → b ≡ written 0 (answer_bytes (told t)) a → Acts rules w a (Sit n) v b r
sits rules w a v b n t r small =
    changes_state rules w a v b (Sit n) (λ g. sat g w n) t r (λ l s. refusal_sit l s n) (λ l s m. sitting_is_right rules w l s n m small)

pub plays :
    (rules w a v b : List ℕ) (u m : ℕ) (x : Move) (t : Result ℕ Refusal) (r : Option ℕ) → v ≡ (played (game_at rules) w u m x).0
    → t ≡ (played (game_at rules) w u m x).1 → r ≡ room 0 (answer_bytes (told t)) a → b ≡ written 0 (answer_bytes (told t)) a
    → Acts rules w a (Play u m x) v b r
plays rules w a v b u m x t r =
    changes_state rules w a v b (Play u m x) (λ g. played g w u m x) t r (λ l s. refusal_play l s u m x) (λ l s y. playing_is_right rules w l s u m x y)

-- seeing and listing
pub see_still : (l : Limits) (s : State) (t : ℕ) → step stage l s (See t) ≡ s
unfolding step next
see_still l s t = cond_both (eqb (refusal stage l s (See t)) 0) s s (λ x. x ≡ s) (λ e. refl) (λ e. refl)

pub may_still : (l : Limits) (s : State) (t : ℕ) → step stage l s (May t) ≡ s
unfolding step next
may_still l s t = cond_both (eqb (refusal stage l s (May t)) 0) s s (λ x. x ≡ s) (λ e. refl) (λ e. refl)

-- the answer at a table that is there, and at one that isn't
see_there : (l : Limits) (s : State) (t : ℕ) → t < length s.tables → reply l s (See t) ≡ answer stage l s (See t)
unfolding answer refusal refusal_of call_number good_fields
see_there l s t h = ap (λ b. cond (eqb (cond b 0 4) 0) (reply l s (See t)) (refused (record { number = cond b 0 4; place = refusal_place (See t) (cond b 0 4) }))) (sym (lt-ltb t (length s.tables) h))

see_missing : (l : Limits) (s : State) (t : ℕ) → length s.tables ≤ t → refused (refused_by 4 0) ≡ answer stage l s (See t)
unfolding answer refusal refusal_of call_number good_fields refusal_place
see_missing l s t h = ap (λ b. cond (eqb (cond b 0 4) 0) (reply l s (See t)) (refused (record { number = cond b 0 4; place = 0 }))) (sym (le-ltb t (length s.tables) h))

may_there : (l : Limits) (s : State) (t : ℕ) → t < length s.tables → reply l s (May t) ≡ answer stage l s (May t)
unfolding answer refusal refusal_of call_number good_fields
may_there l s t h = ap (λ b. cond (eqb (cond b 0 4) 0) (reply l s (May t)) (refused (record { number = cond b 0 4; place = refusal_place (May t) (cond b 0 4) }))) (sym (lt-ltb t (length s.tables) h))

may_missing : (l : Limits) (s : State) (t : ℕ) → length s.tables ≤ t → refused (refused_by 4 0) ≡ answer stage l s (May t)
unfolding answer refusal refusal_of call_number good_fields refusal_place
may_missing l s t h = ap (λ b. cond (eqb (cond b 0 4) 0) (reply l s (May t)) (refused (record { number = cond b 0 4; place = 0 }))) (sym (le-ltb t (length s.tables) h))

-- what was found of a table, or that it isn't there
module _ (rules w a b : List ℕ) (t : ℕ) (r : Option ℕ) where
  missing :
      (f : Refusal) → Err f ≡ seat_of w t → (l : Limits) (s : State) → Means rules w l s → (refused_by 4 0 ≡ f) × (length s.tables ≤ t)
  missing f e l s m = let x = subst (RightSeat w s t) (sym e) (seats_are_right rules w l s t m) in (sym x.0, x.1)

  there : (q : Seat) → Ok q ≡ seat_of w t → (l : Limits) (s : State) → Means rules w l s → IsSeat w s t q
  there q e l s m = subst (RightSeat w s t) (sym e) (seats_are_right rules w l s t m)

  pub see_refused :
      (f : Refusal) → Err f ≡ seat_of w t → r ≡ room 0 (answer_bytes (refused f)) a → b ≡ written 0 (answer_bytes (refused f)) a
      → Writes rules w (See t) a b r
  see_refused f e size bytes =
      writes_answer rules w a b (See t) r (refused f) size bytes
      (λ l s m. let x = missing f e l s m in ap refused (sym x.0) ∙ see_missing l s t x.1)

  pub may_refused :
      (f : Refusal) → Err f ≡ seat_of w t → r ≡ room 0 (answer_bytes (refused f)) a → b ≡ written 0 (answer_bytes (refused f)) a
      → Writes rules w (May t) a b r
  may_refused f e size bytes =
      writes_answer rules w a b (May t) r (refused f) size bytes
      (λ l s m. let x = missing f e l s m in ap refused (sym x.0) ∙ may_missing l s t x.1)

  pub see_shown :
      (q : Seat) (cells clocks : List ℕ) (me : ℕ) → Ok q ≡ seat_of w t → cells ≡ take q.cells (drop q.at w)
      → clocks ≡ take q.players (drop (q.at + q.cells) w) → me ≡ turn (game_at rules) cells
      → r ≡ room 0 (answer_bytes (shown cells me q.end clocks)) a → b ≡ written 0 (answer_bytes (shown cells me q.end clocks)) a
      → Writes rules w (See t) a b r
  unfolding reply
  see_shown q cells clocks me e isc isk ism size bytes =
      writes_answer rules w a b (See t) r (shown cells me q.end clocks) size bytes
      (λ l s m.
      let x = there q e l s m in
      let same : cells ≡ (table_at s t).cells = isc ∙ x.cells in
      let whose : me ≡ turn s.game (table_at s t).cells = ism ∙ (λ i. turn (m.game i) (same i)) in
      (λ i. shown (same i) (whose i) (x.end i) ((isk ∙ x.clocks) i)) ∙ see_there l s t x.there)

  -- a table that is over, and one that goes on
  over_by : (u v : Bool) → (◌≡◌ {A = ℕ} (cond u 2 (cond v 1 0)) 0 → ⊥) → (u || v) ≡ true
  over_by true v h = refl
  over_by false true h = refl
  over_by false false h = absurd (h refl)

  going_by : (u v : Bool) → ◌≡◌ {A = ℕ} (cond u 2 (cond v 1 0)) 0 → (u || v) ≡ false
  going_by true v h = absurd (omega arith)
  going_by false true h = absurd (omega arith)
  going_by false false h = refl

  none_head : answer_bytes (listed []) ≡ list_head 0
  unfolding answer_bytes answer_kind answer_fields moves_fields list_head
  none_head = refl

  pub may_none :
      (q : Seat) → Ok q ≡ seat_of w t → (q.end ≡ 0 → ⊥) → r ≡ room 0 (list_head 0) a → b ≡ written 0 (list_head 0) a → Writes rules w (May t) a b r
  unfolding reply end_of
  may_none q e over size bytes =
      writes_answer rules w a b (May t) r (listed []) (subst (λ x. r ≡ room 0 x a) (sym none_head) size)
      (subst (λ x. b ≡ written 0 x a) (sym none_head) bytes)
      (λ l s m.
      let x = there q e l s m in
      let u : Table = table_at s t in
      let done : table_over s.game u ≡ true = over_by u.timed_out (is_over s.game u.cells) (λ h. over (x.end ∙ h)) in
      ap listed (sym (cond-true (table_over s.game u) [] (legal_moves s.game u.cells) done)) ∙ may_there l s t x.there)

  pub may_listed :
      (q : Seat) (cells : List ℕ) → Ok q ≡ seat_of w t → q.end ≡ 0 → cells ≡ take q.cells (drop q.at w)
      → r ≡ room 0 (answer_bytes (listed (legal_moves (game_at rules) cells))) a
      → (length (answer_bytes (listed (legal_moves (game_at rules) cells))) ≤ length a
      → b ≡ written 0 (answer_bytes (listed (legal_moves (game_at rules) cells))) a) → Writes rules w (May t) a b r
  unfolding reply end_of
  may_listed q cells e goes isc size bytes l s m =
      let x = there q e l s m in
      let u : Table = table_at s t in
      let on : table_over s.game u ≡ false = going_by u.timed_out (is_over s.game u.cells) (sym x.end ∙ goes) in
      let same : cells ≡ u.cells = isc ∙ x.cells in
      let is : listed (legal_moves (game_at rules) cells) ≡ answer stage l s (May t) =
      ap listed ((λ i. legal_moves (m.game i) (same i)) ∙ sym (cond-false (table_over s.game u) [] (legal_moves s.game u.cells) on))
      ∙ may_there l s t x.there in (
        subst (λ y. r ≡ room 0 (answer_bytes y) a) is size,
        subst (λ y. length (answer_bytes y) ≤ length a → b ≡ written 0 (answer_bytes y) a) is bytes,
      )

-- a call that the server can't do
module _ (rules w a b : List ℕ) (r : Option ℕ) (f : Refusal) (two : f.number ≡ 2) where
  unable :
      (c : Call) → f.place ≡ refusal_place c 2 → ((l : Limits) (s : State) → refusal stage l s c ≡ 2) → r ≡ room 0 (answer_bytes (refused f)) a
      → b ≡ written 0 (answer_bytes (refused f)) a → Acts rules w a c w b r
  unfolding step answer
  unable c place why size bytes =
      changes_nothing rules w a b c r (λ l s. ap (λ k. cond (eqb k 0) (next s c) s) (why l s))
      (writes_answer rules w a b c r (refused f) size bytes
      (λ l s m.
      (λ i. refused (record { number = two i; place = place i }))
      ∙ ap (λ k. cond (eqb k 0) (reply l s c) (refused (record { number = k; place = refusal_place c k }))) (sym (why l s))))

  pub no_ticks :
      (n : ℕ) → f.place ≡ refusal_place (Ticks n) 2 → r ≡ room 0 (answer_bytes (refused f)) a → b ≡ written 0 (answer_bytes (refused f)) a
      → Acts rules w a (Ticks n) w b r
  unfolding refusal call_number
  no_ticks n place = unable (Ticks n) place (λ l s. refl)

  pub no_back :
      (t n : ℕ) → f.place ≡ refusal_place (Back t n) 2 → r ≡ room 0 (answer_bytes (refused f)) a → b ≡ written 0 (answer_bytes (refused f)) a
      → Acts rules w a (Back t n) w b r
  unfolding refusal call_number
  no_back t n place = unable (Back t n) place (λ l s. refl)

  pub no_force :
      (t m k d : ℕ) → f.place ≡ refusal_place (CanForce t m k d) 2 → r ≡ room 0 (answer_bytes (refused f)) a
      → b ≡ written 0 (answer_bytes (refused f)) a → Acts rules w a (CanForce t m k d) w b r
  unfolding refusal call_number
  no_force t m k d place = unable (CanForce t m k d) place (λ l s. refl)
