-- A refusal's number is that of a fault, and no fault has a smaller one: the rest follows from these two.
use Rattle.std.proofs.Common.{◌≡◌, ℕ, ◌<◌, ◌≤◌, Bool, true, false, ◌&&◌, eqb, ltb, leb, ◌≢◌, length, refl, ap, ◌∙◌, subst, ⊎_elim, arith}
use Rattle.std.proofs.lemmas.Bool.{true≢false, both_ways, cases_lt, cond_both, cond-false, and_cases, ltb-true, ltb-false, leb-false, eqb-false, ne_eqb}
use Rattle.std.proofs.lemmas.Bool.Decides.{nat_tests}
use Rattle.rules.specs.declared.Limits.{Limits}
use Rattle.rules.specs.declared.Refusal.{Refusal}
use Rattle.rules.specs.declared.Call.{Call}
use Rattle.rules.specs.declared.Call.TheVariants.{Sit, Play, Ticks, See, May, Back, CanForce}
use Rattle.rules.specs.Rules.{turn, is_legal}
use Rattle.rules.specs.Calls.{State, Stage, call_number, table_at, table_over, total_played, good_fields, refusal_of, refusal, refusal_place, next, step, Answer, refused, number, shown, listed, forced, reply, answer, answers}
use Rattle.laws.specs.Refusals.{Fault, stage_cannot, sit_too_large, ticks_too_large, too_deep, play_nowhere, see_nowhere, may_nowhere, back_nowhere, force_nowhere, over, not_the_turn, no_such_player, not_legal, tables_full, moves_full, not_so_many, Applies, LeastThatApplies, Justified, RefusedForAFault, RefusedByAKnownNumber, RefusedChangesNothing}

-- what a fault says of the refusal
record Told (can : Stage) (l : Limits) (s : State) (c : Call) (n p : ℕ) : Type 0 where
  refused : 0 < refusal can l s c
  number : refusal can l s c ≤ n
  place : p ≤ refusal_place c n
  known : (n ≤ 9) × (n ≢ 1) × (n ≢ 3)

told : (can : Stage) (l : Limits) (s : State) {c : Call} {n p : ℕ} → Fault can l s c n p → Told can l s c n p
unfolding refusal refusal_of call_number good_fields refusal_place
told can l s (stage_cannot h) = grind (arith, nat_tests)
told can l s (sit_too_large h) = grind (arith, nat_tests)
told can l s (ticks_too_large h) = grind (arith, nat_tests)
told can l s (too_deep h) = grind (arith, nat_tests)
told can l s (play_nowhere h) = grind (arith, nat_tests)
told can l s (see_nowhere h) = grind (arith, nat_tests)
told can l s (may_nowhere h) = grind (arith, nat_tests)
told can l s (back_nowhere h) = grind (arith, nat_tests)
told can l s (force_nowhere h) = grind (arith, nat_tests)
told can l s (over h) = grind (arith, nat_tests)
told can l s (not_the_turn h) = grind (arith, nat_tests)
told can l s (no_such_player h) = grind (arith, nat_tests)
told can l s (not_legal h) = grind (arith, nat_tests)
told can l s (tables_full h) = grind (arith, nat_tests)
told can l s (moves_full h) = grind (arith, nat_tests)
told can l s (not_so_many h) = grind (arith, nat_tests)

-- a call that is refused by r has a fault of that number, at the place that the refusal gives
abbrev Found : Stage → Limits → State → Call → ℕ → Type 0
Found can l s c r = 0 < r → Fault can l s c r (refusal_place c r)

-- number 2, first for a call whose fields are all good
stage_only : (can : Stage) (l : Limits) (s : State) (c : Call) → (can (call_number c) && true) ≡ false → Fault can l s c 2 0
stage_only can l s c e = ⊎_elim stage_cannot (λ never. absurd (true≢false never)) (and_cases _ _ e)

found_cannot : (can : Stage) (l : Limits) (s : State) (c : Call) → (can (call_number c) && good_fields c) ≡ false → Fault can l s c 2 (refusal_place c 2)
unfolding call_number good_fields refusal_place
found_cannot can l s (Sit n) e = ⊎_elim stage_cannot (λ large. sit_too_large (ltb-false _ _ large)) (and_cases _ _ e)
found_cannot can l s (Play t m v) e = stage_only can l s (Play t m v) e
found_cannot can l s (Ticks n) e = ⊎_elim stage_cannot (λ large. ticks_too_large (ltb-false _ _ large)) (and_cases _ _ e)
found_cannot can l s (See t) e = stage_only can l s (See t) e
found_cannot can l s (May t) e = stage_only can l s (May t) e
found_cannot can l s (Back t n) e = stage_only can l s (Back t n) e
found_cannot can l s (CanForce t m k d) e =
    cond_both (ltb 64 d) 3 0 (Fault can l s (CanForce t m k d) 2) (λ deep. too_deep (ltb-true 64 d deep))
    (λ not-deep. ⊎_elim stage_cannot (λ deep. absurd (omega (arith, leb-false d 64 deep, ltb-false 64 d not-deep))) (and_cases _ _ e))

not_refused : {A : Type 0} → 0 < 0 → A
not_refused pos = absurd (omega arith)

-- the other numbers, test by test as `refusal_of` goes
found_of : (can : Stage) (l : Limits) (s : State) (c : Call) → Found can l s c (refusal_of l s c)
unfolding refusal_of refusal_place
found_of can l s (Sit n) =
    cond_both (ltb (length s.tables) l.tables) 0 8 (Found can l s (Sit n)) (λ _. not_refused) (λ e _. tables_full (ltb-false _ _ e))
found_of can l s (Play t m v) =
    let F = Found can l s (Play t m v) in
    cond_both (ltb t (length s.tables)) _ 4 F
    (λ _. cond_both (table_over s.game (table_at s t)) 5 _ F (λ e _. over e)
    (λ _. cond_both (eqb m (turn s.game (table_at s t).cells)) _ 6 F
    (λ _. cond_both (is_legal s.game (table_at s t).cells v) _ 7 F
    (λ _. cond_both (ltb (total_played s.tables) l.moves) 0 8 F (λ _. not_refused) (λ e _. moves_full (ltb-false _ _ e)))
    (λ e _. not_legal e))
    (λ e _. not_the_turn (eqb-false _ _ e))))
    (λ e _. play_nowhere (ltb-false _ _ e))
found_of can l s (Ticks n) = not_refused
found_of can l s (See t) =
    cond_both (ltb t (length s.tables)) 0 4 (Found can l s (See t)) (λ _. not_refused) (λ e _. see_nowhere (ltb-false _ _ e))
found_of can l s (May t) =
    cond_both (ltb t (length s.tables)) 0 4 (Found can l s (May t)) (λ _. not_refused) (λ e _. may_nowhere (ltb-false _ _ e))
found_of can l s (Back t n) =
    let F = Found can l s (Back t n) in
    cond_both (ltb t (length s.tables)) _ 4 F
    (λ _. cond_both (leb n (length (table_at s t).played)) 0 9 F (λ _. not_refused) (λ e _. not_so_many (leb-false _ _ e)))
    (λ e _. back_nowhere (ltb-false _ _ e))
found_of can l s (CanForce t m k d) =
    let F = Found can l s (CanForce t m k d) in
    cond_both (ltb t (length s.tables)) _ 4 F
    (λ _. cond_both (ltb m s.game.players) 0 6 F (λ _. not_refused) (λ e _. no_such_player (ltb-false _ _ e)))
    (λ e _. force_nowhere (ltb-false _ _ e))

found : (can : Stage) (l : Limits) (s : State) (c : Call) → Found can l s c (refusal can l s c)
unfolding refusal
found can l s c =
    cond_both (can (call_number c) && good_fields c) (refusal_of l s c) 2 (Found can l s c) (λ _. found_of can l s c) (λ e _. found_cannot can l s c e)

pub least_that_applies : LeastThatApplies
least_that_applies can l s c =
    let r = refusal can l s c in
    let applies : 0 < r → Applies r can l s c = λ pos. (refusal_place c r, found can l s c pos) in (
      λ n pos. (
        λ e. (subst (λ k. Applies k can l s c) e (applies (omega arith)), λ k below (p, f). omega (arith, (told can l s f).number)),
        λ ((p, f), none). ⊎_elim (λ lt. absurd (none r lt (applies (told can l s f).refused))) (λ ge. omega (arith, (told can l s f).number)) (cases_lt r n),
      ),
      λ e k (p, f). omega (arith, (told can l s f).refused),
      λ none. ⊎_elim (λ pos. absurd (none r (applies pos))) (λ le. omega arith) (cases_lt 0 r),
    )

-- a call that is taken is not answered by a refusal
is_refused : Answer → Bool
is_refused (refused r) = true
is_refused (number n) = false
is_refused (shown p m e ks) = false
is_refused (listed vs) = false
is_refused (forced n) = false

reply_is_none : (l : Limits) (s : State) (c : Call) → is_refused (reply l s c) ≡ false
unfolding is_refused reply
reply_is_none l s (Sit n) = refl
reply_is_none l s (Play t m v) = refl
reply_is_none l s (Ticks n) = refl
reply_is_none l s (See t) = refl
reply_is_none l s (May t) = refl
reply_is_none l s (Back t n) = refl
reply_is_none l s (CanForce t m k d) = refl

-- what the answer says where it is a refusal
abbrev said : Stage → Limits → State → Call → Refusal
said can l s c = record { number = refusal can l s c; place = refusal_place c (refusal can l s c) }

answer_said : (can : Stage) (l : Limits) (s : State) (c : Call) → 0 < refusal can l s c → answer can l s c ≡ refused (said can l s c)
unfolding answer
answer_said can l s c pos = cond-false (eqb (refusal can l s c) 0) (reply l s c) (refused (said can l s c)) (ne_eqb _ 0 (λ e. omega arith))

same_refusal : (a b : Refusal) → refused a ≡ refused b → a ≡ b
same_refusal a b e = cc

said_answer :
    (can : Stage) (l : Limits) (s : State) (c : Call) (r : Refusal) → answer can l s c ≡ refused r → (0 < refusal can l s c) × (said can l s c ≡ r)
unfolding answer is_refused
said_answer can l s c r =
    cond_both (eqb (refusal can l s c) 0) (reply l s c) (refused (said can l s c)) (λ a. a ≡ refused r → (0 < refusal can l s c) × (said can l s c ≡ r))
    (λ _ e. absurd (both_ways (is_refused (reply l s c)) (reply_is_none l s c) (ap is_refused e)))
    (λ e same. (omega (arith, eqb-false (refusal can l s c) 0 e), same_refusal (said can l s c) r same))

said_justified : (can : Stage) (l : Limits) (s : State) (c : Call) → 0 < refusal can l s c → Justified can l s c (said can l s c)
said_justified can l s c pos = record { fault = found can l s c pos; least = λ n p f. (told can l s f).number; last = λ p f. (told can l s f).place }

justified_said : (can : Stage) (l : Limits) (s : State) (c : Call) (r : Refusal) → Justified can l s c r → said can l s c ≡ r
justified_said can l s c r j =
    let f = told can l s j.fault in
    let g = found can l s c f.refused in
    let same : refusal can l s c ≡ r.number = omega (arith, f.number, j.least (refusal can l s c) (refusal_place c (refusal can l s c)) g) in
    let h : Fault can l s c r.number (refusal_place c r.number) = subst (λ n. Fault can l s c n (refusal_place c n)) same g in
    let at : refusal_place c r.number ≡ r.place = omega (arith, f.place, j.last (refusal_place c r.number) h) in
    λ i. record { number = same i; place = (ap (refusal_place c) same ∙ at) i }

pub refused_for_a_fault : RefusedForAFault
refused_for_a_fault can l s c r = (
  λ e. let (pos, same) = said_answer can l s c r e in subst (Justified can l s c) same (said_justified can l s c pos),
  λ j. answer_said can l s c (told can l s j.fault).refused ∙ ap refused (justified_said can l s c r j),
)

pub refused_by_a_known_number : RefusedByAKnownNumber
refused_by_a_known_number can l s c = ⊎_elim (λ pos. (told can l s (found can l s c pos)).known) (λ le. omega arith) (cases_lt 0 (refusal can l s c))

pub refused_changes_nothing : RefusedChangesNothing
unfolding step
refused_changes_nothing can l s c cs pos =
    let same : step can l s c ≡ s = cond-false (eqb (refusal can l s c) 0) (next s c) s (ne_eqb _ 0 (λ e. omega arith)) in
    (same, ap (λ after. answers can l after cs) same)
