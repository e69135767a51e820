-- Every table stands where its moves lead. Assumes nothing.
use Rattle.std.proofs.Common.{◌≡◌, ℕ, ◌<◌, Bool, true, false, cond, not, ◌&&◌, eqb, ltb, List, [], ◌∷◌, ◌++◌, length, replicate, refl, ap, ◌∙◌, subst, arith}
use Rattle.std.specs.List.{AllByRecursion}
use Rattle.std.proofs.ByRecursion.{All-get_or, All-push, All-set}
use Rattle.std.proofs.lemmas.Bool.{eqb-true, ltb-true, and_parts, and_from, or_parts, not_from_false, cond_both}
use Rattle.rules.specs.declared.Move.{Move}
use Rattle.rules.specs.declared.Limits.{Limits}
use Rattle.rules.specs.declared.Call.{Call}
use Rattle.rules.specs.declared.Call.TheVariants.{Sit, Play, Ticks, See, May, Back, CanForce}
use Rattle.rules.specs.Rules.{Position, Game, turn, is_legal, apply}
use Rattle.rules.specs.Play.{is_over, replay}
use Rattle.rules.specs.Calls.{Stage, Table, State, no_table, table_at, table_over, call_number, good_fields, refusal_of, refusal, ticked, all_ticked, next, step, opened, run}
use Rattle.laws.specs.Reached.{all_were_legal, ReachedByItsMoves}

replay_push : (g : Game) (p : Position) (vs : List Move) (v : Move) → replay g p (vs ++ (v ∷ [])) ≡ apply g (replay g p vs) v
unfolding replay
replay_push g p [] v = refl
replay_push g p (w ∷ ws) v = replay_push g (apply g p w) ws v

legal_push : (g : Game) (p : Position) (vs : List Move) (v : Move) →
    all_were_legal g p vs ≡ true → is_legal g (replay g p vs) v ≡ true → is_over g (replay g p vs) ≡ false → all_were_legal g p (vs ++ (v ∷ [])) ≡ true
unfolding replay all_were_legal
legal_push g p [] v a h o = and_from _ _ (and_from _ _ h (not_from_false _ o)) refl
legal_push g p (w ∷ ws) v a h o =
    let both = and_parts (is_legal g p w && not (is_over g p)) (all_were_legal g (apply g p w) ws) a in
    and_from _ _ both.0 (legal_push g (apply g p w) ws v both.1 h o)

-- a table that stands where its legal moves lead
abbrev Sound : Game → Table → Type 0
Sound g u = (replay g g.start u.played ≡ u.cells) × (all_were_legal g g.start u.played ≡ true)

-- what a test that does not refuse says
pub passed : (b : Bool) (x k : ℕ) → 0 < k → cond b x k ≡ 0 → (b ≡ true) × (x ≡ 0)
passed true x k l h = (refl, h)
passed false x k l h = absurd (omega arith)

passed_not : (b : Bool) (x k : ℕ) → 0 < k → cond b k x ≡ 0 → (b ≡ false) × (x ≡ 0)
passed_not true x k l h = absurd (omega arith)
passed_not false x k l h = (refl, h)

-- a move that is not refused is played at a table that is there and not over, and is legal
pub record Playable (s : State) (t : ℕ) (v : Move) : Type 0 where
  pub there : t < length s.tables
  pub goes_on : is_over s.game (table_at s t).cells ≡ false
  pub legal : is_legal s.game (table_at s t).cells v ≡ true

pub playable : (l : Limits) (s : State) (t m : ℕ) (v : Move) → refusal_of l s (Play t m v) ≡ 0 → Playable s t v
unfolding refusal_of
playable l s t m v h =
    let u : Table = table_at s t in
    let a = passed (ltb t (length s.tables)) _ 4 (omega arith) h in
    let b = passed_not (table_over s.game u) _ 5 (omega arith) a.1 in
    let c = passed (eqb m (turn s.game u.cells)) _ 6 (omega arith) b.1 in
    let d = passed (is_legal s.game u.cells v) _ 7 (omega arith) c.1 in
    record { there = ltb-true _ _ a.0; goes_on = (or_parts u.timed_out _ b.0).1; legal = d.0 }

-- ticks change no position and no moves
ticked_sound : (g : Game) (n : ℕ) (us : List Table) → AllByRecursion (Sound g) us → AllByRecursion (Sound g) (all_ticked g n us)
unfolding all_ticked
ticked_sound g n [] a = tt
ticked_sound g n (u ∷ us) a =
    (cond_both (u.clocked && not (table_over g u)) (ticked g n u) u (Sound g) (λ _. a.0) (λ _. a.0), ticked_sound g n us a.1)

abbrev AllSound : State → Type 0
AllSound s = AllByRecursion (Sound s.game) s.tables

next_sound : (l : Limits) (s : State) (c : Call) → refusal_of l s c ≡ 0 → AllSound s → AllSound (next s c)
unfolding next replay all_were_legal
next_sound l s (Sit n) h a =
    let g : Game = s.game in
    let u : Table = record { cells = g.start; played = []; clocked = not (eqb n 0); clocks = replicate g.players n; timed_out = false } in
    All-push (Sound g) s.tables u a (refl, refl)
next_sound l s (Play t m v) h a =
    let g : Game = s.game in
    let u : Table = table_at s t in
    let may = playable l s t m v h in
    let sound : Sound g u = All-get_or (Sound g) s.tables t no_table may.there a in
    All-set (Sound g) s.tables t _ (
      replay_push g g.start u.played v ∙ ap (λ p. apply g p v) sound.0,
      legal_push g g.start u.played v sound.1 (rw sound.0 may.legal) (rw sound.0 may.goes_on),
    )
    a
next_sound l s (Ticks n) h a = ticked_sound s.game n s.tables a
next_sound l s (See t) h a = a
next_sound l s (May t) h a = a
next_sound l s (Back t n) h a = a
next_sound l s (CanForce t m k d) h a = a

next_game : (s : State) (c : Call) → (next s c).game ≡ s.game
unfolding next
next_game s (Sit n) = refl
next_game s (Play t m v) = refl
next_game s (Ticks n) = refl
next_game s (See t) = refl
next_game s (May t) = refl
next_game s (Back t n) = refl
next_game s (CanForce t m k d) = refl

module _ (can : Stage) (l : Limits) where
  -- what holds of s and of what a call makes of s if it is not refused holds after any call
  step_both : (P : State → Type 0) (s : State) (c : Call) → P s → (refusal_of l s c ≡ 0 → P (next s c)) → P (step can l s c)
  unfolding step refusal
  step_both P s c old new =
      cond_both (eqb (refusal can l s c) 0) (next s c) s P
      (λ e. new (passed (can (call_number c) && good_fields c) (refusal_of l s c) 2 (omega arith) (eqb-true _ 0 e)).1) (λ _. old)

  run_sound : (s : State) (cs : List Call) → AllSound s → AllSound (run can l s cs)
  unfolding run
  run_sound s [] a = a
  run_sound s (c ∷ cs) a = run_sound (step can l s c) cs (step_both AllSound s c a (λ h. next_sound l s c h a))

  run_game : (s : State) (cs : List Call) → (run can l s cs).game ≡ s.game
  unfolding run
  run_game s [] = refl
  run_game s (c ∷ cs) = run_game (step can l s c) cs ∙ step_both (λ s'. s'.game ≡ s.game) s c refl (λ _. next_game s c)

pub reached_by_its_moves : ReachedByItsMoves
reached_by_its_moves can l g cs t h =
    let s : State = run can l (opened g) cs in
    let e : s.game ≡ g = run_game can l (opened g) cs in
    subst (λ g'. Sound g' (table_at s t)) e (All-get_or (Sound s.game) s.tables t no_table h (run_sound can l (opened g) cs tt))
