-- Every run answers as the written rules.
use Rattle.std.proofs.Common.{◌≡◌, ℕ, ◌≤◌, true, eqb, List, ◌∷◌, ◌++◌, length, take, drop, Ok, Err, Result, sym, refl, ap, ◌∙◌, subst, arith}
use Rattle.std.proofs.lemmas.Bool.{cond_both}
use Rattle.std.proofs.lemmas.List.{take_at}
use Rattle.rules.specs.declared.Limits.{Limits}
use Rattle.rules.specs.declared.Call.{Call}
use Rattle.rules.specs.declared.Call.TheVariants.{Sit, Play, Ticks, See, May, Back, CanForce}
use Rattle.rules.specs.Rules.{Game}
use Rattle.rules.specs.Calls.{State, refusal, next, step, opened}
use Rattle.rules.specs.Bounds.{good_game}
use Rattle.wire.specs.Calls.{parse_call}
use Rattle.wire.specs.Games.{size_of}
use Rattle.wire.proofs.Writing.{written_front}
use Rattle.answers.specs.Answers.{answer_fields, answer_bytes}
use Rattle.answers.specs.Size.{answer_room, tables_sized}
use Rattle.answers.proofs.AnswerBytes.{length_answer}
use Rattle.answers.proofs.Sizes.{answers_fit}
use Rattle.tables.specs.declared.plan.Sizes.{Sizes}
use Rattle.tables.specs.Layout.{sizes_of}
use Rattle.tables.specs.Means.{Means}
use Rattle.session.specs.Opening.{Lent, lent}
use Rattle.session.specs.Calling.{stage, answer_read, step_read, answer_to, state_after, Serves, Called}
use Rattle.session.specs.Promise.{answers_to, state_after_all, Run, done, next as step_then, Started, Right, RefusalKeeps, EnoughMemory}
use Rattle.session.proofs.Starting.{needed_is, opened_sizes, long_parts}
use Rattle.session.proofs.Readiness.{is_ready, all_sized}

-- no call changes the game
next_game : (s : State) (c : Call) → (next s c).game ≡ s.game
unfolding next
next_game s (Sit n) = refl
next_game s (Play t m v) = refl
next_game s (Ticks n) = refl
next_game s (See t) = refl
next_game s (May t) = refl
next_game s (Back t n) = refl
next_game s (CanForce t m k d) = refl

step_game : (l : Limits) (s : State) (r : Result Call ℕ) → (step_read l s r).game ≡ s.game
unfolding step
step_game l s (Ok c) = cond_both (eqb (refusal stage l s c) 0) (next s c) s (λ x. x.game ≡ s.game) (λ e. next_game s c) (λ e. refl)
step_game l s (Err i) = refl

pub after_game : (l : Limits) (s : State) (q : List ℕ) → (state_after l s q).game ≡ s.game
unfolding state_after
after_game l s q = step_game l s (parse_call q)

-- every answer has room
pub read_fits :
    (l : Limits) (s : State) (r : Result Call ℕ) → good_game s.game ≡ true → tables_sized s.game s.tables ≡ true
    → length (answer_bytes (answer_read l s r)) ≤ answer_room s.game
unfolding answer_fields
read_fits l s (Ok c) good sized = answers_fit stage l s c good sized
read_fits l s (Err i) good sized = rw (length_answer (answer_read l s (Err i))) (omega arith)

-- what a run goes on with: memory means s, and the rules' slice is long enough
pub record Goes (l : Limits) (s : State) (rules w : List ℕ) (z : Sizes) : Type 0 where
  pub means : Means rules w l s
  pub sizes : z ≡ sizes_of l (size_of s.game)
  pub long : z.rules ≤ length rules

pub fits_answer_slice :
    (l : Limits) (s : State) (rules w : List ℕ) (z : Sizes) (q : List ℕ) → Goes l s rules w z → length (answer_bytes (answer_to l s q)) ≤ z.answer
unfolding answer_to size_of
fits_answer_slice l s rules w z q g =
    subst (λ y. length (answer_bytes (answer_to l s q)) ≤ y.answer) (sym g.sizes)
    (read_fits l s (parse_call q) g.means.good (all_sized rules w l s g.means))

-- one step of a run
module _
    (l : Limits) (s : State) (z : Sizes) {rules w q scratch answer : List ℕ} {n : Lent} {r : ℕ} (g : Goes l s rules w z)
    (enough : z.scratch ≤ length scratch) (room : z.answer ≤ length answer) (c : Called (lent rules w scratch answer) q n r)
  where
    pub served : Serves l s (lent rules w scratch answer) q n r
    served =
        let e = g.sizes in
        c.serves l s
        (is_ready rules w l s g.means scratch answer (subst (λ y. y.rules ≤ length rules) e g.long) (subst (λ y. y.scratch ≤ length scratch) e enough)
        (subst (λ y. y.answer ≤ length answer) e room)) g.means

    pub goes_on : n.rules ≡ rules → Goes l (state_after l s q) rules n.state z
    goes_on same = record {
      means = subst (λ x. Means x n.state l (state_after l s q)) same served.means;
      sizes = g.sizes ∙ ap (λ x. sizes_of l (size_of x)) (sym (after_game l s q));
      long = g.long;
    }

    pub whole_answer : n.answer ≡ answer_bytes (answer_to l s q) ++ drop r answer
    whole_answer =
        let fits = fits_answer_slice l s rules w z q g in
        served.says ∙ written_front (answer_bytes (answer_to l s q)) answer (omega (arith, fits))
        ∙ ap (λ k. answer_bytes (answer_to l s q) ++ drop k answer) (sym served.size)

    pub right_answer : take r n.answer ≡ answer_bytes (answer_to l s q)
    right_answer = ap (take r) whole_answer ∙ take_at (answer_bytes (answer_to l s q)) (drop r answer) r (sym served.size)

pub goes_through :
    (l : Limits) (z : Sizes) (rules : List ℕ) (s : State) {w u : List ℕ} {qs rs : List (List ℕ)} → Goes l s rules w z → Run z rules w qs rs u
    → (rs ≡ answers_to l s qs) × Goes l (state_after_all l s qs) rules u z
unfolding answers_to state_after_all
goes_through l z rules s g done = (refl, g)
goes_through l z rules s g (step_then {q = q} scratch scratch' answer answer' enough room c run) =
    let rest = goes_through l z rules (state_after l s q) (goes_on l s z g enough room c refl) run in
    ((λ i. right_answer l s z g enough room c i ∷ rest.0 i), rest.1)

-- where a run starts
pub starts : (l : Limits) (g : Game) (z : Sizes) (n : Lent) → Started l g z n → Goes l (opened g) n.rules n.state z
starts l g z n s =
    let o = opened_sizes l s.bytes s.before n z s.opens in
    let e = needed_is l s.bytes z g o.0 s.game in
    record {
      means = s.opens.means z g refl s.game;
      sizes = e.2;
      long = omega (arith, (long_parts z s.before o.1).0, s.opens.lengths.rules);
    }

pub right : Right
right l g z n u qs rs s run = (goes_through l z n.rules (opened g) (starts l g z n s) run).0

pub refusal_keeps : RefusalKeeps
refusal_keeps l g z n w qs rs s run scratch answer q m r enough room c away =
    let here = (goes_through l z n.rules (opened g) (starts l g z n s) run).1 in
    let now = served l (state_after_all l (opened g) qs) z here enough room c in
    let kept = now.keeps away in
    (c.rules, kept.0, kept.1, whole_answer l (state_after_all l (opened g) qs) z here enough room c)

stays_long : {z : Sizes} {rules w u : List ℕ} {qs rs : List (List ℕ)} → Run z rules w qs rs u → length u ≡ length w
stays_long done = refl
stays_long (step_then scratch scratch' answer answer' enough room c run) = stays_long run ∙ c.lengths.state

pub enough_memory : EnoughMemory
enough_memory l g z n u qs rs s run =
    let here = (goes_through l z n.rules (opened g) (starts l g z n s) run).1 in
    (stays_long run, λ q. fits_answer_slice l (state_after_all l (opened g) qs) n.rules u z q here)
