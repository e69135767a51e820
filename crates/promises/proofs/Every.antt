-- Every implementation that meets the contracts is right, keeps what it refuses, and has enough memory: by its calls in turn.
use Rattle.std.proofs.Common.{◌≡◌, ℕ, ◌<◌, ◌≤◌, true, not, List, [], ◌∷◌, ◌++◌, length, Some, sym, refl, ap, ◌∙◌, subst, arith, length-append}
use Rattle.std.proofs.lemmas.Bool.{and_parts, and_from, ne_eqb}
use Rattle.rules.specs.declared.Limits.{Limits}
use Rattle.rules.specs.declared.Call.{Call}
use Rattle.rules.specs.Rules.{Game}
use Rattle.rules.specs.Calls.{Answer, State, refusal, answer, answers, step, opened, run}
use Rattle.rules.specs.Bounds.{good_game, good_limits, readable, all_readable, all_below}
use Rattle.wire.specs.Calls.{call_bytes}
use Rattle.wire.specs.Games.{parse_game, game_bytes, size_of}
use Rattle.wire.proofs.CallBytes.{reads_back as Call-back}
use Rattle.wire.proofs.FieldLists.{below_append}
use Rattle.wire.proofs.GamesRead.{game_reads_back}
use Rattle.wire.proofs.GamesFit.{good_games_fit}
use Rattle.answers.specs.Answers.{answer_bytes, fits_answer, parse_answer}
use Rattle.answers.proofs.AnswerBytes.{reads_back as answer_back}
use Rattle.answers.proofs.Sizes.{answers_fit}
use Rattle.tables.specs.declared.plan.Sizes.{Sizes}
use Rattle.tables.specs.Layout.{sizes_of}
use Rattle.tables.specs.Means.{Means}
use Rattle.session.specs.Calling.{stage, answer_read, step_read, refused_read, answer_to, state_after, is_refused, Serves}
use Rattle.session.specs.Promise.{bytes_bound}
use Rattle.session.proofs.Readiness.{all_sized}
use Rattle.session.proofs.Runs.{after_game, Goes, served, right_answer}
use Rattle.session.proofs.Asking.{sizes_little}
use Rattle.promises.specs.Implementations.{Memory, words, with_answer, Implementation, CallsWell, Kept, Meets, said_by, left_by, EveryImplementation}
use Rattle.promises.proofs.Fitting.{answer_fits}

-- bytes tell the answer that they are
told_apart : (a b : Answer) → fits_answer a ≡ true → fits_answer b ≡ true → answer_bytes a ≡ answer_bytes b → a ≡ b
told_apart a b fa fb e =
    let same : Some a ≡ Some b = sym (answer_back a fa) ∙ ap parse_answer e ∙ answer_back b fb in
    cc

-- what the bytes of a call are answered, and what they lead to
module _ (l : Limits) (s : State) (c : Call) (ok : readable c ≡ true) where
  pub answered : answer_to l s (call_bytes c) ≡ answer stage l s c
  unfolding answer_to
  answered = ap (answer_read l s) (Call-back c ok)

  pub stepped : state_after l s (call_bytes c) ≡ step stage l s c
  unfolding state_after
  stepped = ap (step_read l s) (Call-back c ok)

  pub refused_too : 0 < refusal stage l s c → is_refused l s (call_bytes c) ≡ true
  unfolding is_refused
  refused_too away = ap (refused_read l s) (Call-back c ok) ∙ ap not (ne_eqb (refusal stage l s c) 0 (λ e. omega arith))

pub game_back : (g : Game) → good_game g ≡ true → parse_game (game_bytes g) ≡ Some g
game_back g good = game_reads_back g (good_games_fit g good)

-- the words of memory, one slice after the other
words_fit : (m : Memory) → all_below 4294967296 m.rules ≡ true → all_below 4294967296 m.state ≡ true → all_below 4294967296 m.scratch ≡ true
    → all_below 4294967296 (words m) ≡ true
words_fit m a b c = below_append _ m.rules _ a (below_append _ m.state _ b c)

below_back : (b : ℕ) (xs ys : List ℕ) → all_below b (xs ++ ys) ≡ true → all_below b ys ≡ true
unfolding all_below
below_back b [] ys h = h
below_back b (x ∷ xs) ys h = below_back b xs ys (and_parts _ _ h).1

below_front : (b : ℕ) (xs ys : List ℕ) → all_below b (xs ++ ys) ≡ true → all_below b xs ≡ true
unfolding all_below
below_front b [] ys h = refl
below_front b (x ∷ xs) ys h = let p = and_parts _ _ h in and_from _ _ p.0 (below_front b xs ys p.1)

pub rules_part : (m : Memory) → all_below 4294967296 (words m) ≡ true → all_below 4294967296 m.rules ≡ true
rules_part m h = below_front _ m.rules _ h

pub state_part : (m : Memory) → all_below 4294967296 (words m) ≡ true → all_below 4294967296 m.state ≡ true
state_part m h = below_front _ m.state m.scratch (below_back _ m.rules _ h)

pub scratch_part : (m : Memory) → all_below 4294967296 (words m) ≡ true → all_below 4294967296 m.scratch ≡ true
scratch_part m h = below_back _ m.state _ (below_back _ m.rules _ h)

-- memory that is kept goes on
pub kept_goes : (l : Limits) (s : State) (m : Memory) → Kept m l s → Goes l s m.rules m.state (sizes_of l (size_of s.game))
kept_goes l s m k = record { means = k.means; sizes = refl; long = omega (arith, k.rules_size) }

module _ (e : Implementation) (meets : Meets e) where
  -- what was opened is kept
  opened_kept : (l : Limits) (g : Game) → good_limits l ≡ true → good_game g ≡ true → Kept (e.opens l g) l (opened g)
  opened_kept l g limits good =
      let o = meets.opens l g limits good in
      record {
        means = o.opens.means (sizes_of l (size_of g)) g refl (game_back g good);
        rules_size = o.rules_size;
        state_size = o.state_size;
        scratch_size = o.scratch_size;
        fits = words_fit (e.opens l g) o.fits.rules o.fits.state o.fits.scratch;
      }

  -- one call
  module _ (l : Limits) (s : State) (m : Memory) (c : Call) (kept : Kept m l s) (ok : readable c ≡ true) where
    well : CallsWell e m c (sizes_of l (size_of s.game)).answer
    well = meets.calls l s m c kept ok

    enough : (sizes_of l (size_of s.game)).scratch ≤ length m.scratch
    enough = omega (arith, kept.scratch_size)

    room : (sizes_of l (size_of s.game)).answer ≤ length well.answer
    room = omega (arith, well.long)

    serves : Serves l s (with_answer m well.answer) (call_bytes c) (with_answer (e.next m c) well.answer') well.size
    serves = served l s (sizes_of l (size_of s.game)) (kept_goes l s m kept) enough room well.called

    -- it says what the meaning says
    says_right : e.says m c ≡ answer stage l s c
    says_right =
        let bytes = right_answer l s (sizes_of l (size_of s.game)) (kept_goes l s m kept) enough room well.called in
        told_apart (e.says m c) (answer stage l s c) well.fits (answer_fits m.rules m.state l s kept.means (state_part m kept.fits) stage c)
        (sym well.written ∙ bytes ∙ ap answer_bytes (answered l s c ok))

    -- and goes on with what the meaning goes on with
    stays_kept : Kept (e.next m c) l (step stage l s c)
    stays_kept =
        let same : (step stage l s c).game ≡ s.game = ap (λ x. x.game) (sym (stepped l s c ok)) ∙ after_game l s (call_bytes c) in
        let size = λ (f : Sizes → ℕ). ap (λ x. f (sizes_of l (size_of x))) (sym same) in
        let n = well.called in
        record {
          means = subst (λ x. Means (e.next m c).rules (e.next m c).state l x) (stepped l s c ok) serves.means;
          rules_size = n.lengths.rules ∙ kept.rules_size ∙ size (λ x. x.rules);
          state_size = n.lengths.state ∙ kept.state_size ∙ size (λ x. x.state);
          scratch_size = n.lengths.scratch ∙ kept.scratch_size ∙ size (λ x. x.scratch);
          fits = words_fit (e.next m c) n.fits.rules n.fits.state n.fits.scratch;
        }

    -- what is refused is left as it was
    keeps : 0 < refusal stage l s c → e.next m c ≡ m
    keeps away =
        let same = serves.keeps (refused_too l s c ok away) in
        λ i. record { rules = well.called.rules i; state = same.0 i; scratch = same.1 i }

  -- calls in turn
  says_all : (l : Limits) (s : State) (m : Memory) (cs : List Call) → Kept m l s → all_readable cs ≡ true → said_by e m cs ≡ answers stage l s cs
  unfolding said_by answers all_readable
  says_all l s m [] kept ok = refl
  says_all l s m (c ∷ cs) kept ok =
      let p = and_parts (readable c) (all_readable cs) ok in
      let one = says_right l s m c kept p.0 in
      let rest = says_all l (step stage l s c) (e.next m c) cs (stays_kept l s m c kept p.0) p.1 in
      λ i. one i ∷ rest i

  kept_all : (l : Limits) (s : State) (m : Memory) (cs : List Call) → Kept m l s → all_readable cs ≡ true → Kept (left_by e m cs) l (run stage l s cs)
  unfolding left_by run all_readable
  kept_all l s m [] kept ok = kept
  kept_all l s m (c ∷ cs) kept ok =
      let p = and_parts (readable c) (all_readable cs) ok in
      kept_all l (step stage l s c) (e.next m c) cs (stays_kept l s m c kept p.0) p.1

-- calls before, and one more
readable_parts : (cs : List Call) (c : Call) → all_readable (cs ++ (c ∷ [])) ≡ true → (all_readable cs ≡ true) × (readable c ≡ true)
unfolding all_readable
readable_parts [] c h = (refl, (and_parts (readable c) true h).0)
readable_parts (d ∷ cs) c h =
    let p = and_parts (readable d) (all_readable (cs ++ (c ∷ []))) h in
    let q = readable_parts cs c p.1 in
    (and_from _ _ p.0 q.0, q.1)

run_game : (l : Limits) (s : State) (cs : List Call) → all_readable cs ≡ true → (run stage l s cs).game ≡ s.game
unfolding run all_readable
run_game l s [] ok = refl
run_game l s (c ∷ cs) ok =
    let p = and_parts (readable c) (all_readable cs) ok in
    run_game l (step stage l s c) cs p.1 ∙ ap (λ x. x.game) (sym (stepped l s c p.0)) ∙ after_game l s (call_bytes c)

pub every_implementation : EveryImplementation
every_implementation e meets = (
  λ l g cs limits good ok. says_all e meets l (opened g) (e.opens l g) cs (opened_kept e meets l g limits good) ok,
  λ l g cs c limits good ok away.
      let p = readable_parts cs c ok in
      let kept = kept_all e meets l (opened g) (e.opens l g) cs (opened_kept e meets l g limits good) p.0 in
      keeps e meets l (run stage l (opened g) cs) (left_by e (e.opens l g) cs) c kept p.1 away,
  λ l g cs limits good ok.
      let s : State = run stage l (opened g) cs in
      let m : Memory = left_by e (e.opens l g) cs in
      let kept : Kept m l s = kept_all e meets l (opened g) (e.opens l g) cs (opened_kept e meets l g limits good) ok in
      let game : s.game ≡ g = run_game l (opened g) cs ok in
      let size = λ (f : Sizes → ℕ). ap (λ x. f (sizes_of l (size_of x))) game in
      let a : length m.rules ≡ (sizes_of l (size_of g)).rules = kept.rules_size ∙ size (λ x. x.rules) in
      let b : length m.state ≡ (sizes_of l (size_of g)).state = kept.state_size ∙ size (λ x. x.state) in
      let c : length m.scratch ≡ (sizes_of l (size_of g)).scratch = kept.scratch_size ∙ size (λ x. x.scratch) in
      let little = (sizes_little l g good).0 in (
        omega (arith, length-append m.rules (m.state ++ m.scratch), length-append m.state m.scratch),
        kept.fits,
        λ call readable.
            let fits = answers_fit stage l s call kept.means.good (all_sized m.rules m.state l s kept.means) in
            let same = says_right e meets l s m call kept readable in
            let here : length (answer_bytes (e.says m call)) ≤ bytes_bound s.game = rw same (omega arith) in
            subst (λ x. length (answer_bytes (e.says m call)) ≤ bytes_bound x) game here,
      ),
)
