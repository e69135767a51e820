-- There is an implementation that meets the contracts.
use Rattle.std.proofs.Common.{◌≡◌, ℕ, ◌+◌, ◌*◌, ◌<◌, ◌≤◌, true, false, eqb, List, ◌++◌, length, take, drop, replicate, Some, Ok, Err, Option, sym, refl, ap, ◌∙◌, subst, arith, length-append, length-drop, length-take}
use borrow.Rule.Slice.PartMut.{post_of}
use lib.ListN.{length-replicate}
use Rattle.std.proofs.lemmas.Nat.{mul-le}
use Rattle.std.proofs.lemmas.List.{get_or_past, take_at}
use Rattle.std.proofs.lemmas.Bool.{and_from, both_ways, le-leb, cond-true, eqb-false, not-true}
use Rattle.rules.specs.declared.Limits.{Limits}
use Rattle.rules.specs.declared.Refusal.{Refusal}
use Rattle.rules.specs.declared.Call.{Call}
use Rattle.rules.specs.Rules.{Game}
use Rattle.rules.specs.Calls.{State, refusal, answer, opened}
use Rattle.rules.specs.Bounds.{good_game, good_limits, readable, all_below}
use Rattle.wire.specs.Fields.{written}
use Rattle.wire.specs.Calls.{call_bytes}
use Rattle.wire.specs.Games.{parse_game, game_bytes, checked, checked_game, size_of}
use Rattle.wire.proofs.CallBytes.{reads_back as Call-back}
use Rattle.wire.proofs.Writing.{length_written, written_front}
use Rattle.answers.specs.Answers.{answer_bytes, fits_answer}
use Rattle.answers.proofs.Sizes.{answers_fit}
use Rattle.rows.specs.Layout.{game_at}
use Rattle.rows.specs.Encoding.{encoded}
use Rattle.rows.proofs.LoadSize.{words_are_enough, few_game_parts}
use Rattle.rows.proofs.EncodingExprs.{fit_words}
use Rattle.rows.proofs.EncodingGame.{is_good, small_fit, every_game_has_memory}
use Rattle.tables.specs.declared.plan.Sizes.{Sizes}
use Rattle.tables.specs.Layout.{sizes_of}
use Rattle.tables.specs.Changes.{header, opened_in}
use Rattle.tables.specs.Means.{Means}
use Rattle.tables.proofs.Theorems.{opening_is_right}
use Rattle.session.specs.Opening.{Lent, lent, by_size, needed, long_enough, by_length, opening_answer, PastKept}
use Rattle.session.specs.Calling.{stage, ready, refused_read, is_refused, Serves, Called}
use Rattle.session.proofs.Readiness.{is_ready, all_sized, limits_say}
use Rattle.promises.specs.Implementations.{Memory, with_answer, Implementation, OpensWell, CallsWell, Kept, AnImplementation}
use Rattle.promises.proofs.Fitting.{answer_fits}
use Rattle.promises.proofs.Every.{answered, stepped, game_back, rules_part, state_part, scratch_part}
use Rattle.promises.proofs.Words.{replicate_below, mid_below, answer_below, written_below}
use Rattle.promises.proofs.Acting.{said, made, does, made_fits}

abbrev zeros : ℕ → List ℕ
zeros n = replicate n 0

zeros_long : (n : ℕ) → length (zeros n) ≡ n
zeros_long n = length-replicate {A = ℕ} n 0

witness : Implementation
witness = record {
  opens = λ l g.
      let z : Sizes = sizes_of l (size_of g) in
      record { rules = encoded g; state = opened_in (zeros z.state) l (size_of g); scratch = zeros z.scratch };
  next = λ m c. record { rules = m.rules; state = made (game_at m.rules) m.state c; scratch = m.scratch };
  says = λ m c. said (game_at m.rules) m.state c;
}

-- Opening.

-- what opening answers for a good game, with slices that are long enough
opening_says :
    (l : Limits) (g : Game) (m : Lent) → good_limits l ≡ true → good_game g ≡ true → long_enough (sizes_of l (size_of g)) m ≡ true
    → Ok (sizes_of l (size_of g)) ≡ opening_answer l (game_bytes g) m
unfolding opening_answer needed checked
opening_says l g m limits good long =
    let z : Sizes = sizes_of l (size_of g) in
    sym (ap (λ o. by_length m (by_size l (checked_game o))) (game_back g good) ∙ ap (λ r. by_length m (by_size l r)) (cond-true (good_game g) _ _ good)
    ∙ ap (by_length m) (cond-true (good_limits l) _ _ limits) ∙ cond-true (long_enough z m) _ _ long)

never : {A : Type 0} (z : Sizes) (f : Refusal) → Ok z ≡ Err f → A
never z f h = let n : ◌≡◌ {A = ℕ} 0 1 = cc in absurd (omega arith)

same_game : (o : Option Game) (g h : Game) → o ≡ Some g → o ≡ Some h → g ≡ h
same_game o g h p q = cc

module _ (l : Limits) (g : Game) (limits : good_limits l ≡ true) (good : good_game g ≡ true) where
  before : Lent
  before =
      let z : Sizes = sizes_of l (size_of g) in
      lent (zeros z.rules) (zeros z.state) (zeros z.scratch) (zeros z.answer)

  -- the header is as long as 16 words
  state_long : length (opened_in (zeros (sizes_of l (size_of g)).state) l (size_of g)) ≡ (sizes_of l (size_of g)).state
  unfolding opened_in
  state_long =
      let w : List ℕ = zeros (sizes_of l (size_of g)).state in
      let rest : List ℕ = post_of 0 16 w in
      omega (
        arith,
        zeros_long (sizes_of l (size_of g)).state,
        length-append (take 0 w) (header l (size_of g) ++ rest),
        length-append (header l (size_of g)) rest,
        length-take 0 w,
        length-drop 16 (drop 0 w),
        length-drop 0 w,
      )

  header_fits : all_below 4294967296 (header l (size_of g)) ≡ true
  unfolding size_of
  header_fits =
      let few = limits_say l limits in
      let k = is_good g good in
      let words = words_are_enough g good in
      let parts = few_game_parts g good in
      fit_words _ _ (omega arith) (fit_words _ _ (omega (arith, few.0)) (fit_words _ _ (omega (arith, few.1)) (fit_words _ _ (omega (arith, few.2))
      (fit_words _ _ (omega (arith, k.cells)) (fit_words _ _ (omega (arith, k.players)) (fit_words _ _ (omega arith)
      (fit_words _ _
      (omega (arith, few.2, k.cells, mul-le (2 * l.positions) (length g.start + 16) 16384 272 (omega (arith, few.2)) (omega (arith, k.cells))))
      (fit_words _ _ (omega (arith, k.few_moves)) (replicate_below 4294967296 7 0 (omega arith))))))))))

  opened_fits : all_below 4294967296 (opened_in (zeros (sizes_of l (size_of g)).state) l (size_of g)) ≡ true
  unfolding opened_in
  opened_fits = mid_below 4294967296 0 16 (zeros (sizes_of l (size_of g)).state) (header l (size_of g)) (replicate_below _ (sizes_of l (size_of g)).state 0 (omega arith)) header_fits

  opens_well : OpensWell witness l g
  unfolding witness before
  opens_well =
      let z : Sizes = sizes_of l (size_of g) in
      let memory = every_game_has_memory g good in
      let rules-long : length (encoded g) ≡ z.rules = memory.1 in
      record {
        before = before;
        answer = zeros z.answer;
        opens = record {
          answers = opening_says l g before limits good
              (and_from _ _ (and_from _ _ (le-leb z.rules _ (omega (arith, zeros_long z.rules))) (le-leb z.state _ (omega (arith, zeros_long z.state))))
              (and_from _ _ (le-leb z.scratch _ (omega (arith, zeros_long z.scratch))) (le-leb z.answer _ (omega (arith, zeros_long z.answer)))));
          refused = λ f h. never z f h;
          means = λ y h _ reads.
              subst (λ x. Means (encoded g) (opened_in (zeros z.state) l (size_of g)) l (opened x)) (same_game (parse_game (game_bytes g)) g h (game_back g good) reads)
              (opening_is_right (encoded g) (zeros z.state) l g memory.0 good limits (omega (arith, zeros_long z.state)));
          past = λ y h.
              let e : y ≡ z = cc in
              subst (λ x. PastKept x before (with_answer (witness.opens l g) (zeros z.answer))) (sym e) (record {
                rules = λ k past. get_or_past (encoded g) k 0 (omega arith) ∙ sym (get_or_past (zeros z.rules) k 0 (omega (arith, zeros_long z.rules)));
                state = λ k past. get_or_past (opened_in (zeros z.state) l (size_of g)) k 0 (omega (arith, state_long)) ∙ sym (get_or_past (zeros z.state) k 0 (omega (arith, zeros_long z.state)));
                scratch = λ k past. refl;
              });
          lengths = record {
            rules = rules-long ∙ sym (zeros_long z.rules);
            state = state_long ∙ sym (zeros_long z.state);
            scratch = refl;
            answer = refl;
          };
          scratch = refl;
          answer = refl;
        };
        fits = record {
          rules = memory.2;
          state = opened_fits;
          scratch = replicate_below _ z.scratch 0 (omega arith);
          answer = replicate_below _ z.answer 0 (omega arith);
        };
        rules_size = rules-long;
        state_size = state_long;
        scratch_size = zeros_long z.scratch;
      }

-- Calling.

module _ (l : Limits) (s : State) (m : Memory) (c : Call) (kept : Kept m l s) (ok : readable c ≡ true) where
  answer_slice : List ℕ
  answer_slice = zeros (sizes_of l (size_of s.game)).answer

  bytes : List ℕ
  bytes = answer_bytes (witness.says m c)

  is_right : witness.says m c ≡ answer stage l s c
  unfolding witness
  is_right = (does m.rules m.state l s kept.means c ok).says

  has_room : length bytes ≤ length answer_slice
  unfolding bytes answer_slice size_of
  has_room =
      let fits = answers_fit stage l s c kept.means.good (all_sized m.rules m.state l s kept.means) in
      rw is_right (omega (arith, zeros_long (sizes_of l (size_of s.game)).answer))

  -- it serves whatever the same memory means
  serves : (k : Limits) (u : State) → Means m.rules m.state k u
      → Serves k u (with_answer m answer_slice) (call_bytes c) (with_answer (witness.next m c) (written 0 bytes answer_slice)) (length bytes)
  unfolding witness bytes is_refused size_of
  serves k u means =
      let d = does m.rules m.state k u means c ok in
      let same = d.says ∙ sym (answered k u c ok) in
      record {
        means = subst (λ x. Means m.rules (made (game_at m.rules) m.state c) k x) (sym (stepped k u c ok)) d.means;
        size = ap (λ x. length (answer_bytes x)) same;
        says = ap (λ x. written 0 (answer_bytes x) answer_slice) same;
        keeps = λ away.
            let no : eqb (refusal stage k u c) 0 ≡ false = not-true _ (sym (ap (refused_read k u) (Call-back c ok)) ∙ away) in
            let some : 0 < refusal stage k u c = omega (arith, eqb-false (refusal stage k u c) 0 no) in
            (d.keeps some, refl);
        past = record { rules = λ j h. refl; state = λ j h. d.past j h; scratch = λ j h. refl };
      }

  start_fits : all_below 4294967296 (game_at m.rules).start ≡ true
  start_fits = subst (λ g. all_below 4294967296 g.start ≡ true) (sym kept.means.game) (small_fit s.game.start (is_good s.game kept.means.good).start)

  is_called : Called (with_answer m answer_slice) (call_bytes c) (with_answer (witness.next m c) (written 0 bytes answer_slice)) (length bytes)
  unfolding witness bytes answer_slice
  is_called = record {
    rules = refl;
    lengths = record {
      rules = refl;
      state = (does m.rules m.state l s kept.means c ok).long;
      scratch = refl;
      answer = length_written 0 bytes answer_slice;
    };
    fits = record {
      rules = rules_part m kept.fits;
      state = made_fits m.rules m.state l s kept.means (game_at m.rules) start_fits (state_part m kept.fits) c ok;
      scratch = scratch_part m kept.fits;
      answer = written_below 0 bytes answer_slice (answer_below _) (replicate_below 256 (sizes_of l (size_of s.game)).answer 0 (omega arith));
    };
    unready = λ h.
        absurd (both_ways (ready (with_answer m answer_slice)) h (is_ready m.rules m.state l s kept.means m.scratch answer_slice
        (omega (arith, kept.rules_size)) (omega (arith, kept.scratch_size)) (omega (arith, zeros_long (sizes_of l (size_of s.game)).answer))));
    serves = λ k u _ means. serves k u means;
  }

  calls_well : CallsWell witness m c (sizes_of l (size_of s.game)).answer
  unfolding witness bytes answer_slice
  calls_well = record {
    answer = answer_slice;
    answer' = written 0 bytes answer_slice;
    size = length bytes;
    long = zeros_long (sizes_of l (size_of s.game)).answer;
    called = is_called;
    written = ap (take (length bytes)) (written_front bytes answer_slice has_room) ∙ take_at bytes (drop (length bytes) answer_slice) (length bytes) refl;
    fits = subst (λ x. fits_answer x ≡ true) (sym is_right) (answer_fits m.rules m.state l s kept.means (state_part m kept.fits) stage c);
  }

pub an_implementation : AnImplementation
an_implementation = (witness, record { opens = opens_well; calls = calls_well })
