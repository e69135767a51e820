-- Where the words of memory have four bytes, so have the numbers of every answer.
use Rattle.std.proofs.Common.{◌≡◌, ℕ, zero, suc, ◌+◌, ◌*◌, ◌<◌, ◌≤◌, Bool, true, false, cond, ◌&&◌, eqb, ltb, leb, List, [], ◌∷◌, length, get_or, take, drop, refl, subst, inl, inr, ⊎_elim, arith, length-take}
use Rattle.std.specs.List.{AllByRecursion}
use Rattle.std.proofs.ByRecursion.{All-append, All-take}
use Rattle.std.proofs.lemmas.List.{get_or_past}
use Rattle.std.proofs.lemmas.Bool.{and_parts, ltb-true, cond_both, cases_lt}
use Rattle.rules.specs.declared.Move.{Move}
use Rattle.rules.specs.declared.Limits.{Limits}
use Rattle.rules.specs.declared.Call.{Call}
use Rattle.rules.specs.declared.Call.TheVariants.{Sit, Play, Ticks, See, May, Back, CanForce}
use Rattle.rules.specs.Rules.{Position, Rule, Game, no_rule, rule_at, is_legal, apply}
use Rattle.rules.specs.Play.{legal_moves, is_over, replay}
use Rattle.rules.specs.Force.{can_force, layer_total}
use Rattle.rules.specs.Calls.{refused, shown, listed, Table, State, Stage, no_table, table_at, table_over, total_played, end_of, refusal, refusal_place, reply, answer}
use Rattle.rules.specs.Bounds.{good_game, good_rules, all_below}
use Rattle.wire.proofs.FieldLists.{below_take, below_drop, below_append}
use Rattle.answers.specs.Answers.{moves_fields, answer_fields, fits_answer}
use Rattle.answers.proofs.Sizes.{few_moves, replay_keeps}
use Rattle.laws.specs.Listing.{Member}
use Rattle.laws.proofs.Effects.{get_d_small, turn_small, apply_small}
use Rattle.laws.proofs.Listing.{listed_is_legal}
use Rattle.laws.proofs.Refusals.{refused_by_a_known_number}
use Rattle.rows.proofs.EncodingExprs.{fit_words, no_words_fit}
use Rattle.rows.proofs.EncodingGame.{is_good, good_parts, small_fit}
use Rattle.tables.specs.Layout.{record_place, entry_place}
use Rattle.tables.specs.Means.{Means, move_in, moves_of}
use Rattle.session.proofs.Readiness.{limits_say}

-- a move whose numbers have four bytes each
abbrev Small : Move → Type 0
Small v = (v.rule < 4294967296) × (v.first < 4294967296) × (v.second < 4294967296)

fields_fit : (vs : List Move) → AllByRecursion Small vs → all_below 4294967296 (moves_fields vs) ≡ true
unfolding moves_fields
fields_fit [] h = no_words_fit
fields_fit (v ∷ vs) h = fit_words _ _ h.0.0 (fit_words _ _ h.0.1 (fit_words _ _ h.0.2 (fields_fit vs h.1)))

-- the moves that were played stand in memory
word_small : (w : List ℕ) (i : ℕ) → all_below 4294967296 w ≡ true → get_or w i 0 < 4294967296
word_small w i h = get_d_small 4294967296 (omega arith) w i h

moves_small : (w : List ℕ) (from : ℕ) (owner : ℕ → ℕ) (t k : ℕ) → all_below 4294967296 w ≡ true → AllByRecursion Small (moves_of w from owner t k)
unfolding moves_of
moves_small w from owner t zero h = tt
moves_small w from owner t (suc k) h =
    let v : Move = move_in w (from + 4 * k) in
    All-append Small (moves_of w from owner t k) (cond (eqb (owner k) t) (v ∷ []) []) (moves_small w from owner t k h)
    (cond_both (eqb (owner k) t) (v ∷ []) [] (AllByRecursion Small) (λ e. ((word_small w _ h, word_small w _ h, word_small w _ h), tt)) (λ e. tt))

-- so the position after them has small cells
replay_small : (g : Game) (p : Position) (vs : List Move) → all_below 4294967296 p ≡ true → AllByRecursion Small vs → all_below 4294967296 (replay g p vs) ≡ true
unfolding replay
replay_small g p [] hp h = hp
replay_small g p (v ∷ vs) hp h = replay_small g (apply g p v) vs (apply_small 4294967296 (omega arith) g p v hp h.0.1 h.0.2) h.1

-- a legal move of a good game has small numbers
bounds_small : (us : List Rule) (i : ℕ) → good_rules us ≡ true → ((get_or us i no_rule).first_bound ≤ 256) × ((get_or us i no_rule).second_bound ≤ 256)
bounds_small [] i good = (omega arith, omega arith)
bounds_small (u ∷ us) zero good = let g = good_parts u us good in (g.0.first, g.0.second)
bounds_small (u ∷ us) (suc i) good = bounds_small us i (good_parts u us good).1

legal_small : (g : Game) (p : Position) (v : Move) → good_game g ≡ true → is_legal g p v ≡ true → Small v
unfolding is_legal
legal_small g p v good h =
    let k = is_good g good in
    let b = bounds_small g.rules v.rule k.rules in
    let a = and_parts (ltb v.rule (length g.rules)) _ h in
    let c = and_parts (ltb v.first (rule_at g v.rule).first_bound && ltb v.second (rule_at g v.rule).second_bound) _ a.1 in
    let d = and_parts (ltb v.first (rule_at g v.rule).first_bound) _ c.0 in
    (omega (arith, k.few_rules, ltb-true _ _ a.0), omega (arith, b.0, ltb-true _ _ d.0), omega (arith, b.1, ltb-true _ _ d.1))

all_members : (P : Move → Type 0) (vs : List Move) → ((v : Move) → Member v vs → P v) → AllByRecursion P vs
all_members P [] h = tt
all_members P (v ∷ vs) h = (h v (inl refl), all_members P vs (λ w m. h w (inr m)))

legal_moves_small : (g : Game) (p : Position) → good_game g ≡ true → AllByRecursion Small (legal_moves g p)
legal_moves_small g p good = all_members Small (legal_moves g p) (λ v m. legal_small g p v good (listed_is_legal g p v m))

-- no table has more moves than all together
played_few : (ts : List Table) (t : ℕ) → length (get_or ts t no_table).played ≤ total_played ts
unfolding total_played
played_few [] t = omega arith
played_few (u ∷ ts) zero = omega arith
played_few (u ∷ ts) (suc t) = omega (arith, played_few ts t)

-- the numbers of a table are small
record Fits (u : Table) : Type 0 where
  pub cells : all_below 4294967296 u.cells ≡ true
  pub clocks : all_below 4294967296 u.clocks ≡ true
  pub few_cells : length u.cells ≤ 256
  pub few_clocks : length u.clocks ≤ 256
  pub few_played : length u.played ≤ 1000000
  pub played : AllByRecursion Small u.played

module _ (rules w : List ℕ) (l : Limits) (s : State) (means : Means rules w l s) (fit : all_below 4294967296 w ≡ true) where
  part_fits : (n a : ℕ) (xs : List ℕ) → n ≤ 256 → take n (drop a w) ≡ xs → (all_below 4294967296 xs ≡ true) × (length xs ≤ 256)
  part_fits n a xs few e =
      subst (λ ys. (all_below 4294967296 ys ≡ true) × (length ys ≤ 256)) e
      (below_take _ n (drop a w) (below_drop _ a w fit), omega (arith, length-take n (drop a w)))

  table_fits : (t : ℕ) → Fits (table_at s t)
  table_fits t =
      let good = is_good s.game means.good in
      let n : ℕ = length s.game.start in
      let a : ℕ = record_place n t in
      let both : ((all_below 4294967296 (table_at s t).cells ≡ true) × (length (table_at s t).cells ≤ 256))
      × ((all_below 4294967296 (table_at s t).clocks ≡ true) × (length (table_at s t).clocks ≤ 256)) =
      ⊎_elim
      (λ lt. let there = means.each t lt in
      (part_fits n a _ good.cells there.cells, part_fits s.game.players (a + n) _ (omega (arith, good.players)) there.clocks))
      (λ past. rw (get_or_past s.tables t no_table past) ((no_words_fit, omega arith), (no_words_fit, omega arith)))
      (cases_lt t (length s.tables)) in
      record {
        cells = both.0.0;
        clocks = both.1.0;
        few_cells = both.0.1;
        few_clocks = both.1.1;
        few_played = omega (arith, played_few s.tables t, means.few_moves, (limits_say l means.limits).1);
        played = subst (AllByRecursion Small) (means.log.moves t) (moves_small w (entry_place n l.tables 0) means.log.owner t (total_played s.tables) fit);
      }

  start_small : all_below 4294967296 s.game.start ≡ true
  start_small = small_fit s.game.start (is_good s.game means.good).start

-- the numbers of each kind of answer
one_fits : (n : ℕ) → n < 4294967296 → all_below 4294967296 (n ∷ []) ≡ true
one_fits n h = fit_words _ n h no_words_fit

cond_most : (b : Bool) (i j k : ℕ) → i ≤ k → j ≤ k → cond b i j ≤ k
cond_most true i j k p q = p
cond_most false i j k p q = q

shown_fits :
    (p : Position) (t e : ℕ) (cs : List ℕ) → all_below 4294967296 p ≡ true → length p ≤ 256 → t < 4294967296 → e ≤ 2
    → all_below 4294967296 cs ≡ true → length cs ≤ 256 → fits_answer (shown p t e cs) ≡ true
unfolding fits_answer answer_fields
shown_fits p t e cs hp lp ht he hc lc =
    fit_words _ _ (omega arith) (below_append _ p _ hp (fit_words _ t ht (fit_words _ e (omega arith) (fit_words _ _ (omega arith) hc))))

listed_fits : (vs : List Move) → AllByRecursion Small vs → length vs ≤ 4096 → fits_answer (listed vs) ≡ true
unfolding fits_answer answer_fields
listed_fits vs h few = fit_words _ _ (omega arith) (fields_fit vs h)

place_small : (c : Call) (k : ℕ) → refusal_place c k ≤ 3
unfolding refusal_place
place_small (Sit n) k = omega arith
place_small (Play t m v) k = cond_most (eqb k 6) 1 _ 3 (omega arith) (cond_most (eqb k 7) 2 0 3 (omega arith) (omega arith))
place_small (Ticks n) k = omega arith
place_small (See t) k = omega arith
place_small (May t) k = omega arith
place_small (Back t n) k = cond_most (eqb k 9) 1 0 3 (omega arith) (omega arith)
place_small (CanForce t m v d) k = cond_most (eqb k 6) 1 _ 3 (omega arith) (cond_most (eqb k 2 && ltb 64 d) 3 0 3 (omega arith) (omega arith))

end_small : (g : Game) (t : Table) → end_of g t ≤ 2
unfolding end_of
end_small g t = cond_most t.timed_out 2 _ 2 (omega arith) (cond_most (is_over g t.cells) 1 0 2 (omega arith) (omega arith))

module _ (rules w : List ℕ) (l : Limits) (s : State) (means : Means rules w l s) (fit : all_below 4294967296 w ≡ true) where
  reply_fits : (c : Call) → fits_answer (reply l s c) ≡ true
  unfolding reply fits_answer answer_fields
  reply_fits (Sit n) = one_fits _ (omega (arith, means.few_tables, (limits_say l means.limits).0))
  reply_fits (Play t m v) = one_fits _ (omega (arith, (table_fits rules w l s means fit t).few_played))
  reply_fits (Ticks n) = one_fits 0 (omega arith)
  reply_fits (See t) =
      let f = table_fits rules w l s means fit t in
      shown_fits (table_at s t).cells _ _ (table_at s t).clocks f.cells f.few_cells (turn_small 4294967296 (omega arith) s.game (table_at s t).cells f.cells)
      (end_small s.game (table_at s t)) f.clocks f.few_clocks
  reply_fits (May t) =
      let p : Position = (table_at s t).cells in
      let good = means.good in
      cond_both (table_over s.game (table_at s t)) [] (legal_moves s.game p) (λ vs. fits_answer (listed vs) ≡ true)
      (λ e. listed_fits [] tt (omega arith))
      (λ e. listed_fits (legal_moves s.game p) (legal_moves_small s.game p good) (omega (arith, few_moves s.game p, (is_good s.game good).few_moves)))
  reply_fits (Back t n) =
      let f = table_fits rules w l s means fit t in
      let good = is_good s.game means.good in
      let vs : List Move = take n (table_at s t).played in
      let p : Position = replay s.game s.game.start vs in
      let small = replay_small s.game s.game.start vs (start_small rules w l s means fit) (All-take Small n (table_at s t).played f.played) in
      shown_fits p _ _ [] small (omega (arith, replay_keeps s.game s.game.start vs, good.cells)) (turn_small 4294967296 (omega arith) s.game p small)
      (cond_most (is_over s.game p) 1 0 2 (omega arith) (omega arith)) no_words_fit (omega arith)
  reply_fits (CanForce t m k d) =
      let p : Position = (table_at s t).cells in
      let few : Bool = leb (layer_total s.game d (p ∷ [])) l.positions in
      let able : Bool = can_force s.game m k d p in
      let small : cond few (cond able 1 0) 2 ≤ 2 = cond_most few (cond able 1 0) 2 2 (cond_most able 1 0 2 (omega arith) (omega arith)) (omega arith) in
      one_fits (cond few (cond able 1 0) 2) (omega (arith, small))

  refused_fits : (can : Stage) (c : Call) → fits_answer (refused (record { number = refusal can l s c; place = refusal_place c (refusal can l s c) })) ≡ true
  unfolding fits_answer answer_fields
  refused_fits can c =
      fit_words _ _ (omega (arith, (refused_by_a_known_number can l s c).0)) (one_fits _ (omega (arith, place_small c (refusal can l s c))))

  pub answer_fits : (can : Stage) (c : Call) → fits_answer (answer can l s c) ≡ true
  unfolding answer
  answer_fits can c =
      cond_both (eqb (refusal can l s c) 0) (reply l s c) _ (λ a. fits_answer a ≡ true) (λ e. reply_fits c) (λ e. refused_fits can c)
