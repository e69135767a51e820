-- Sitting down and playing leave words of four bytes, and answers are bytes.
use Rattle.std.proofs.Common.{◌≡◌, ℕ, zero, suc, ◌+◌, ◌-◌, ◌/◌, ◌%◌, ◌<◌, ◌≤◌, Bool, true, false, cond, eqb, ltb, List, [], ◌∷◌, length, get_or, take, drop, set, replicate, Ok, Err, sym, refl, subst, ⊎_elim, arith}
use borrow.Rule.Slice.PartMut.{put_mid}
use Rattle.std.proofs.lemmas.Nat.{mul-le}
use Rattle.std.proofs.lemmas.Bool.{and_from, lt-ltb, cases_lt}
use Rattle.rules.specs.declared.Move.{Move}
use Rattle.rules.specs.declared.Limits.{Limits}
use Rattle.rules.specs.Rules.{Game, turn, is_legal, apply}
use Rattle.rules.specs.Play.{is_over}
use Rattle.rules.specs.Calls.{Answer, refused, number, shown, listed, forced, State}
use Rattle.rules.specs.Bounds.{all_below}
use Rattle.wire.specs.Numbers.{number_bytes}
use Rattle.wire.specs.Fields.{fields_bytes, written}
use Rattle.wire.proofs.FieldLists.{below_take, below_drop, below_append}
use Rattle.wire.proofs.Writing.{written_is, written_none}
use Rattle.answers.specs.Answers.{answer_kind, answer_fields, answer_bytes}
use Rattle.laws.proofs.Effects.{get_d_small, set_small, apply_small}
use Rattle.rows.proofs.EncodingExprs.{fit_words, no_words_fit}
use Rattle.rows.proofs.EncodingGame.{is_good}
use Rattle.tables.specs.declared.plan.Plan.{Plan}
use Rattle.tables.specs.Layout.{record_words, record_place, entry_place, plan_in}
use Rattle.tables.specs.Changes.{flag, start_cells, new_record, sat_in, one_more, advanced, with_entry, played_in}
use Rattle.tables.specs.Means.{Means}
use Rattle.tables.specs.Acting.{Outcome, refused_by, by_plan, sat, played_at, played}
use Rattle.session.proofs.Readiness.{plan_there, limits_say}

-- lists of one number, and parts of lists
pub replicate_below : (b n a : ℕ) → a < b → all_below b (replicate n a) ≡ true
unfolding all_below
replicate_below b zero a h = refl
replicate_below b (suc n) a h = and_from _ _ (lt-ltb a b h) (replicate_below b n a h)

pub mid_below : (b a k : ℕ) (xs ys : List ℕ) → all_below b xs ≡ true → all_below b ys ≡ true → all_below b (put_mid a k xs ys) ≡ true
mid_below b a k xs ys hx hy = below_append b (take a xs) _ (below_take b a xs hx) (below_append b ys _ hy (below_drop b k (drop a xs) (below_drop b a xs hx)))

pub set_fits : (xs : List ℕ) (i a : ℕ) → all_below 4294967296 xs ≡ true → a < 4294967296 → all_below 4294967296 (set xs i a) ≡ true
set_fits xs i a h l = set_small 4294967296 (omega arith) xs i a h l

-- an answer is made of bytes
number_below : (w n : ℕ) → all_below 256 (number_bytes w n) ≡ true
unfolding number_bytes all_below
number_below zero n = refl
number_below (suc w) n = and_from _ _ (lt-ltb (n % 256) 256 (omega arith)) (number_below w (n / 256))

fields_below : (ns : List ℕ) → all_below 256 (fields_bytes ns) ≡ true
unfolding fields_bytes all_below
fields_below [] = refl
fields_below (n ∷ ns) = below_append 256 (number_bytes 4 n) (fields_bytes ns) (number_below 4 n) (fields_below ns)

kind_below : (a : Answer) → answer_kind a < 256
unfolding answer_kind
kind_below (refused r) = omega arith
kind_below (number n) = omega arith
kind_below (shown p t e cs) = omega arith
kind_below (listed vs) = omega arith
kind_below (forced n) = omega arith

pub answer_below : (a : Answer) → all_below 256 (answer_bytes a) ≡ true
unfolding answer_bytes all_below
answer_below a = and_from _ _ (lt-ltb (answer_kind a) 256 (kind_below a)) (fields_below (answer_fields a))

pub written_below : (i : ℕ) (bs old : List ℕ) → all_below 256 bs ≡ true → all_below 256 old ≡ true → all_below 256 (written i bs old) ≡ true
written_below i bs old hb ho =
    ⊎_elim (λ h. subst (λ x. all_below 256 x ≡ true) (sym (written_none i bs old h)) ho)
    (λ h. subst (λ x. all_below 256 x ≡ true) (sym (written_is i bs old h))
    (below_append 256 (take i old) _ (below_take 256 i old ho) (below_append 256 bs _ hb (below_drop 256 (i + length bs) old ho))))
    (cases_lt (length old) (i + length bs))

-- what a plan of a server's state is bounded by
record Few (p : Plan) : Type 0 where
  pub tables : p.tables ≤ 1024
  pub moves : p.moves ≤ 1000000
  pub cells : p.cells ≤ 256
  pub seated : p.seated ≤ 1024
  pub played : p.played ≤ 1000000

few_there : (rules w : List ℕ) (l : Limits) (s : State) → Means rules w l s → Few (plan_in w)
few_there rules w l s m =
    let h = m.head in
    let most = limits_say l m.limits in
    record {
      tables = omega (arith, h.tables, most.0);
      moves = omega (arith, h.moves, most.1);
      cells = omega (arith, h.cells, (is_good s.game m.good).cells);
      seated = omega (arith, h.seated, m.few_tables, most.0);
      played = omega (arith, h.played, m.few_moves, most.1);
    }

-- a new table
flag_small : (b : Bool) → flag b < 4294967296
flag_small true = omega arith
flag_small false = omega arith

start_fits : (g : Game) (n : ℕ) → all_below 4294967296 g.start ≡ true → all_below 4294967296 (start_cells g n) ≡ true
unfolding start_cells
start_fits g zero h = no_words_fit
start_fits g (suc n) h =
    below_append _ (start_cells g n) _ (start_fits g n h) (fit_words _ _ (get_d_small 4294967296 (omega arith) g.start n h) no_words_fit)

record_low : (cells t : ℕ) → cells ≤ 256 → t ≤ 1024 → record_place cells t ≤ 300000
record_low cells t h k = omega (arith, mul-le t (cells + 9) 1024 265 k (omega arith))

new_fits :
    (g : Game) (cells players ticks a : ℕ) → all_below 4294967296 g.start ≡ true → ticks < 4294967296 → a ≤ 300000 → cells ≤ 256
    → all_below 4294967296 (new_record g cells players ticks a) ≡ true
unfolding new_record
new_fits g cells players ticks a start small low few =
    below_append _ (start_cells g cells) _ (start_fits g cells start)
    (below_append _ (replicate players ticks) _ (replicate_below _ players ticks small)
    (below_append _ (replicate (4 - players) 0) _ (replicate_below _ (4 - players) 0 (omega arith))
    (fit_words _ _ (flag_small _) (fit_words _ _ (flag_small _) (fit_words _ 0 (omega arith) (fit_words _ 0 (omega arith)
    (fit_words _ (a + cells + 7) (omega arith) no_words_fit)))))))

-- a table after a move
advanced_fits :
    (g : Game) (cells : ℕ) (r : List ℕ) (v : Move) (e : ℕ) → all_below 4294967296 r ≡ true → v.first < 4294967296 → v.second < 4294967296
    → e < 4294967296 → all_below 4294967296 (advanced g cells r v e) ≡ true
unfolding advanced
advanced_fits g cells r v e hr hx hy he =
    let q : List ℕ = apply g (take cells r) v in
    let hq = apply_small 4294967296 (omega arith) g (take cells r) v (below_take _ cells r hr) hx hy in
    set_fits _ _ e (set_fits _ _ (one_more (get_or r (cells + 6) 0)) (set_fits _ _ (flag (is_over g q)) (mid_below _ 0 cells r q hr hq) (flag_small _)) (omega arith)) he

module _ (g : Game) (w : List ℕ) (p : Plan) (few : Few p) (fit : all_below 4294967296 w ≡ true) where
  sat_in_fits : (ticks : ℕ) → all_below 4294967296 g.start ≡ true → ticks < 4294967296 → all_below 4294967296 (sat_in g w p ticks) ≡ true
  unfolding sat_in
  sat_in_fits ticks start small =
      let a : ℕ = record_place p.cells p.seated in
      set_fits _ 9 (p.seated + 1)
      (mid_below _ a (record_words p.cells) w _ fit
      (new_fits g p.cells p.players ticks a start small (record_low p.cells p.seated few.cells few.seated) few.cells))
      (omega (arith, few.seated))

  played_in_fits :
      (t : ℕ) (v : Move) → v.rule < 4294967296 → v.first < 4294967296 → v.second < 4294967296 → all_below 4294967296 (played_in g w p t v) ≡ true
  unfolding played_in with_entry
  played_in_fits t v hr hx hy =
      let a : ℕ = record_place p.cells t in
      let n : ℕ = record_words p.cells in
      let e : ℕ = entry_place p.cells p.tables p.played in
      let low = record_low p.cells p.tables few.cells few.tables in
      let r : List ℕ = take n (drop a w) in
      let part = below_take _ n (drop a w) (below_drop _ a w fit) in
      let high : e + 3 < 4294967296 = omega (arith, few.played) in
      let moved = mid_below _ a n w _ fit (advanced_fits g p.cells r v (e + 3) part hx hy high) in
      let linked = set_fits _ (get_or w (a + p.cells + 8) 0) p.played moved (omega (arith, few.played)) in
      set_fits _ 10 (p.played + 1)
      (set_fits _ (e + 2) v.second (set_fits _ (e + 1) v.first (set_fits _ e v.rule linked hr) hx) hy)
      (omega (arith, few.played))

-- a choice between what fits
chosen_fits :
    (b : Bool) (x y : Outcome) → all_below 4294967296 x.0 ≡ true → all_below 4294967296 y.0 ≡ true → all_below 4294967296 (cond b x y).0 ≡ true
chosen_fits true x y hx hy = hx
chosen_fits false x y hx hy = hy

module _ (rules w : List ℕ) (l : Limits) (s : State) (means : Means rules w l s) (fit : all_below 4294967296 w ≡ true) (g : Game) (start : all_below 4294967296 g.start ≡ true) where
  pub sat_fits : (ticks : ℕ) → ticks < 4294967296 → all_below 4294967296 (sat g w ticks).0 ≡ true
  unfolding sat
  sat_fits ticks small =
      let p : Plan = plan_in w in
      subst (λ o. all_below 4294967296 (by_plan w o (λ q. cond (ltb q.seated q.tables) (sat_in g w q ticks, Ok q.seated) (w, Err (refused_by 8 0)))).0 ≡ true)
      (sym (plan_there rules w l s means))
      (chosen_fits (ltb p.seated p.tables) _ _ (sat_in_fits g w p (few_there rules w l s means) fit ticks start small) fit)

  pub played_fits :
      (t m : ℕ) (v : Move) → v.rule < 4294967296 → v.first < 4294967296 → v.second < 4294967296 → all_below 4294967296 (played g w t m v).0 ≡ true
  unfolding played played_at
  played_fits t m v hr hx hy =
      let p : Plan = plan_in w in
      let a : ℕ = record_place p.cells t in
      let q : List ℕ = take p.cells (drop a w) in
      subst (λ o. all_below 4294967296 (by_plan w o (λ q. played_at g w q t m v)).0 ≡ true) (sym (plan_there rules w l s means))
      (chosen_fits (ltb t p.seated) _ _ (chosen_fits (eqb (get_or w (a + p.cells + 5) 0) 0) _ _ (chosen_fits (eqb m (turn g q)) _ _
      (chosen_fits (is_legal g q v) _ _ (chosen_fits (ltb p.played p.moves) _ _ (played_in_fits g w p (few_there rules w l s means) fit t v hr hx hy) fit)
      fit) fit) fit) fit)
