-- Memory that means a server has the header of one; and its tables have the sizes of its game.
use Rattle.std.proofs.Common.{◌≡◌, ℕ, suc, ◌+◌, ◌<◌, ◌≤◌, true, false, ◌&&◌, eqb, leb, List, [], ◌∷◌, length, get_or, drop, Some, None, sym, refl, ap, ◌∙◌, add-mul, arith}
use Rattle.std.proofs.lemmas.Bool.{and_parts, and_from, and_left, and_right, leb-true, le-leb, lt-leb, eq-eqb, cond-true}
use Rattle.std.proofs.lemmas.Nat.{mul-le}
use Rattle.std.proofs.lemmas.List.{length-take-le, length-drop}
use Rattle.rules.specs.declared.Limits.{Limits}
use Rattle.rules.specs.Rules.{Game}
use Rattle.rules.specs.Calls.{Table, State, no_table, table_at}
use Rattle.rules.specs.Bounds.{good_game, good_limits}
use Rattle.wire.specs.Games.{size_of}
use Rattle.answers.specs.Size.{table_sized, tables_sized}
use Rattle.tables.specs.declared.plan.Plan.{Plan}
use Rattle.tables.specs.Layout.{mark, header_words, record_words, record_place, state_words, sizes_of, plan_in, plan_of}
use Rattle.tables.specs.Means.{Means}
use Rattle.session.specs.Opening.{Lent, lent}
use Rattle.session.specs.Calling.{ready, ready_by}

pub good_sizes : (g : Game) → good_game g ≡ true → (g.players ≤ 4) × (length g.start ≤ 256)
unfolding good_game
good_sizes g h =
    let front = (and_parts ((leb 1 g.players && leb g.players 4) && ((leb 1 (length g.start) && leb (length g.start) 256) && _)) _ h).0 in
    let parts = and_parts (leb 1 g.players && leb g.players 4) ((leb 1 (length g.start) && leb (length g.start) 256) && _) front in
    let cells = (and_parts (leb 1 (length g.start) && leb (length g.start) 256) _ parts.1).0 in (
      leb-true g.players 4 (and_parts (leb 1 g.players) (leb g.players 4) parts.0).1,
      leb-true (length g.start) 256 (and_parts (leb 1 (length g.start)) (leb (length g.start) 256) cells).1,
    )

pub limits_say : (l : Limits) → good_limits l ≡ true → (l.tables ≤ 1024) × (l.moves ≤ 1000000) × (l.positions ≤ 8192)
unfolding good_limits
limits_say l h =
    let a = and_parts (leb l.tables 1024) (leb l.moves 1000000 && leb l.positions 8192) h in
    let b = and_parts (leb l.moves 1000000) (leb l.positions 8192) a.1 in
    (leb-true _ _ a.0, leb-true _ _ b.0, leb-true _ _ b.1)

each_sized : (g : Game) (ts : List Table) → ((t : ℕ) → t < length ts → table_sized g (get_or ts t no_table) ≡ true) → tables_sized g ts ≡ true
unfolding tables_sized
each_sized g [] h = refl
each_sized g (t ∷ ts) h = and_from (table_sized g t) (tables_sized g ts) (h 0 (omega arith)) (each_sized g ts (λ k l. h (suc k) (omega arith)))

-- what is tested once there is a plan
pub ready_with :
    (m : Lent) (p : Plan) → Some p ≡ plan_of m.state
    → ready m ≡ (leb (get_or m.state 6 0) (length m.rules) && (leb (get_or m.state 7 0) (length m.scratch) && leb (get_or m.state 8 0) (length m.answer)))
unfolding ready
ready_with m p e = ap (ready_by m) (sym e)

module _ (m : Lent) (p : Plan) (e : Some p ≡ plan_of m.state) where
  pub short_rules : (x : ℕ) → x ≡ get_or m.state 6 0 → length m.rules < x → false ≡ ready m
  short_rules x h l = sym (ready_with m p e ∙ and_left _ _ (ap (λ y. leb y (length m.rules)) (sym h) ∙ lt-leb _ _ l))

  pub short_scratch : (x : ℕ) → x ≡ get_or m.state 7 0 → length m.scratch < x → false ≡ ready m
  short_scratch x h l =
      sym (ready_with m p e ∙ and_right (leb (get_or m.state 6 0) (length m.rules)) _
      (and_left _ (leb (get_or m.state 8 0) (length m.answer)) (ap (λ y. leb y (length m.scratch)) (sym h) ∙ lt-leb _ _ l)))

  pub by_answer :
      (x y z : ℕ) → x ≡ get_or m.state 6 0 → y ≡ get_or m.state 7 0 → z ≡ get_or m.state 8 0 → x ≤ length m.rules → y ≤ length m.scratch
      → leb z (length m.answer) ≡ ready m
  by_answer x y z hx hy hz lx ly =
      let a : leb (get_or m.state 6 0) (length m.rules) ≡ true = ap (λ k. leb k (length m.rules)) (sym hx) ∙ le-leb x (length m.rules) lx in
      let b : leb (get_or m.state 7 0) (length m.scratch) ≡ true = ap (λ k. leb k (length m.scratch)) (sym hy) ∙ le-leb y (length m.scratch) ly in
      ap (λ k. leb k (length m.answer)) hz ∙ sym (ready_with m p e ∙ (λ i. a i && (b i && leb (get_or m.state 8 0) (length m.answer))))

pub ready_without : (m : Lent) → None ≡ plan_of m.state → ready m ≡ false
unfolding ready
ready_without m e = ap (ready_by m) (sym e)

module _ (rules w : List ℕ) (l : Limits) (s : State) (m : Means rules w l s) where
  pub plan_there : plan_of w ≡ Some (plan_in w)
  unfolding plan_of
  plan_there =
      let game = good_sizes s.game m.good in
      let most = limits_say l m.limits in
      let h = m.head in
      let room : state_words (get_or w 4 0) (get_or w 1 0) (get_or w 2 0) ≤ length w =
      rw (h.cells, h.tables, h.moves) m.room in
      let p : Plan = plan_in w in
      let long : leb header_words (length w) ≡ true = le-leb header_words (length w) (omega (arith, room)) in
      let own : eqb (get_or w 0 0) mark ≡ true = eq-eqb (get_or w 0 0) mark h.marked in
      let a : leb p.tables 1024 ≡ true = le-leb p.tables 1024 (omega (arith, h.tables, most.0)) in
      let b : leb p.moves 1000000 ≡ true = le-leb p.moves 1000000 (omega (arith, h.moves, most.1)) in
      let c : leb p.cells 256 ≡ true = le-leb p.cells 256 (omega (arith, h.cells, game.1)) in
      let d : leb p.players 4 ≡ true = le-leb p.players 4 (omega (arith, h.players, game.0)) in
      let e : leb p.seated p.tables ≡ true = le-leb p.seated p.tables (omega (arith, h.seated, h.tables, m.few_tables)) in
      let f : leb p.played p.moves ≡ true = le-leb p.played p.moves (omega (arith, h.played, h.moves, m.few_moves)) in
      cond-true _ (Some p) None
      (and_from _ _ (and_from _ _ long own)
      (and_from _ _ (and_from _ _ a (and_from _ _ b (and_from _ _ c d))) (and_from _ _ (and_from _ _ e f) (le-leb (state_words p.cells p.tables p.moves) (length w) room))))

  pub is_ready :
      (scratch answer : List ℕ) → (sizes_of l (size_of s.game)).rules ≤ length rules → (sizes_of l (size_of s.game)).scratch ≤ length scratch
      → (sizes_of l (size_of s.game)).answer ≤ length answer → ready (lent rules w scratch answer) ≡ true
  unfolding ready
  is_ready scratch answer a b c =
      let h = m.head in
      let a' : get_or w 6 0 ≤ length rules = rw h.rules_size a in
      let b' : get_or w 7 0 ≤ length scratch = rw h.scratch_size b in
      let c' : get_or w 8 0 ≤ length answer = rw h.answer_size c in
      ap (ready_by (lent rules w scratch answer)) plan_there
      ∙ and_from _ _ (le-leb (get_or w 6 0) (length rules) a') (and_from _ _ (le-leb (get_or w 7 0) (length scratch) b') (le-leb (get_or w 8 0) (length answer) c'))

  -- a table's record ends before the entries begin
  record_inside : (t : ℕ) → t < length s.tables → record_place (length s.game.start) t + record_words (length s.game.start) ≤ length w
  record_inside t h =
      let n : ℕ = length s.game.start in
      omega (arith, m.room, m.few_tables, mul-le (t + 1) (n + 9) l.tables (n + 9) (omega (arith, m.few_tables)) (omega arith), add-mul t 1 (n + 9))

  sized_each : (t : ℕ) → t < length s.tables → table_sized s.game (table_at s t) ≡ true
  unfolding table_sized
  sized_each t h =
      let n : ℕ = length s.game.start in
      let a : ℕ = record_place n t in
      let there = m.each t h in
      let inside = record_inside t h in
      let game = good_sizes s.game m.good in
      let cells : length (table_at s t).cells ≡ n =
      ap length (sym there.cells) ∙ length-take-le n (drop a w) (omega (arith, length-drop a w)) in
      let clocks : length (table_at s t).clocks ≡ s.game.players =
      ap length (sym there.clocks) ∙ length-take-le s.game.players (drop (a + n) w) (omega (arith, length-drop (a + n) w)) in
      and_from _ _ (eq-eqb (length (table_at s t).cells) n cells) (eq-eqb (length (table_at s t).clocks) s.game.players clocks)

  pub all_sized : tables_sized s.game s.tables ≡ true
  all_sized = each_sized s.game s.tables sized_each
