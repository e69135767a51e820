-- What memory's header says of it.
use Rattle.std.proofs.Common.{◌≡◌, Bool, ℕ, ◌<◌, ◌≤◌, true, false, ◌&&◌, eqb, leb, List, length, get_or, Some, None, sym}
use Rattle.std.proofs.lemmas.Bool.{and_from, and_left, and_right, and_parts, cond-true, cond-false, le-leb, lt-leb, leb-true, eq-eqb, ne_eqb}
use Rattle.std.specs.Bool.{then_some}
use Rattle.tables.specs.declared.plan.Plan.{Plan}
use Rattle.tables.specs.Layout.{mark, state_words, plan_in, good_plan, plan_of}
use Rattle.tables.proofs.Choosing.{chosen}

pub no_header : (w : List ℕ) → length w < 16 → None ≡ plan_of w
unfolding plan_of
no_header w h = sym (cond-false _ _ _ (and_left (leb 16 (length w) && eqb (get_or w 0 0) mark) (good_plan (plan_in w) (length w)) (and_left _ _ (lt-leb _ _ h))))

pub no_mark : (w : List ℕ) → (get_or w 0 0 ≡ mark → ⊥) → None ≡ plan_of w
unfolding plan_of
no_mark w h =
    sym (cond-false _ _ _ (and_left (leb 16 (length w) && eqb (get_or w 0 0) mark) (good_plan (plan_in w) (length w)) (and_right (leb 16 (length w)) _ (ne_eqb _ _ h))))

-- with a mark, what the test of the plan says
pub by_test : (w : List ℕ) (b : Bool) → 16 ≤ length w → get_or w 0 0 ≡ mark → b ≡ good_plan (plan_in w) (length w) → then_some b (plan_in w) ≡ plan_of w
unfolding plan_of
by_test w true l m e =
    sym (cond-true _ _ _ (and_from (leb 16 (length w) && eqb (get_or w 0 0) mark) (good_plan (plan_in w) (length w)) (and_from _ _ (le-leb _ _ l) (eq-eqb _ _ m)) (sym e)))
by_test w false l m e =
    sym (cond-false _ _ _ (and_right (leb 16 (length w) && eqb (get_or w 0 0) mark) (good_plan (plan_in w) (length w)) (sym e)))

-- the sizes of a plan, and memory that is long enough for it
pub record Roomy (p : Plan) (size : ℕ) : Type 0 where
  pub few_tables : p.tables ≤ 1024
  pub few_moves : p.moves ≤ 1000000
  pub few_cells : p.cells ≤ 256
  pub few_players : p.players ≤ 4
  pub may_sit : p.seated ≤ p.tables
  pub may_play : p.played ≤ p.moves
  pub room : state_words p.cells p.tables p.moves ≤ size

roomy_by : (p : Plan) (size : ℕ) → good_plan p size ≡ true → Roomy p size
roomy_by p size h =
    let a = and_parts (leb p.tables 1024 && (leb p.moves 1000000 && (leb p.cells 256 && leb p.players 4))) _ h in
    let b = and_parts (leb p.tables 1024) _ a.0 in
    let c = and_parts (leb p.moves 1000000) _ b.1 in
    let d = and_parts (leb p.cells 256) _ c.1 in
    let e = and_parts (leb p.seated p.tables && leb p.played p.moves) _ a.1 in
    let f = and_parts (leb p.seated p.tables) _ e.0 in
    record {
      few_tables = leb-true _ 1024 b.0;
      few_moves = leb-true _ 1000000 c.0;
      few_cells = leb-true _ 256 d.0;
      few_players = leb-true _ 4 d.1;
      may_sit = leb-true _ p.tables f.0;
      may_play = leb-true _ p.moves f.1;
      room = leb-true (state_words p.cells p.tables p.moves) size e.1;
    }

-- a plan that was read
pub record Planned (w : List ℕ) (p : Plan) : Type 0 where
  pub is : p ≡ plan_in w
  pub roomy : Roomy p (length w)

pub planned : (w : List ℕ) (p : Plan) → Some p ≡ plan_of w → Planned w p
unfolding plan_of
planned w p e =
    let a = chosen ((leb 16 (length w) && eqb (get_or w 0 0) mark) && good_plan (plan_in w) (length w)) (plan_in w) p e in
    let b = and_parts (leb 16 (length w) && eqb (get_or w 0 0) mark) (good_plan (plan_in w) (length w)) a.0 in
    record { is = a.1; roomy = rw a.1 (roomy_by (plan_in w) (length w) b.1) }
