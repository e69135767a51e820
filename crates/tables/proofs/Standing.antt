-- What memory that means a server's state says of its sizes, and what a call answers.
use Rattle.std.proofs.Common.{◌≡◌, ℕ, ◌<◌, ◌≤◌, true, false, ◌&&◌, eqb, leb, List, length, get_or, Some, Err, Result, sym, refl, ap, ◌∙◌, arith}
use Rattle.std.proofs.lemmas.Bool.{and_parts, and_from, le-leb, leb-true, ne_eqb}
use Rattle.rules.specs.declared.Limits.{Limits}
use Rattle.rules.specs.declared.Refusal.{Refusal}
use Rattle.rules.specs.declared.Call.{Call}
use Rattle.rules.specs.Rules.{Game}
use Rattle.rules.specs.Calls.{State, all_calls, total_played, refusal, refusal_place, next, step, reply, answer}
use Rattle.rules.specs.Bounds.{all_below, possible_moves, game_parts, good_rules, good_game}
use Rattle.tables.specs.declared.plan.Plan.{Plan}
use Rattle.tables.specs.Layout.{state_words, plan_in, good_plan, plan_of}
use Rattle.tables.specs.Means.{Headed, Means}
use Rattle.tables.specs.Acting.{told, RightOutcome}
use Rattle.tables.proofs.Bounded.{few}
use Rattle.tables.proofs.Planned.{by_test}

-- the sizes of a good game
pub record Sized (g : Game) : Type 0 where
  pub players : g.players ≤ 4
  pub cells : length g.start ≤ 256
  pub rules : length g.rules ≤ 64
  pub moves : possible_moves g.rules ≤ 4096
  pub parts : game_parts g ≤ 16384

pub sized : (g : Game) → good_game g ≡ true → Sized g
unfolding good_game
sized g h =
    let a = and_parts ((leb 1 g.players && leb g.players 4) && ((leb 1 (length g.start) && leb (length g.start) 256) && all_below 65536 g.start)) _ h in
    let b = and_parts (leb 1 g.players && leb g.players 4) _ a.0 in
    let c = and_parts (leb 1 (length g.start) && leb (length g.start) 256) _ b.1 in
    let d = and_parts (leb (length g.rules) 64 && good_rules g.rules) _ a.1 in
    let e = and_parts (leb (possible_moves g.rules) 4096 && leb (game_parts g) 16384) _ d.1 in
    let f = and_parts (leb (possible_moves g.rules) 4096) _ e.0 in
    record {
      players = leb-true _ 4 (and_parts (leb 1 g.players) _ b.0).1;
      cells = leb-true _ 256 (and_parts (leb 1 (length g.start)) _ c.0).1;
      rules = leb-true _ 64 (and_parts (leb (length g.rules) 64) _ d.0).0;
      moves = leb-true _ 4096 f.0;
      parts = leb-true _ 16384 f.1;
    }

-- the plan of a state
abbrev pub the_plan : Limits → State → Plan
the_plan l s = record {
  tables = l.tables;
  moves = l.moves;
  cells = length s.game.start;
  players = s.game.players;
  seated = length s.tables;
  played = total_played s.tables;
}

good_by : (p : Plan) (size : ℕ) → p.tables ≤ 1024 → p.moves ≤ 1000000 → p.cells ≤ 256 → p.players ≤ 4 → p.seated ≤ p.tables
    → p.played ≤ p.moves → state_words p.cells p.tables p.moves ≤ size → good_plan p size ≡ true
good_by p size a b c d e f h =
    and_from (leb p.tables 1024 && (leb p.moves 1000000 && (leb p.cells 256 && leb p.players 4))) _
    (and_from _ _ (le-leb _ _ a) (and_from _ _ (le-leb _ _ b) (and_from _ _ (le-leb _ _ c) (le-leb _ _ d))))
    (and_from (leb p.seated p.tables && leb p.played p.moves) _ (and_from _ _ (le-leb _ _ e) (le-leb _ _ f)) (le-leb _ _ h))

pub plan_is : (rules w : List ℕ) (l : Limits) (s : State) → Means rules w l s → plan_of w ≡ Some (the_plan l s)
plan_is rules w l s m =
    let z = sized s.game m.good in
    let f = few l m.limits in
    let h : Headed w l s = m.head in
    let is : plan_in w ≡ the_plan l s = simp (h.tables, h.moves, h.cells, h.players, h.seated, h.played) in
    let good : good_plan (the_plan l s) (length w) ≡ true =
    good_by (the_plan l s) (length w) f.tables f.moves z.cells z.players m.few_tables m.few_moves m.room in
    sym (by_test w true (omega (arith, m.room)) h.marked (sym (ap (λ p. good_plan p (length w)) is ∙ good))) ∙ ap (λ p. Some p) is

-- a call that is refused leaves all as it was
pub kept_right :
    (rules w : List ℕ) (l : Limits) (s : State) (c : Call) (r : ℕ) → Means rules w l s → refusal all_calls l s c ≡ r → 0 < r
    → RightOutcome rules w l s c (w, Err (record { number = r; place = refusal_place c r }))
unfolding step answer
kept_right rules w l s c r m e pos =
    let other : eqb (refusal all_calls l s c) 0 ≡ false = ne_eqb _ 0 (omega arith) in
    record {
      means = rw other m;
      says = rw (other, e) refl;
      keeps = λ _. refl;
      long = refl;
      past = λ k h. refl;
    }

-- a call that is done
pub done_right :
    (rules w v : List ℕ) (l : Limits) (s : State) (c : Call) (x : Result ℕ Refusal) → refusal all_calls l s c ≡ 0 → Means rules v l (next s c)
    → told x ≡ reply l s c → length v ≡ length w
    → ((k : ℕ) → state_words (length s.game.start) l.tables l.moves ≤ k → get_or v k 0 ≡ get_or w k 0) → RightOutcome rules w l s c (v, x)
unfolding step answer
done_right rules w v l s c x e m t long past = record {
  means = rw e m;
  says = rw e t;
  keeps = λ h. absurd (omega arith);
  long = long;
  past = past;
}
