-- The seat of a table stands inside memory, whatever memory holds.
use Rattle.std.proofs.Common.{◌≡◌, ℕ, ◌+◌, ◌≤◌, ltb, List, length, Some, None, Ok, Option, sym, refl, subst, add-mul, arith}
use Rattle.std.proofs.lemmas.Bool.{ltb-true}
use Rattle.std.proofs.lemmas.Nat.{mul-le}
use Rattle.tables.specs.declared.plan.Plan.{Plan}
use Rattle.tables.specs.declared.acting.Seat.{Seat}
use Rattle.tables.specs.Layout.{plan_of}
use Rattle.tables.proofs.Planned.{Roomy}
use Rattle.tables.specs.Acting.{seat_by, seat_of}
use Rattle.tables.proofs.Planned.{planned}
use Rattle.session.proofs.Starting.{chosen, never}

pub record Inside (w : List ℕ) (q : Seat) : Type 0 where
  pub low : q.at ≤ 300000
  pub few_cells : q.cells ≤ 256
  pub few_players : q.players ≤ 4
  pub inside : q.at + q.cells + q.players ≤ length w

module _ (w : List ℕ) (t : ℕ) (q : Seat) where
  by_plan : (o : Option Plan) → Ok q ≡ seat_by w t o → ((p : Plan) → o ≡ Some p → Roomy p (length w)) → Inside w q
  by_plan None e h = absurd (never q _ e)
  by_plan (Some p) e h =
      let r = h p refl in
      let c = chosen (ltb t p.seated) _ q _ e in
      let k = ltb-true t p.seated c.0 in
      let a = mul-le (t + 1) (p.cells + 9) p.tables (p.cells + 9) (omega (arith, k, r.may_sit)) (omega arith) in
      let b = mul-le t (p.cells + 9) 1024 265 (omega (arith, k, r.may_sit, r.few_tables)) (omega (arith, r.few_cells)) in
      subst (Inside w) c.1
      (record {
        low = omega (arith, b);
        few_cells = r.few_cells;
        few_players = r.few_players;
        inside = omega (arith, a, r.room, r.few_players, add-mul t 1 (p.cells + 9));
      })

  pub seat_inside : Ok q ≡ seat_of w t → Inside w q
  unfolding seat_of
  seat_inside e = by_plan (plan_of w) e (λ p h. (planned w p (sym h)).roomy)
