-- What sitting down, a move and a look at a table answer, check by check.
use Rattle.std.proofs.Common.{◌≡◌, ◌≢◌, ℕ, ◌+◌, ◌-◌, ◌<◌, ◌≤◌, true, false, List, get_or, take, drop, Some, None, Ok, Err, sym, refl, ◌∙◌, arith}
use Rattle.std.proofs.lemmas.Bool.{lt-ltb, le-ltb, eq-eqb, ne_eqb, cond-true, cond-false}
use Rattle.rules.specs.declared.Move.{Move}
use Rattle.rules.specs.Rules.{Game, turn, is_legal}
use Rattle.tables.specs.declared.plan.Plan.{Plan}
use Rattle.tables.specs.Layout.{record_place, plan_of}
use Rattle.tables.specs.Changes.{one_more, sat_in, played_in}
use Rattle.tables.specs.Inner.{seat_with, played_from}
use Rattle.tables.specs.Acting.{refused_by, sat, seat_of, played_at, played}

-- the cells of a record, as the code takes them
pub cells_there : (w : List ℕ) (n : ℕ) {a b : ℕ} → a ≡ b → take (a + n - a) (drop a w) ≡ take n (drop b w)
cells_there w n {a} {b} e = let k : a + n - a ≡ n = omega arith in rw (k, e) refl

-- sitting down, by what is known of the plan p
module _ (g : Game) (w : List ℕ) (ticks : ℕ) where
  pub sat_nowhere : plan_of w ≡ None → (w, Err (refused_by 3 2)) ≡ sat g w ticks
  unfolding sat
  sat_nowhere e = rw e refl

  pub sat_full : (p : Plan) → plan_of w ≡ Some p → p.tables ≤ p.seated → (w, Err (refused_by 8 0)) ≡ sat g w ticks
  unfolding sat
  sat_full p e h = rw e (sym (cond-false _ _ _ (le-ltb p.seated p.tables h)))

  pub sat_there : (p : Plan) → plan_of w ≡ Some p → p.seated < p.tables → (sat_in g w p ticks, Ok p.seated) ≡ sat g w ticks
  unfolding sat
  sat_there p e h = rw e (sym (cond-true _ _ _ (lt-ltb _ _ h)))

-- looking at table t
module _ (w : List ℕ) (t : ℕ) where
  pub seat_nowhere : plan_of w ≡ None → Err (refused_by 3 2) ≡ seat_of w t
  unfolding seat_of
  seat_nowhere e = rw e refl

  pub seat_missing : (p : Plan) → plan_of w ≡ Some p → p.seated ≤ t → Err (refused_by 4 0) ≡ seat_of w t
  unfolding seat_of
  seat_missing p e h = rw e (sym (cond-false _ _ _ (le-ltb t p.seated h)))

  pub seat_there : (p : Plan) → plan_of w ≡ Some p → t < p.seated → Ok (seat_with w p (record_place p.cells t)) ≡ seat_of w t
  unfolding seat_of
  seat_there p e h = rw e (sym (cond-true _ _ _ (lt-ltb _ _ h)))

-- a move of player m at table t, check by check
module _ (g : Game) (w : List ℕ) (t m : ℕ) (v : Move) where
  pub played_nowhere : plan_of w ≡ None → (w, Err (refused_by 3 2)) ≡ played g w t m v
  unfolding played
  played_nowhere e = rw e refl

  module _ (p : Plan) (e : plan_of w ≡ Some p) where
    there_is : played g w t m v ≡ played_at g w p t m v
    unfolding played
    there_is = rw e refl

    pub no_such_table : p.seated ≤ t → (w, Err (refused_by 4 0)) ≡ played g w t m v
    unfolding played_at
    no_such_table h = sym (there_is ∙ cond-false _ _ _ (le-ltb t p.seated h))

    module _ (h : t < p.seated) where
      pub at_end : get_or w (record_place p.cells t + p.cells + 5) 0 ≢ 0 → (w, Err (refused_by 5 0)) ≡ played g w t m v
      unfolding played_at
      at_end f = sym (there_is ∙ cond-true _ _ _ (lt-ltb _ _ h) ∙ cond-false _ _ _ (ne_eqb _ 0 f))

      module _ (f : get_or w (record_place p.cells t + p.cells + 5) 0 ≡ 0) where
        pub not_their_turn : m ≢ turn g (take p.cells (drop (record_place p.cells t) w)) → (w, Err (refused_by 6 1)) ≡ played g w t m v
        unfolding played_at
        not_their_turn i = sym (there_is ∙ cond-true _ _ _ (lt-ltb _ _ h) ∙ cond-true _ _ _ (eq-eqb _ 0 f) ∙ cond-false _ _ _ (ne_eqb m _ i))

        module _ (i : m ≡ turn g (take p.cells (drop (record_place p.cells t) w))) where
          pub not_legal : false ≡ is_legal g (take p.cells (drop (record_place p.cells t) w)) v → (w, Err (refused_by 7 2)) ≡ played g w t m v
          unfolding played_at
          not_legal j =
              sym (there_is ∙ cond-true _ _ _ (lt-ltb _ _ h) ∙ cond-true _ _ _ (eq-eqb _ 0 f) ∙ cond-true _ _ _ (eq-eqb m _ i)
              ∙ cond-false _ _ _ (sym j))

          module _ (j : true ≡ is_legal g (take p.cells (drop (record_place p.cells t) w)) v) where
            pub too_many : p.moves ≤ p.played → (w, Err (refused_by 8 0)) ≡ played g w t m v
            unfolding played_at
            too_many l =
                sym (there_is ∙ cond-true _ _ _ (lt-ltb _ _ h) ∙ cond-true _ _ _ (eq-eqb _ 0 f) ∙ cond-true _ _ _ (eq-eqb m _ i)
                ∙ cond-true _ _ _ (sym j) ∙ cond-false _ _ _ (le-ltb p.played p.moves l))

            pub move_there :
                p.played < p.moves
                → (played_from g w p (record_place p.cells t) v, Ok (one_more (get_or w (record_place p.cells t + p.cells + 6) 0))) ≡ played g w t m v
            unfolding played_at played_in played_from
            move_there l =
                sym (there_is ∙ cond-true _ _ _ (lt-ltb _ _ h) ∙ cond-true _ _ _ (eq-eqb _ 0 f) ∙ cond-true _ _ _ (eq-eqb m _ i)
                ∙ cond-true _ _ _ (sym j) ∙ cond-true _ _ _ (lt-ltb _ _ l))
