-- Good games can be written as bytes.
use Rattle.std.proofs.Common.{◌≡◌, ℕ, zero, suc, ◌<◌, Bool, true, ◌&&◌, ltb, leb, List, [], ◌∷◌, length, refl, arith}
use Rattle.std.proofs.lemmas.Bool.{and_parts, and_from, lt-ltb, leb-true, false≢true}
use Rattle.rules.specs.Rules.{Expr, Num, Cell, First, Second, Me, Add, Sub, Mul, Div, Rem, Lt, Eq, If, Effect, Rule}
use Rattle.rules.specs.Bounds.{fits_depth, good_effects, good_rules, good_game, all_below, possible_moves, game_parts}
use Rattle.wire.specs.Exprs.{expr_fits}
use Rattle.wire.specs.Games.{effects_fit, rule_fits, rules_fit, fits_bytes, GoodGamesFit}

both : (x y v w : Bool) → (x ≡ true → v ≡ true) → (y ≡ true → w ≡ true) → (x && y) ≡ true → (v && w) ≡ true
both x y v w f g h = let p = and_parts x y h in and_from v w (f p.0) (g p.1)

below_larger : (n m k : ℕ) → m < k → leb n m ≡ true → ltb n k ≡ true
below_larger n m k l h = let e = leb-true n m h in lt-ltb n k (omega arith)

-- an expression that is not too deep has only numbers that fit
pub depth_fits : (e : Expr) (d : ℕ) → fits_depth e d ≡ true → expr_fits e ≡ true
unfolding fits_depth expr_fits
depth_fits (Num n) d h = h
depth_fits First d h = refl
depth_fits Second d h = refl
depth_fits Me d h = refl
depth_fits (Cell a) zero h = absurd (false≢true h)
depth_fits (Cell a) (suc d) h = depth_fits a d h
depth_fits (Add a b) zero h = absurd (false≢true h)
depth_fits (Add a b) (suc d) h = both _ _ _ _ (depth_fits a d) (depth_fits b d) h
depth_fits (Sub a b) zero h = absurd (false≢true h)
depth_fits (Sub a b) (suc d) h = both _ _ _ _ (depth_fits a d) (depth_fits b d) h
depth_fits (Mul a b) zero h = absurd (false≢true h)
depth_fits (Mul a b) (suc d) h = both _ _ _ _ (depth_fits a d) (depth_fits b d) h
depth_fits (Div a b) zero h = absurd (false≢true h)
depth_fits (Div a b) (suc d) h = both _ _ _ _ (depth_fits a d) (depth_fits b d) h
depth_fits (Rem a b) zero h = absurd (false≢true h)
depth_fits (Rem a b) (suc d) h = both _ _ _ _ (depth_fits a d) (depth_fits b d) h
depth_fits (Lt a b) zero h = absurd (false≢true h)
depth_fits (Lt a b) (suc d) h = both _ _ _ _ (depth_fits a d) (depth_fits b d) h
depth_fits (Eq a b) zero h = absurd (false≢true h)
depth_fits (Eq a b) (suc d) h = both _ _ _ _ (depth_fits a d) (depth_fits b d) h
depth_fits (If a b c) zero h = absurd (false≢true h)
depth_fits (If a b c) (suc d) h = both _ _ _ _ (depth_fits a d) (both _ _ _ _ (depth_fits b d) (depth_fits c d)) h

good_effects_fit : (es : List Effect) → good_effects es ≡ true → effects_fit es ≡ true
unfolding good_effects effects_fit
good_effects_fit [] h = refl
good_effects_fit (e ∷ es) h = both _ _ _ _ (depth_fits e.cell 32) (both _ _ _ _ (depth_fits e.value 32) (good_effects_fit es)) h

good_rules_fit : (us : List Rule) → good_rules us ≡ true → rules_fit us ≡ true
unfolding good_rules rules_fit rule_fits
good_rules_fit [] h = refl
good_rules_fit (u ∷ us) h =
    let p = and_parts ((leb u.first_bound 256 && leb u.second_bound 256) && leb (length u.effects) 255) _ h in
    let q = and_parts (leb u.first_bound 256 && leb u.second_bound 256) (leb (length u.effects) 255) p.0 in
    let s = and_parts (fits_depth u.guard 32) (good_effects u.effects && good_rules us) p.1 in
    let t = and_parts (good_effects u.effects) (good_rules us) s.1 in
    and_from _ _
    (and_from _ _ (both _ _ _ _ (below_larger u.first_bound 256 65536 (omega arith)) (below_larger u.second_bound 256 65536 (omega arith)) q.0)
    (and_from _ _ (depth_fits u.guard 32 s.0) (and_from _ _ (below_larger (length u.effects) 255 256 (omega arith) q.1) (good_effects_fit u.effects t.0))))
    (good_rules_fit us t.1)

pub good_games_fit : GoodGamesFit
unfolding good_game fits_bytes
good_games_fit g h =
    let p = and_parts ((leb 1 g.players && leb g.players 4) && ((leb 1 (length g.start) && leb (length g.start) 256) && all_below 65536 g.start)) _ h in
    let q = and_parts (leb 1 g.players && leb g.players 4) _ p.0 in
    let few = and_parts (leb 1 g.players) (leb g.players 4) q.0 in
    let cells = and_parts (leb 1 (length g.start) && leb (length g.start) 256) (all_below 65536 g.start) q.1 in
    let small = and_parts (leb 1 (length g.start)) (leb (length g.start) 256) cells.0 in
    let s = and_parts (leb (length g.rules) 64 && good_rules g.rules) _ p.1 in
    let rules = and_parts (leb (length g.rules) 64) (good_rules g.rules) s.0 in
    let t = and_parts (leb (possible_moves g.rules) 4096 && leb (game_parts g) 16384) _ s.1 in
    and_from _ _
    (and_from _ _ (below_larger g.players 4 256 (omega arith) few.1)
    (and_from _ _ (below_larger (length g.start) 256 65536 (omega arith) small.1) cells.1))
    (and_from _ _ (and_from _ _ (below_larger (length g.rules) 64 256 (omega arith) rules.0) (good_rules_fit g.rules rules.1))
    (both _ _ _ _ (depth_fits g.terminal 32) (depth_fits g.payoff 32) t.1))
