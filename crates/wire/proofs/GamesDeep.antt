-- A game that keeps to all limits of counts and bounds, and has no expression that is too deep, is a good one.
use Rattle.std.proofs.Common.{◌≡◌, ℕ, ◌+◌, Bool, true, false, cond, ◌&&◌, ◌||◌, ltb, leb, List, [], ◌∷◌, length, Some, None, Option, sym, refl, ap, ◌∙◌, arith}
use Rattle.std.proofs.lemmas.Bool.{and_parts, and_from, le-leb, ltb-true, true≢false}
use Rattle.std.proofs.lemmas.Bool.Decides.{nat_tests}
use Rattle.rules.specs.Rules.{Rule, Game}
use Rattle.rules.specs.Bounds.{all_below, fits_depth, game_parts, possible_moves, good_effects, good_rules, good_game}
use Rattle.wire.specs.declared.excesses.Excess.{Excess}
use Rattle.wire.specs.declared.excesses.Excess.TheVariants.{Players, Cells, Rules, Moves, Parts, FirstBound, SecondBound, Deep}
use Rattle.wire.specs.Exprs.{expr_fits}
use Rattle.wire.specs.Games.{effects_fit, rule_fits, rules_fit, fits_bytes}
use Rattle.wire.specs.Excess.{count_excess, bound_excess, or_else, excess, excess_of, shallow_rules, shallow, DeepIsDeep}
use Rattle.wire.proofs.GamesCheck.{start_fits}

abbrev is_deep : Excess → Bool
is_deep (Players n) = false
is_deep (Cells n) = false
is_deep (Rules n) = false
is_deep (Moves n) = false
is_deep (Parts n) = false
is_deep (FirstBound k n) = false
is_deep (SecondBound k n) = false
is_deep Deep = true

-- where depth is told, no test before it held
past : (t : Bool) (d x : Excess) (o : Option Excess) → is_deep d ≡ false → or_else (cond t (Some d) o) x ≡ Deep → (t ≡ false) × (or_else o x ≡ Deep)
past true d x o other h = absurd (true≢false (sym (ap is_deep h) ∙ other))
past false d x o other h = (refl, h)

at_most : (m n : ℕ) → ltb m n ≡ false → leb n m ≡ true
at_most m n h = le-leb n m (grind (arith, nat_tests))

between : (n m : ℕ) → (ltb n 1 || ltb m n) ≡ false → (leb 1 n && leb n m) ≡ true
between n m h = and_from _ _ (le-leb 1 n (grind (arith, nat_tests))) (le-leb n m (grind (arith, nat_tests)))

rules_good :
    (k : ℕ) (us : List Rule) → rules_fit us ≡ true → shallow_rules us ≡ true → or_else (bound_excess k us) Deep ≡ Deep → good_rules us ≡ true
unfolding rules_fit rule_fits shallow_rules bound_excess good_rules
rules_good k [] fit low h = refl
rules_good k (u ∷ us) fit low h =
    let f = and_parts ((ltb u.first_bound 65536 && ltb u.second_bound 65536) && (expr_fits u.guard && (ltb (length u.effects) 256 && effects_fit u.effects))) (rules_fit us) fit in
    let e = and_parts (ltb u.first_bound 65536 && ltb u.second_bound 65536) _ f.0 in
    let l = and_parts (expr_fits u.guard) _ e.1 in
    let few = ltb-true (length u.effects) 256 (and_parts (ltb (length u.effects) 256) _ l.1).0 in
    let s = and_parts (fits_depth u.guard 32 && good_effects u.effects) (shallow_rules us) low in
    let d = and_parts (fits_depth u.guard 32) (good_effects u.effects) s.0 in
    let a = past (ltb 256 u.first_bound) (FirstBound k u.first_bound) Deep _ refl h in
    let b = past (ltb 256 u.second_bound) (SecondBound k u.second_bound) Deep _ refl a.1 in
    and_from _ _ (and_from _ _ (and_from _ _ (at_most 256 u.first_bound a.0) (at_most 256 u.second_bound b.0)) (le-leb _ 255 (omega arith)))
    (and_from _ _ d.0 (and_from _ _ d.1 (rules_good (k + 1) us f.1 s.1 b.1)))

pub game_good : (g : Game) → fits_bytes g ≡ true → shallow g ≡ true → excess g ≡ Deep → good_game g ≡ true
unfolding fits_bytes shallow excess count_excess good_game
game_good g fit low h =
    let f = and_parts (ltb g.players 256 && (ltb (length g.start) 65536 && all_below 65536 g.start)) _ fit in
    let r = and_parts (ltb (length g.rules) 256 && rules_fit g.rules) _ f.1 in
    let s = and_parts (shallow_rules g.rules) _ low in
    let p = past (ltb g.players 1 || ltb 4 g.players) (Players g.players) _ _ refl h in
    let c = past (ltb (length g.start) 1 || ltb 256 (length g.start)) (Cells (length g.start)) _ _ refl p.1 in
    let u = past (ltb 64 (length g.rules)) (Rules (length g.rules)) _ _ refl c.1 in
    let m = past (ltb 4096 (possible_moves g.rules)) (Moves (possible_moves g.rules)) _ _ refl u.1 in
    let n = past (ltb 16384 (game_parts g)) (Parts (game_parts g)) _ _ refl m.1 in
    let rules = rules_good 0 g.rules (and_parts (ltb (length g.rules) 256) (rules_fit g.rules) r.0).1 s.0 n.1 in
    and_from _ _ (and_from _ _ (between g.players 4 p.0) (and_from _ _ (between (length g.start) 256 c.0) (start_fits g fit)))
    (and_from _ _ (and_from _ _ (at_most 64 _ u.0) rules) (and_from _ _ (and_from _ _ (at_most 4096 _ m.0) (at_most 16384 _ n.0)) s.1))

pub deep_is_deep : DeepIsDeep
unfolding excess_of
deep_is_deep g fit h = go (shallow g) (good_game g) refl refl h
  where
    go : (s t : Bool) → shallow g ≡ s → good_game g ≡ t → cond t None (Some (excess g)) ≡ Some Deep → s ≡ false
    go false t low good h = refl
    go true true low good h = let z : ◌≡◌ {A = ℕ} 0 1 = cc in absurd (omega arith)
    go true false low good h = let e : excess g ≡ Deep = cc in sym (game_good g fit low e) ∙ good
