-- From what was found in bytes to the limit that a game breaks, and whether it is a good one.
use Rattle.std.proofs.Common.{◌≡◌, ℕ, ◌+◌, ◌≤◌, Bool, true, false, cond, not, ◌&&◌, ◌||◌, ltb, leb, List, [], ◌∷◌, length, Some, None, Option, is_some, Ok, Err, sym, refl, ap, ◌∙◌, arith}
use Rattle.std.specs.Prelude.{option_map}
use Rattle.std.specs.Option.{option_or}
use Rattle.std.proofs.lemmas.Bool.{and_parts, and_from, cond-true, cond-false, true≢false}
use Rattle.std.proofs.lemmas.Bool.Decides.{nat_tests}
use Rattle.rules.specs.Rules.{Rule, Game}
use Rattle.rules.specs.Bounds.{all_below, fits_depth, game_parts, possible_moves, good_effects, good_rules, good_game}
use Rattle.wire.specs.declared.excesses.Excess.{Excess}
use Rattle.wire.specs.declared.excesses.Excess.TheVariants.{Players, Cells, Rules, Moves, Parts, Deep}
use Rattle.wire.specs.declared.walks.Found.{Found}
use Rattle.wire.specs.Games.{fits_bytes, size_of, checked_game, parse_game, checked}
use Rattle.wire.specs.Excess.{count_excess, bound_excess, or_else, excess, excess_of, shallow_rules, shallow}
use Rattle.wire.specs.GamesWalk.{found_of, found_excess}
use Rattle.wire.proofs.GamesBack.{game_writes_back}
use Rattle.wire.proofs.GamesDeep.{game_good}

small : (m n : ℕ) → leb n m ≡ true → ltb m n ≡ false
small m n h = grind (arith, nat_tests)

within : (n m : ℕ) → (leb 1 n && leb n m) ≡ true → (ltb n 1 || ltb m n) ≡ false
within n m h = let p = and_parts (leb 1 n) (leb n m) h in (λ i. small n 1 p.0 i || small m n p.1 i)

-- good rules keep to the limits of bounds and depth
rules_keep : (k : ℕ) (us : List Rule) → good_rules us ≡ true → (bound_excess k us ≡ None) × (shallow_rules us ≡ true)
unfolding good_rules bound_excess shallow_rules
rules_keep k [] h = (refl, refl)
rules_keep k (u ∷ us) h =
    let p = and_parts ((leb u.first_bound 256 && leb u.second_bound 256) && leb (length u.effects) 255) _ h in
    let q = and_parts (leb u.first_bound 256 && leb u.second_bound 256) (leb (length u.effects) 255) p.0 in
    let b = and_parts (leb u.first_bound 256) (leb u.second_bound 256) q.0 in
    let d = and_parts (fits_depth u.guard 32) (good_effects u.effects && good_rules us) p.1 in
    let e = and_parts (good_effects u.effects) (good_rules us) d.1 in
    let more = rules_keep (k + 1) us e.1 in (
      cond-false _ _ _ (small 256 u.first_bound b.0) ∙ cond-false _ _ _ (small 256 u.second_bound b.1) ∙ more.0,
      and_from _ _ (and_from _ _ d.0 e.0) more.1,
    )

-- and a good game to all
game_keeps :
    (g : Game) → good_game g ≡ true
    → (count_excess g.players (length g.start) (length g.rules) (possible_moves g.rules) (game_parts g) ≡ None) × (bound_excess 0 g.rules ≡ None) × (shallow g ≡ true)
unfolding good_game count_excess shallow
game_keeps g h =
    let p = and_parts ((leb 1 g.players && leb g.players 4) && ((leb 1 (length g.start) && leb (length g.start) 256) && all_below 65536 g.start)) _ h in
    let a = and_parts (leb 1 g.players && leb g.players 4) _ p.0 in
    let b = and_parts (leb 1 (length g.start) && leb (length g.start) 256) (all_below 65536 g.start) a.1 in
    let q = and_parts (leb (length g.rules) 64 && good_rules g.rules) _ p.1 in
    let r = and_parts (leb (length g.rules) 64) (good_rules g.rules) q.0 in
    let s = and_parts (leb (possible_moves g.rules) 4096 && leb (game_parts g) 16384) (fits_depth g.terminal 32 && fits_depth g.payoff 32) q.1 in
    let t = and_parts (leb (possible_moves g.rules) 4096) (leb (game_parts g) 16384) s.0 in
    let rules = rules_keep 0 g.rules r.1 in (
      cond-false _ _ _ (within g.players 4 a.0) ∙ cond-false _ _ _ (within (length g.start) 256 b.0) ∙ cond-false _ _ _ (small 64 (length g.rules) r.0)
          ∙ cond-false _ _ _ (small 4096 (possible_moves g.rules) t.0) ∙ cond-false _ _ _ (small 16384 (game_parts g) t.1),
      rules.0,
      and_from _ _ rules.1 s.1,
    )

-- what is found broken is what a game has too much of
found_is : (g : Game) → fits_bytes g ≡ true → found_excess (found_of g) ≡ excess_of (Some g)
unfolding found_of excess_of excess
found_is g fit = go (good_game g) _ _ (shallow g) refl refl refl refl
  where
    go : (t : Bool) (o p : Option Excess) (s : Bool) → good_game g ≡ t
        → count_excess g.players (length g.start) (length g.rules) (possible_moves g.rules) (game_parts g) ≡ o → bound_excess 0 g.rules ≡ p → shallow g ≡ s
        → option_or o (option_or p (cond (not s) (Some Deep) None)) ≡ cond t None (Some (or_else o (or_else p Deep)))
    go false (Some x) p s good counts bounds low = refl
    go false None (Some x) s good counts bounds low = refl
    go false None None false good counts bounds low = refl
    go false None None true good counts bounds low =
        absurd (true≢false (sym (game_good g fit low (λ i. or_else (counts i) (or_else (bounds i) Deep))) ∙ good))
    go true o p s good counts bounds low =
        let keeps = game_keeps g good in
        λ i. option_or ((sym counts ∙ keeps.0) i) (option_or ((sym bounds ∙ keeps.1) i) (cond (not ((sym low ∙ keeps.2) i)) (Some Deep) None))

module _ (bs : List ℕ) (small_bytes : all_below 256 bs ≡ true) (f : Found) (found : Some f ≡ option_map found_of (parse_game bs)) where
  was_found : (g : Game) × (parse_game bs ≡ Some g) × (f ≡ found_of g)
  was_found = go (parse_game bs) refl found
    where
      go : (o : Option Game) → parse_game bs ≡ o → Some f ≡ option_map found_of o → (g : Game) × (parse_game bs ≡ Some g) × (f ≡ found_of g)
      go None e h = let z : ◌≡◌ {A = ℕ} 0 1 = cc in absurd (omega arith)
      go (Some g) e h = let same : f ≡ found_of g = cc in (g, e, same)

  pub told : found_excess f ≡ excess_of (parse_game bs)
  told =
      let x = was_found in
      ap found_excess x.2 ∙ found_is x.0 (game_writes_back bs x.0 small_bytes x.1).1 ∙ ap excess_of (sym x.1)

  -- whether it is a good game
  good_is : (g : Game) → parse_game bs ≡ Some g → is_some (found_excess f) ≡ not (good_game g)
  unfolding excess_of
  good_is g e = ap is_some (told ∙ ap excess_of e) ∙ go (good_game g)
    where
      go : (t : Bool) → is_some (cond t None (Some (excess g))) ≡ not t
      go true = refl
      go false = refl

  pub not_good : is_some (found_excess f) ≡ true → Err (record { number = 3; place = 1 }) ≡ checked bs
  unfolding checked
  not_good h =
      let x = was_found in
      sym (ap checked_game x.1 ∙ cond-false _ _ _ (not_true (good_game x.0) (sym (good_is x.0 x.1) ∙ h)))
    where
      not_true : (t : Bool) → not t ≡ true → t ≡ false
      not_true false h = refl
      not_true true h = sym h

  pub is_good :
      is_some (found_excess f) ≡ false
      → Ok (record { players = f.players; cells = f.cells; rules = f.rules; effects = f.totals.effects; moves = f.totals.moves; parts = f.totals.parts }) ≡ checked bs
  unfolding checked found_of size_of
  is_good h =
      let x = was_found in
      (λ i. Ok (record { players = (x.2 i).players; cells = (x.2 i).cells; rules = (x.2 i).rules; effects = (x.2 i).totals.effects; moves = (x.2 i).totals.moves; parts = (x.2 i).totals.parts }))
      ∙ sym (ap checked_game x.1 ∙ cond-true _ _ _ (not_false (good_game x.0) (sym (good_is x.0 x.1) ∙ h)))
    where
      not_false : (t : Bool) → not t ≡ false → t ≡ true
      not_false true h = refl
      not_false false h = sym h

-- bytes that are no game
pub no_excess : (bs : List ℕ) → None ≡ option_map found_of (parse_game bs) → None ≡ excess_of (parse_game bs)
unfolding excess_of
no_excess bs h = go (parse_game bs) h
  where
    go : (o : Option Game) → None ≡ option_map found_of o → None ≡ excess_of o
    go None h = refl
    go (Some g) h = let z : ◌≡◌ {A = ℕ} 0 1 = cc in absurd (omega arith)

pub no_game : (bs : List ℕ) → None ≡ option_map found_of (parse_game bs) → Err (record { number = 3; place = 0 }) ≡ checked bs
unfolding checked
no_game bs h = go (parse_game bs) h
  where
    go : (o : Option Game) → None ≡ option_map found_of o → Err (record { number = 3; place = 0 }) ≡ checked_game o
    go None h = refl
    go (Some g) h = let z : ◌≡◌ {A = ℕ} 0 1 = cc in absurd (omega arith)

-- where no limit is broken, counts are small
past_some : {X : Type 0} (t : Bool) (x : X) (q o : Option X) → is_some (option_or (cond t (Some x) q) o) ≡ false → (t ≡ false) × (is_some (option_or q o) ≡ false)
past_some true x q o h = absurd (true≢false h)
past_some false x q o h = (refl, h)

pub small_counts : (p c r m n : ℕ) (o : Option Excess) → is_some (option_or (count_excess p c r m n) o) ≡ false → (m ≤ 4096) × (n ≤ 16384)
unfolding count_excess
small_counts p c r m n o h =
    let a = past_some (ltb p 1 || ltb 4 p) (Players p) _ o h in
    let b = past_some (ltb c 1 || ltb 256 c) (Cells c) _ o a.1 in
    let d = past_some (ltb 64 r) (Rules r) _ o b.1 in
    let e = past_some (ltb 4096 m) (Moves m) _ o d.1 in
    let f = past_some (ltb 16384 n) (Parts n) _ o e.1 in
    (grind (arith, nat_tests, e.0), grind (arith, nat_tests, f.0))
