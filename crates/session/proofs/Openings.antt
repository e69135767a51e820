-- An opening is refused just where it says so, and else memory is a server's.
use Rattle.std.proofs.Common.{◌≡◌, ℕ, ◌≤◌, Bool, true, false, ◌&&◌, leb, List, length, get_or, Some, None, Ok, Err, Option, Result, sym, refl, ap, ◌∙◌, subst, arith}
use Rattle.std.proofs.lemmas.Bool.{and_from, le-leb, cond-true, cond-false}
use Rattle.rules.specs.declared.Limits.{Limits}
use Rattle.rules.specs.declared.Refusal.{Refusal}
use Rattle.rules.specs.Rules.{Game}
use Rattle.rules.specs.Calls.{opened}
use Rattle.rules.specs.Bounds.{good_limits}
use Rattle.wire.specs.declared.games.GameSize.{GameSize}
use Rattle.wire.specs.Games.{parse_game, checked, checked_game, size_of}
use Rattle.rows.specs.Layout.{words_needed}
use Rattle.rows.specs.Load.{LoadsGame}
use Rattle.tables.specs.declared.plan.Sizes.{Sizes}
use Rattle.tables.specs.Layout.{sizes_of, good_size}
use Rattle.tables.specs.Changes.{header, opened_in}
use Rattle.tables.specs.Means.{Means}
use Rattle.tables.specs.Acting.{opening}
use Rattle.tables.proofs.Regions.{mid_above}
use Rattle.tables.proofs.Theorems.{opening_is_right}
use Rattle.session.specs.Opening.{Lent, lent, needed, long_enough, by_length, opening_answer, SameLengths, Opens}
use Rattle.session.proofs.Starting.{never, sizes_chosen, checked_good, game_chosen, long_parts}

same_lengths : (m : Lent) → SameLengths m m
same_lengths m = record { rules = refl; state = refl; scratch = refl; answer = refl }

-- a refusal
pub refuses : (l : Limits) (bs : List ℕ) (m : Lent) (f : Refusal) → Err f ≡ opening_answer l bs m → Opens l bs m m (Err f)
refuses l bs m f e = record {
  answers = e;
  refused = λ g h. refl;
  means = λ z g h. absurd (never z f (sym h));
  past = λ z h. absurd (never z f (sym h));
  lengths = same_lengths m;
  scratch = refl;
  answer = refl;
}

pub not_needed : (l : Limits) (bs : List ℕ) (m : Lent) (f : Refusal) → Err f ≡ needed l bs → Err f ≡ opening_answer l bs m
unfolding opening_answer
not_needed l bs m f e = ap (by_length m) e

pub too_short :
    (l : Limits) (bs : List ℕ) (m : Lent) (z : Sizes) → Ok z ≡ needed l bs → long_enough z m ≡ false
    → Err (record { number = 3; place = 2 }) ≡ opening_answer l bs m
unfolding opening_answer
too_short l bs m z e h = sym (cond-false (long_enough z m) (Ok z) _ h) ∙ ap (by_length m) e

-- what was needed was that of a size that checking told
module _ (l : Limits) (bs : List ℕ) (m : Lent) (z : Sizes) (e : Ok z ≡ needed l bs) (long : long_enough z m ≡ true) where
  told : (y : GameSize) × (checked bs ≡ Ok y) × (good_limits l ≡ true) × (sizes_of l y ≡ z)
  unfolding needed
  told = sizes_chosen l z (checked bs) (sym e)

  roomy : words_needed told.0 ≤ length m.rules
  roomy = subst (λ x. x.rules ≤ length m.rules) (sym told.3) (long_parts z m long).0

  -- so the game is loaded
  loads :
      (ys : List ℕ) (r : Result GameSize Refusal) (x : LoadsGame bs m.rules ys r) → r ≡ Ok told.0
  loads ys r x = (x.loaded told.0 told.1 roomy).0

  pub never_unloaded : (ys : List ℕ) (f : Refusal) → LoadsGame bs m.rules ys (Err f) → ⊥
  never_unloaded ys f x = never told.0 f (sym (loads ys (Err f) x))

  module _ (ys v : List ℕ) (y : GameSize) (x : LoadsGame bs m.rules ys (Ok y)) (after : v ≡ (opening l y m.state).0) where
    same_size : y ≡ told.0
    same_size = let h = loads ys (Ok y) x in cc

    all_good : ((good_limits l && good_size y) && leb (sizes_of l y).state (length m.state)) ≡ true
    unfolding checked
    all_good =
        and_from _ _
        (and_from _ _ told.2 (checked_good y (parse_game bs) (told.1 ∙ ap Ok (sym same_size))))
        (le-leb (sizes_of l y).state (length m.state)
        (subst (λ k. (sizes_of l k).state ≤ length m.state) (sym same_size) (subst (λ k. k.state ≤ length m.state) (sym told.3) (long_parts z m long).1)))

    written : v ≡ opened_in m.state l y
    unfolding opening
    written = after ∙ ap (λ (k : List ℕ × Bool). k.0) (cond-true _ (opened_in m.state l y, true) (m.state, false) all_good)

    header_fits : 16 ≤ length m.state
    header_fits =
        let h = subst (λ k. k.state ≤ length m.state) (sym told.3) (long_parts z m long).1 in
        omega (arith, h)

    is_server : (g : Game) → parse_game bs ≡ Some g → Means ys v l (opened g)
    unfolding checked
    is_server g p =
        let c = game_chosen g y (parse_game bs) p (told.1 ∙ ap Ok (sym same_size)) in
        let held = (x.loaded told.0 told.1 roomy).1 g p in
        let room : (sizes_of l (size_of g)).state ≤ length m.state =
        subst (λ k. (sizes_of l k).state ≤ length m.state) (sym (c.1 ∙ same_size))
        (subst (λ k. k.state ≤ length m.state) (sym told.3) (long_parts z m long).1) in
        let fresh = opening_is_right ys m.state l g held.is c.0 told.2 room in
        subst (λ k. Means ys k l (opened g)) (sym (written ∙ ap (opened_in m.state l) (sym c.1))) fresh

    -- words past those asked for
    rules_past : (g : Game) → parse_game bs ≡ Some g → (k : ℕ) → z.rules ≤ k → get_or ys k 0 ≡ get_or m.rules k 0
    rules_past g p k h =
        ((x.loaded told.0 told.1 roomy).1 g p).after k (subst (λ q. q.rules ≤ k) (sym told.3) h)

    some_game : (o : Option Game) → checked_game o ≡ Ok told.0 → (g : Game) × (o ≡ Some g)
    some_game None h = absurd (never told.0 _ (sym h))
    some_game (Some g) h = (g, refl)

    the_game : (g : Game) × (parse_game bs ≡ Some g)
    unfolding checked
    the_game = some_game (parse_game bs) told.1

    state_past : (k : ℕ) → z.state ≤ k → get_or v k 0 ≡ get_or m.state k 0
    unfolding opened_in
    state_past k h =
        let low = subst (λ q. q.state ≤ k) (sym told.3) h in
        ap (λ q. get_or q k 0) written ∙ mid_above 0 16 m.state (header l y) (omega (arith, header_fits)) refl k (omega (arith, low))

    same_ok : (q : Sizes) → ◌≡◌ {A = Result Sizes Refusal} (Ok z) (Ok q) → (k : ℕ) (size : Sizes → ℕ) → size q ≤ k → size z ≤ k
    same_ok q h k size b = let i : z ≡ q = cc in subst (λ w. size w ≤ k) (sym i) b

    pub opens_well :
        length ys ≡ length m.rules → length v ≡ length m.state → Opens l bs m (lent ys v m.scratch m.answer) (Ok z)
    unfolding opening_answer
    opens_well long-rules long-state = record {
      answers = sym (cond-true (long_enough z m) (Ok z) _ long) ∙ ap (by_length m) e;
      refused = λ f h. absurd (never z f h);
      means = λ q g h p. is_server g p;
      past = λ q h. record {
        rules = λ k b. rules_past the_game.0 the_game.1 k (same_ok q h k (λ w. w.rules) b);
        state = λ k b. state_past k (same_ok q h k (λ w. w.state) b);
        scratch = λ k b. refl;
      };
      lengths = record { rules = long-rules; state = long-state; scratch = refl; answer = refl };
      scratch = refl;
      answer = refl;
    }
