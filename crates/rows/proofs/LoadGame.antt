-- Loading a game: its cells, its rules, its last two expressions, and its first words.
use Rattle.std.proofs.Common.{◌≡◌, ℕ, zero, suc, ◌+◌, ◌-◌, ◌*◌, ◌<◌, ◌≤◌, Bool, true, false, cond, ◌&&◌, leb, List, [], ◌∷◌, ◌++◌, length, get_or, take, drop, Some, None, Ok, Err, IsSome, Option, Result, sym, refl, ap, ◌∙◌, subst, arith}
use Rattle.std.proofs.lemmas.Bool.{and_parts, and_from, leb-true, false≢true}
use Rattle.std.proofs.lemmas.List.{drop-drop, length-drop, get_or-drop, get_or_append_left, get_or-append_right}
use Rattle.std.specs.Option.{ok_or}
use Rattle.rules.specs.declared.Reason.{Reason}
use Rattle.rules.specs.declared.Refusal.{Refusal}
use Rattle.rules.specs.Rules.{Expr, Rule, Game}
use Rattle.rules.specs.Bounds.{all_below, fits_depth, expr_parts, game_parts, possible_moves, good_rules, good_game}
use Rattle.wire.specs.declared.games.GameSize.{GameSize}
use Rattle.wire.specs.Numbers.{bytes_value}
use Rattle.wire.specs.Exprs.{got, part, read_exprs}
use Rattle.wire.specs.Games.{read_number, read_cells, read_rule, read_rules, read_game, parse_game, size_of, checked_game, checked}
use Rattle.wire.specs.GamesWalk.{exprs_parts, within_levels, word_at}
use Rattle.wire.proofs.ExprsBack.{with_got, same_got, cond_got, sized}
use Rattle.wire.proofs.GamesBack.{two_parts, whole_got}
use Rattle.eval.specs.Load.{SameBetween}
use Rattle.rows.specs.declared.loading.End.{End}
use Rattle.rows.specs.Layout.{words_at, rules_at, game_at, words_needed}
use Rattle.rows.specs.Load.{exprs_at, rules_words, Placed, ExprsThere, RulesThere, PlacesExprs, PlacesRules, HeaderWritten, Fills, Holds, LoadsGame}
use Rattle.rows.proofs.LoadSize.{game_takes, few_game_parts, words_are_enough}

-- a number that was read took its bytes
number_took :
    (w : ℕ) (bs : List ℕ) (i v : ℕ) (r : List ℕ) → read_number w (drop i bs) ≡ got v r
    → (v ≡ bytes_value (take w (drop i bs))) × (r ≡ drop (i + w) bs) × (w ≤ length bs - i)
unfolding read_number
number_took w bs i v r h =
    let g = cond_got (leb w (length (drop i bs))) (got (bytes_value (take w (drop i bs))) (drop w (drop i bs))) v r h in
    let e = same_got (bytes_value (take w (drop i bs))) v (drop w (drop i bs)) r g.1 in
    (sym e.0, sym e.1 ∙ drop-drop w i bs, omega (arith, leb-true w (length (drop i bs)) g.0, length-drop i bs))

-- cells that were read took two bytes each, and are the words that hold these numbers
record Cells (n : ℕ) (bs : List ℕ) (i : ℕ) (cs r : List ℕ) : Type 0 where
  many : length cs ≡ n
  left : r ≡ drop (i + 2 * n) bs
  are : (m : List ℕ) (p : ℕ) → ((k : ℕ) → k < n → get_or m (p + k) 0 ≡ word_at bs (i + 2 * k)) → words_at m p n ≡ cs

-- cells one by one
cells_took : (n : ℕ) (bs : List ℕ) (i : ℕ) (cs r : List ℕ) → read_cells n (drop i bs) ≡ got cs r → Cells n bs i cs r
unfolding read_cells words_at
cells_took zero bs i cs r h =
    let e = same_got [] cs (drop i bs) r h in
    let none : i ≡ i + 2 * 0 = omega arith in
    record { many = sym (ap length e.0); left = sym e.1 ∙ ap (λ k. drop k bs) none; are = λ m p f. e.0 }
cells_took (suc n) bs i cs r h =
    with_got (read_number 2 (drop i bs)) _ cs r _ h (λ c s e₁ h₁. with_got (read_cells n s) _ cs r _ h₁ (λ ds t e₂ h₂.
    let e = same_got (c ∷ ds) cs t r h₂ in
    let one = number_took 2 bs i c s e₁ in
    let more = cells_took n bs (i + 2) ds t (ap (read_cells n) (sym one.1) ∙ e₂) in
    let sum : i + 2 + 2 * n ≡ i + 2 * suc n = omega arith in
    record {
      many = sym (ap length e.0) ∙ ap suc more.many;
      left = sym e.1 ∙ more.left ∙ ap (λ k. drop k bs) sum;
      are = λ m p f.
          let here : p + 0 ≡ p = omega arith in
          let at_first : i + 2 * 0 ≡ i = omega arith in
          let first : get_or m p 0 ≡ c = ap (λ k. get_or m k 0) (sym here) ∙ f 0 (omega arith) ∙ ap (word_at bs) at_first ∙ sym one.0 in
          let others = more.are m (p + 1) (λ k l.
          let place : p + 1 + k ≡ p + suc k = omega arith in
          let byte : i + 2 * suc k ≡ i + 2 + 2 * k = omega arith in
          ap (λ j. get_or m j 0) place ∙ f (suc k) (omega arith) ∙ ap (word_at bs) byte) in
          (λ j. first j ∷ others j) ∙ e.0;
    }))

-- as many rules were read as were to come
rules_many : (n : ℕ) (bs : List ℕ) (us : List Rule) (q : List ℕ) → read_rules n bs ≡ got us q → length us ≡ n
unfolding read_rules
rules_many zero bs us q h = sym (ap length (same_got [] us bs q h).0)
rules_many (suc n) bs us q h =
    with_got (read_rule bs) _ us q _ h (λ u r e₁ h₁. with_got (read_rules n r) _ us q _ h₁ (λ vs s e₂ h₂.
    sym (ap length (same_got (u ∷ vs) us s q h₂).0) ∙ ap suc (rules_many n r vs s e₂)))

-- the parts of a game that can be read
record GameParts (bs : List ℕ) (g : Game) : Type 0 where
  some : 3 + 2 * length g.start < length bs
  rest : List ℕ
  cells : (m : List ℕ) → ((k : ℕ) → k < length g.start → get_or m (5 + k) 0 ≡ word_at bs (3 + 2 * k)) → words_at m 5 (length g.start) ≡ g.start
  reads_rules : read_rules (length g.rules) (drop (3 + 2 * length g.start + 1) bs) ≡ got g.rules rest
  reads_last : read_exprs 2 rest ≡ got (g.terminal ∷ g.payoff ∷ []) []

-- parts that were read in turn are those of the game that is made of them
game_made :
    (bs r₁ r₂ r₃ r₄ r₅ : List ℕ) (p n m : ℕ) (cs : List ℕ) (us : List Rule) (es : List Expr) → read_number 1 bs ≡ got p r₁ → read_number 2 r₁ ≡ got n r₂
    → read_cells n r₂ ≡ got cs r₃ → read_number 1 r₃ ≡ got m r₄ → read_rules m r₄ ≡ got us r₅ → read_exprs 2 r₅ ≡ got es []
    → GameParts bs (record { players = p; start = cs; rules = us; terminal = part es 0; payoff = part es 1 })
game_made bs r₁ r₂ r₃ r₄ r₅ p n m cs us es e₁ e₂ e₃ e₄ e₅ e₆ =
    let t₁ = number_took 1 bs 0 p r₁ e₁ in
    let t₂ = number_took 2 bs 1 n r₂ (ap (read_number 2) (sym t₁.1) ∙ e₂) in
    let t₃ = cells_took n bs 3 cs r₃ (ap (read_cells n) (sym t₂.1) ∙ e₃) in
    let t₄ = number_took 1 bs (3 + 2 * n) m r₄ (ap (read_number 1) (sym t₃.left) ∙ e₄) in
    record {
      some = omega (arith, t₃.many, t₄.2);
      rest = r₅;
      cells = λ w f. ap (words_at w 5) t₃.many ∙ t₃.are w 5 (λ k h. f k (omega (arith, t₃.many)));
      reads_rules =
          (λ j. read_rules (rules_many m r₄ us r₅ e₅ j) (drop (3 + 2 * t₃.many j + 1) bs)) ∙ ap (read_rules m) (sym t₄.1) ∙ e₅;
      reads_last = e₆ ∙ ap (λ l. got l []) (two_parts es (sized 2 r₅ es [] e₆).0);
    }

-- a game that can be read has these parts
game_parted : (bs : List ℕ) (g : Game) → parse_game bs ≡ Some g → GameParts bs g
unfolding parse_game read_game
game_parted bs g h =
    let X : Type 0 = GameParts bs g in
    with_got (read_number 1 bs) _ g [] X (whole_got (read_game bs) g h) (λ p r₁ e₁ h₁. with_got (read_number 2 r₁) _ g [] X h₁ (λ n r₂ e₂ h₂.
    with_got (read_cells n r₂) _ g [] X h₂ (λ cs r₃ e₃ h₃. with_got (read_number 1 r₃) _ g [] X h₃ (λ m r₄ e₄ h₄.
    with_got (read_rules m r₄) _ g [] X h₄ (λ us r₅ e₅ h₅. with_got (read_exprs 2 r₅) _ g [] X h₅ (λ es r₆ e₆ h₆.
    let e = same_got (record { players = p; start = cs; rules = us; terminal = part es 0; payoff = part es 1 }) g r₆ [] h₆ in
    subst (GameParts bs) e.0 (game_made bs r₁ r₂ r₃ r₄ r₅ p n m cs us es e₁ e₂ e₃ e₄ e₅ (e₆ ∙ ap (got es) e.1))))))))

-- a good game's rules are good, and its last two expressions are not too deep
good_last : (g : Game) → good_game g ≡ true
    → (good_rules g.rules ≡ true) × (within_levels 33 (g.terminal ∷ g.payoff ∷ []) ≡ true)
unfolding good_game within_levels
good_last g h =
    let p = and_parts ((leb 1 g.players && leb g.players 4) && ((leb 1 (length g.start) && leb (length g.start) 256) && all_below 65536 g.start)) _ h in
    let q = and_parts (leb (length g.rules) 64 && good_rules g.rules) _ p.1 in
    let r = and_parts (leb (possible_moves g.rules) 4096 && leb (game_parts g) 16384) _ q.1 in
    let s = and_parts (fits_depth g.terminal 32) _ r.1 in
    ((and_parts (leb (length g.rules) 64) _ q.0).1, and_from _ _ s.0 (and_from _ _ s.1 refl))

-- the parts of its last two expressions
last_parts : (g : Game) → exprs_parts (g.terminal ∷ g.payoff ∷ []) ≡ expr_parts g.terminal + expr_parts g.payoff
unfolding exprs_parts
last_parts g = omega arith

-- a good game of this size that can be read
module _ (bs : List ℕ) (z : GameSize) (g : Game) (reads : parse_game bs ≡ Some g) (good : good_game g ≡ true) (is : z ≡ size_of g) where
  -- its parts
  parts : GameParts bs g
  parts = game_parted bs g reads

  -- its size is known
  players_is : z.players ≡ g.players
  unfolding size_of
  players_is = ap (λ s. s.players) is

  cells_is : z.cells ≡ length g.start
  unfolding size_of
  cells_is = ap (λ s. s.cells) is

  rules_is : z.rules ≡ length g.rules
  unfolding size_of
  rules_is = ap (λ s. s.rules) is

  -- the words that it needs, part by part
  all : words_needed z ≡ 5 + z.cells + 5 * z.rules + rules_words g.rules + 4 * exprs_parts (g.terminal ∷ g.payoff ∷ [])
  all = ap words_needed is ∙ omega (arith, game_takes g, cells_is, rules_is, last_parts g)

  -- there are bytes for its cells and the count of its rules
  pub no_bytes : length bs < 3 + 2 * z.cells + 1 → ⊥
  no_bytes h = omega (arith, parts.some, cells_is)

  module _ (xs qs : List ℕ) (room : length xs ≡ words_needed z) (small : length xs ≤ 4294967295) (tail : qs ≡ drop (3 + 2 * z.cells + 1) bs) where
    -- its rules are there, and have room
    rules_there : RulesThere qs z.rules (5 + z.cells + 5 * z.rules) (length xs) g.rules parts.rest
    rules_there = record {
      reads = ap (read_rules z.rules) tail ∙ (λ j. read_rules (rules_is j) (drop (3 + 2 * cells_is j + 1) bs)) ∙ parts.reads_rules;
      fit = (good_last g good).0;
      enough = omega (arith, all);
      small = small;
    }

    -- so they are not refused
    pub no_rules : (ys : List ℕ) → PlacesRules qs z.rules xs ys (5 + z.cells) (5 + z.cells + 5 * z.rules) None → ⊥
    no_rules ys refused = refused g.rules parts.rest (omega arith) rules_there

    module _ (ys : List ℕ) (d : End) (size : length ys ≡ length xs)
        (loaded : PlacesRules qs z.rules xs ys (5 + z.cells) (5 + z.cells + 5 * z.rules) (Some d))
      where
        -- its rules are placed
        rules : Placed (List Rule) (λ m. rules_at m (5 + z.cells) z.rules) g.rules (rules_words g.rules) parts.rest (5 + z.cells) (5 * z.rules)
            (5 + z.cells + 5 * z.rules) xs ys d
        rules = loaded g.rules parts.rest (omega arith) rules_there

        -- its last two expressions are there, and have room
        last_there : ExprsThere d.rest.now 2 d.next (length ys) (g.terminal ∷ g.payoff ∷ []) []
        last_there = record {
          reads = ap (read_exprs 2) (sym rules.left) ∙ parts.reads_last;
          fit = (good_last g good).1;
          enough = omega (arith, all, rules.ends);
          small = omega arith;
        }

        -- so they are not refused
        pub no_last : (zs : List ℕ) → PlacesExprs d.rest.now 2 ys zs 3 d.next None → ⊥
        no_last zs refused = refused (g.terminal ∷ g.payoff ∷ []) [] (omega (arith, rules.ends)) last_there

        -- with its first words written, the game is there, and stays
        pub game_filled :
            (zs ws : List ℕ) (e : End) → PlacesExprs d.rest.now 2 ys zs 3 d.next (Some e)
            → ((k : ℕ) → k < z.cells → get_or xs (5 + k) 0 ≡ word_at bs (3 + 2 * k)) → HeaderWritten z.players z.cells z.rules zs ws
            → (vs : List ℕ) → SameBetween 0 (words_needed z) vs ws → game_at vs ≡ g
        unfolding game_at exprs_at
        game_filled zs ws e more cells w vs same =
            let last = more (g.terminal ∷ g.payoff ∷ []) [] (omega (arith, rules.ends)) last_there in
            let far : d.next ≤ words_needed z = omega (arith, all, rules.ends) in
            let near : 5 + z.cells + 5 * z.rules ≤ d.next = omega (arith, rules.ends) in
            let end : e.next ≤ words_needed z = omega (arith, all, rules.ends, last.ends) in
            let word : (k : ℕ) → 3 ≤ k → k < words_needed z → get_or vs k 0 ≡ get_or zs k 0 = λ k h l. same k (omega arith) l ∙ w.above k h in
            let old : (k : ℕ) → 5 ≤ k → k < d.next → get_or vs k 0 ≡ get_or ys k 0 = λ k h l. word k (omega arith) (omega arith) ∙ last.between k h l in
            let players : get_or vs 0 0 ≡ g.players = same 0 (omega arith) (omega arith) ∙ w.players_is ∙ players_is in
            let many-cells : get_or vs 1 0 ≡ z.cells = same 1 (omega arith) (omega arith) ∙ w.cells_is in
            let many-rules : get_or vs 2 0 ≡ z.rules = same 2 (omega arith) (omega arith) ∙ w.count_is in
            let start : words_at vs 5 (get_or vs 1 0) ≡ g.start =
            ap (words_at vs 5) (many-cells ∙ cells_is)
            ∙ parts.cells vs (λ k h. let l : k < z.cells = omega (arith, cells_is) in old (5 + k) (omega arith) (omega arith) ∙ rules.below (5 + k) (omega arith) ∙ cells k l) in
            let all-rules : rules_at vs (5 + get_or vs 1 0) (get_or vs 2 0) ≡ g.rules =
            (λ j. rules_at vs (5 + many-cells j) (many-rules j))
            ∙ rules.stays vs (λ k h l. old k (omega arith) (omega arith)) (λ k h l. old k (omega arith) l) in
            let two : exprs_at vs 3 2 ≡ g.terminal ∷ g.payoff ∷ [] =
            last.stays vs (λ k h l. word k h (omega arith)) (λ k h l. word k (omega arith) (omega arith)) in
            λ j. record { players = players j; start = start j; rules = all-rules j; terminal = part (two j) 0; payoff = part (two j) 1 }

-- what is checked as good is a good game of that size
pub checked_good : (bs : List ℕ) (z : GameSize) → checked bs ≡ Ok z → (g : Game) × (parse_game bs ≡ Some g) × (good_game g ≡ true) × (z ≡ size_of g)
unfolding checked
checked_good bs z h = by_game (parse_game bs) refl h
  where
    by_good : (g : Game) (b : Bool) → good_game g ≡ b → cond {A = Result GameSize Refusal} b (Ok (size_of g)) (Err (record { number = 3; place = 1 })) ≡ Ok z → (good_game g ≡ true) × (z ≡ size_of g)
    by_good g true e h = let same : z ≡ size_of g = cc in (e, same)
    by_good g false e h = let z : ◌≡◌ {A = ℕ} 0 1 = cc in absurd (omega arith)

    by_game : (o : Option Game) → parse_game bs ≡ o → checked_game o ≡ Ok z → (g : Game) × (parse_game bs ≡ Some g) × (good_game g ≡ true) × (z ≡ size_of g)
    by_game None e h = let z : ◌≡◌ {A = ℕ} 0 1 = cc in absurd (omega arith)
    by_game (Some g) e h = let x = by_good g (good_game g) refl h in (g, e, x.0, x.1)

-- what is checked as good needs few words
pub few_words : (bs : List ℕ) (z : GameSize) → checked bs ≡ Ok z → words_needed z ≤ 4294967295
few_words bs z h =
    let x = checked_good bs z h in
    omega (arith, ap words_needed x.3, words_are_enough x.0 x.2, few_game_parts x.0 x.2)

-- what is some is not refused
not_none : (r : Option Unit) (e f : Reason) → IsSome r → Err e ≡ ok_or r f → ⊥
not_none None e f some h = absurd (false≢true some)
not_none (Some u) e f some h = cc

-- from the words that were handed on to the whole memory
module _ (bs : List ℕ) (z : GameSize) (xs ys : List ℕ) (r : Option Unit) (ok : checked bs ≡ Ok z) (room : words_needed z ≤ length xs) (size : length ys ≡ words_needed z) (fills : Fills bs z ys r) where
  -- memory was filled
  pub not_unfilled : (e f : Reason) → Err e ≡ ok_or r f → ⊥
  not_unfilled e f h = let x = checked_good bs z ok in not_none r e f (fills x.0 x.1 x.2 x.3).0 h

  -- so the game is loaded
  pub is_loaded : (n : ℕ) → words_needed z ≡ n → LoadsGame bs xs (ys ++ drop n xs) (Ok z)
  is_loaded n words = subst (λ m. LoadsGame bs xs (ys ++ drop m xs) (Ok z)) words (record {
    refused = λ f h. let n : ◌≡◌ {A = ℕ} 0 1 = cc in absurd (omega arith);
    full = λ y h few. let same : y ≡ z = cc in absurd (omega (arith, ap words_needed same));
    loaded = λ y h enough.
        let same : z ≡ y = cc in (
          ap Ok same,
          λ g reads.
              let x = checked_good bs z ok in
              let is : x.0 ≡ g = cc (x.1, reads) in
              let stays : (zs : List ℕ) → ((k : ℕ) → k < words_needed z → get_or zs k 0 ≡ get_or (ys ++ drop (words_needed z) xs) k 0) → game_at zs ≡ g =
              λ zs there. (fills x.0 x.1 x.2 x.3).1 zs (λ k h l. there k l ∙ get_or_append_left ys (drop (words_needed z) xs) 0 k (omega arith)) ∙ is in
              subst (λ n. Holds g n xs (ys ++ drop (words_needed z) xs)) (ap words_needed same) (record {
                is = stays (ys ++ drop (words_needed z) xs) (λ k h. refl);
                after = λ k h.
                    let back : words_needed z + (k - words_needed z) ≡ k = omega arith in
                    get_or-append_right ys (drop (words_needed z) xs) (words_needed z) k 0 size h
                    ∙ get_or-drop (words_needed z) xs (k - words_needed z) 0 ∙ ap (λ j. get_or xs j 0) back;
                stays = stays;
              }),
        );
  })
