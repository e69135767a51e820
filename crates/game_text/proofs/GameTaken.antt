-- Pieces that the machine takes to the end are the pieces of a game.
use Rattle.std.proofs.Common.{◌≡◌, ℕ, zero, suc, ◌+◌, ◌<◌, ◌≤◌, Bool, true, false, cond, ◌&&◌, eqb, ltb, ◌⊎◌, List, [], ◌∷◌, ◌++◌, length, set, Some, None, codes, sym, refl, ap, ◌∙◌, subst, inl, inr, arith}
use Rattle.std.proofs.lemmas.List.{append_assoc, append-nil, length-append}
use Rattle.std.proofs.lemmas.Bool.{and_parts, and_from, cond-true, cond_both, ltb-true, lt-ltb}
use Rattle.rules.specs.Rules.{Expr, Effect, Rule, Game}
use Rattle.rules.specs.Bounds.{all_below}
use Rattle.wire.specs.Exprs.{expr_fits}
use Rattle.wire.specs.Games.{effects_fit, rule_fits, rules_fit, fits_bytes}
use Rattle.wire.proofs.Exprs.{exprs_fit}
use Rattle.text.specs.Grammar.{Piece, word, number}
use Rattle.game_text.specs.declared.progress.Part.{Part}
use Rattle.game_text.specs.declared.progress.Part.TheVariants.{Guard, Effect as AnEffect, Terminal, Payoff}
use Rattle.game_text.specs.declared.progress.Stage.{Stage}
use Rattle.game_text.specs.declared.progress.Stage.TheVariants.{PlayersNumber, CellsWord, Values, FirstBound, SecondBound, MayWord, Sets, GainWord, End}
use Rattle.game_text.specs.declared.progress.Word.{Word}
use Rattle.game_text.specs.declared.progress.Word.TheVariants.{Players, Cells, Rule as TheRule, May, Set as TheSet, Over as TheOver, Gain}
use Rattle.game_text.specs.declared.progress.Progress.{Progress}
use Rattle.game_text.specs.Text.{expr_pieces, number_pieces, effects_pieces, rules_pieces, game_pieces}
use Rattle.game_text.specs.Machine.{State, spelling, look, awaited, bound, number_taken, word_taken, part_ended, is_end, beginning}
use Rattle.game_text.proofs.Spelled.{found_cases, look_same}
use Rattle.game_text.proofs.Runs.{run}
use Rattle.game_text.proofs.Feeding.{state, first_taken, number_small}
use Rattle.game_text.proofs.FeedingBack.{then_some, same_some}
use Rattle.game_text.proofs.ExprsTaken.{exprs_pieces, not_ended, in_expr, exprs_taken}

abbrev pub at_stage : Stage → Part → ℕ → ℕ → ℕ → ℕ → ℕ → ℕ → Progress
at_stage st t m c r k l a = record { stage = st; part = t; more = m; cells = c; rules = r; sets = k; len = l; sets_at = a }

-- the word that is taken
record WordTaken (p : Progress) (memory : List ℕ) (l : List ℕ) (qs : List Piece) (s : State) : Type 0 where
  w : Word
  found : look true (awaited p.stage p) l ≡ Some w
  on : run (word_taken w p memory) qs ≡ Some s

word_took : (p : Progress) (memory : List ℕ) (l : List ℕ) (qs : List Piece) (s : State) → run (state p memory) (word l ∷ qs) ≡ Some s → WordTaken p memory l qs s
word_took p memory l qs s e =
    let f = first_taken p memory (word l) qs s e in
    let g = then_some (look true (awaited p.stage p) l) (λ v. Some (word_taken v p memory)) f.to f.took in
    record { w = g.0; found = g.1; on = ap (λ x. run x qs) (same_some _ f.to g.2) ∙ f.on }

number_took :
    (p : Progress) (memory : List ℕ) (v : ℕ) (qs : List Piece) (s : State) → run (state p memory) (number v ∷ qs) ≡ Some s
    → (ltb v (bound p.stage p) ≡ true) × (run (number_taken p.stage v p memory) qs ≡ Some s)
number_took p memory v qs s e =
    let f = first_taken p memory (number v) qs s e in
    let h = number_small p memory v f.to f.took in
    (h, ap (λ x. run x qs) (same_some _ f.to (sym (cond-true (ltb v (bound p.stage p)) _ None h) ∙ f.took)) ∙ f.on)

no_number : (v n : ℕ) (A : Type 0) → n ≡ 0 → ltb v n ≡ true → A
no_number v n A e h = absurd (omega (arith, ltb-true v n h))

no_word : (l : List ℕ) (w : Word) (ws : List Word) (A : Type 0) → ws ≡ [] → look true ws l ≡ Some w → A
no_word l w [] A e h = let z : ◌≡◌ {A = ℕ} 0 1 = cc in absurd (omega arith)
no_word l w (v ∷ ws) A e h = let z : ◌≡◌ {A = ℕ} 0 1 = cc in absurd (omega arith)

-- only one word is awaited
pub word_first :
    (p : Progress) (memory : List ℕ) (ps : List Piece) (s : State) (w : Word) → awaited p.stage p ≡ w ∷ [] → bound p.stage p ≡ 0 → is_end p.stage ≡ false
    → run (state p memory) ps ≡ Some s → is_end s.at.stage ≡ true → (qs : List Piece) × (ps ≡ word (spelling w) ∷ qs) × (run (word_taken w p memory) qs ≡ Some s)
word_first p memory [] s w a b n e z = not_ended p memory s _ n e z
word_first p memory (number v ∷ qs) s w a b n e z = no_number v (bound p.stage p) _ b (number_took p memory v qs s e).0
word_first p memory (word l ∷ qs) s w a b n e z =
    let f = word_took p memory l qs s e in
    let g : look true (w ∷ []) l ≡ Some f.w = ap (λ ws. look true ws l) (sym a) ∙ f.found in
    let same : f.w ≡ w = found_cases true w [] l f.w (f.w ≡ w) g (λ t u. sym u) (λ h. no_word l f.w [] _ refl h) in
    (qs, ap (λ x. word x ∷ qs) (look_same (w ∷ []) l f.w g ∙ ap spelling same), ap (λ x. run (word_taken x p memory) qs) (sym same) ∙ f.on)

-- only a number is awaited
number_first :
    (p : Progress) (memory : List ℕ) (ps : List Piece) (s : State) → awaited p.stage p ≡ [] → is_end p.stage ≡ false → run (state p memory) ps ≡ Some s → is_end s.at.stage ≡ true
    → (v : ℕ) × (qs : List Piece) × (ps ≡ number v ∷ qs) × (ltb v (bound p.stage p) ≡ true) × (run (number_taken p.stage v p memory) qs ≡ Some s)
number_first p memory [] s a n e z = not_ended p memory s _ n e z
number_first p memory (number v ∷ qs) s a n e z = let f = number_took p memory v qs s e in (v, qs, refl, f.0, f.1)
number_first p memory (word l ∷ qs) s a n e z = let f = word_took p memory l qs s e in no_word l f.w (awaited p.stage p) _ a f.found

-- one expression, or two
one_of : (es : List Expr) → length es ≡ 1 → (x : Expr) × (es ≡ x ∷ [])
one_of [] h = absurd (omega arith)
one_of (x ∷ []) h = (x, refl)
one_of (x ∷ y ∷ es) h = absurd (omega arith)

two_of : (es : List Expr) → length es ≡ 2 → (x : Expr) × (y : Expr) × (es ≡ x ∷ y ∷ [])
two_of [] h = absurd (omega arith)
two_of (x ∷ []) h = absurd (omega arith)
two_of (x ∷ y ∷ []) h = (x, y, refl)
two_of (x ∷ y ∷ z ∷ es) h = absurd (omega arith)

record OneThen (t : Part) (c r k : ℕ) (ps : List Piece) (s : State) : Type 0 where
  x : Expr
  rest : List Piece
  len : ℕ
  place : ℕ
  more : ℕ
  memory : List ℕ
  is : ps ≡ expr_pieces x ++ rest
  fits : expr_fits x ≡ true
  on : run (part_ended t (in_expr t more c r k len place) memory) rest ≡ Some s

one_taken : (ps : List Piece) (t : Part) (c r k l a : ℕ) (memory : List ℕ) (s : State) → run (state (in_expr t 0 c r k l a) memory) ps ≡ Some s → is_end s.at.stage ≡ true → OneThen t c r k ps s
unfolding exprs_pieces exprs_fit
one_taken ps t c r k l a memory s e z =
    let f = exprs_taken ps t 0 c r k l a memory s e z in
    let o = one_of f.es f.many in
    record {
      x = o.0;
      rest = f.rest;
      len = f.len;
      place = f.place;
      more = f.more;
      memory = f.memory;
      is = f.is ∙ ap (λ es. exprs_pieces es ++ f.rest) o.1 ∙ ap (λ qs. qs ++ f.rest) (append-nil (expr_pieces o.0));
      fits = (and_parts (expr_fits o.0) true (ap exprs_fit (sym o.1) ∙ f.fits)).0;
      on = f.on;
    }

-- a rule after its word
record Body (c r : ℕ) (ps : List Piece) (s : State) : Type 0 where
  x : ℕ
  y : ℕ
  guard : Expr
  rest : List Piece
  len : ℕ
  place : ℕ
  memory : List ℕ
  is : ps ≡ number x ∷ number y ∷ word (codes "may") ∷ (expr_pieces guard ++ rest)
  x_fits : ltb x 65536 ≡ true
  y_fits : ltb y 65536 ≡ true
  fits : expr_fits guard ≡ true
  on : run (state (at_stage Sets Guard 0 c r 0 len place) memory) rest ≡ Some s

body_taken :
    (ps : List Piece) (t : Part) (m c r k l a : ℕ) (memory : List ℕ) (s : State) → run (state (at_stage FirstBound t m c r k l a) memory) ps ≡ Some s → is_end s.at.stage ≡ true
    → Body c r ps s
body_taken ps t m c r k l a memory s e z =
    let f = number_first (at_stage FirstBound t m c r k l a) memory ps s refl refl e z in
    let g = number_first (at_stage SecondBound t m c r k (l + 2) a) _ f.1 s refl refl f.4 z in
    let h = word_first (at_stage MayWord t m c r k (l + 2 + 2) a) _ g.1 s May refl refl refl g.4 z in
    let o = one_taken h.0 Guard c r k (l + 2 + 2) a _ s h.2 z in
    record {
      x = f.0;
      y = g.0;
      guard = o.x;
      rest = o.rest;
      len = o.len + 1;
      place = o.len;
      memory = set o.memory o.len 0;
      is = f.2 ∙ ap (λ qs. number f.0 ∷ qs) (g.2 ∙ ap (λ qs. number g.0 ∷ qs) (h.1 ∙ ap (λ qs. word (codes "may") ∷ qs) o.is));
      x_fits = f.3;
      y_fits = g.3;
      fits = o.fits;
      on = o.on;
    }

-- which word comes between rules
rule_or_over :
    (t : Bool) (l : List ℕ) (w : Word) → look true (cond t (TheRule ∷ []) [] ++ (TheOver ∷ [])) l ≡ Some w → ((t ≡ true) × (TheRule ≡ w)) ⊎ (TheOver ≡ w)
rule_or_over true l w e =
    found_cases true TheRule (TheOver ∷ []) l w _ e (λ h u. inl (refl, u)) (λ h. found_cases true TheOver [] l w _ h (λ g u. inr u) (λ g. no_word l w [] _ refl g))
rule_or_over false l w e = found_cases true TheOver [] l w _ e (λ g u. inr u) (λ g. no_word l w [] _ refl g)

set_or_others :
    (b t : Bool) (l : List ℕ) (w : Word) → look true (cond b (TheSet ∷ []) [] ++ (cond t (TheRule ∷ []) [] ++ (TheOver ∷ []))) l ≡ Some w
    → ((b ≡ true) × (TheSet ≡ w)) ⊎ (((t ≡ true) × (TheRule ≡ w)) ⊎ (TheOver ≡ w))
set_or_others true t l w e =
    found_cases true TheSet (cond t (TheRule ∷ []) [] ++ (TheOver ∷ [])) l w _ e (λ h u. inl (refl, u)) (λ h. inr (rule_or_over t l w h))
set_or_others false t l w e = inr (rule_or_over t l w e)

-- the end of rules, whether their count was there or not
pub over_state : (p : Progress) (memory : List ℕ) → (l : ℕ) × (m : List ℕ) × (word_taken TheOver p memory ≡ state (in_expr Terminal 0 p.cells p.rules 0 l 0) m)
over_state p memory =
    cond_both (eqb p.rules 0) _ _ (λ (x : State). (l : ℕ) × (m : List ℕ) × (x ≡ state (in_expr Terminal 0 p.cells p.rules 0 l 0) m))
    (λ e. (p.len + 1, set memory p.len 0, refl)) (λ e. (p.len, memory, refl))

-- the effects that are left of a rule, the rules after it, and what follows them
record RulesThen (c r k : ℕ) (ps : List Piece) (s : State) : Type 0 where
  es : List Effect
  us : List Rule
  qs : List Piece
  r' : ℕ
  len : ℕ
  memory : List ℕ
  is : ps ≡ effects_pieces es ++ (rules_pieces us ++ (word (codes "over") ∷ qs))
  es_fit : effects_fit es ≡ true
  es_few : k + length es < 256
  us_fit : rules_fit us ≡ true
  us_few : r + length us < 256
  on : run (state (in_expr Terminal 0 c r' 0 len 0) memory) qs ≡ Some s

-- rules and what follows them
record RulesOnly (c r : ℕ) (ps : List Piece) (s : State) : Type 0 where
  us : List Rule
  qs : List Piece
  r' : ℕ
  len : ℕ
  memory : List ℕ
  is : ps ≡ rules_pieces us ++ (word (codes "over") ∷ qs)
  us_fit : rules_fit us ≡ true
  us_few : r + length us < 256
  on : run (state (in_expr Terminal 0 c r' 0 len 0) memory) qs ≡ Some s

no_effects : (c r k : ℕ) (ps : List Piece) (s : State) → k < 256 → RulesOnly c r ps s → RulesThen c r k ps s
unfolding effects_pieces effects_fit
no_effects c r k ps s h x = record {
  es = [];
  us = x.us;
  qs = x.qs;
  r' = x.r';
  len = x.len;
  memory = x.memory;
  is = x.is;
  es_fit = refl;
  es_few = omega arith;
  us_fit = x.us_fit;
  us_few = x.us_few;
  on = x.on;
}

over_then :
    (st : Stage) (t : Part) (m c r k l a : ℕ) (memory : List ℕ) (qs : List Piece) (s : State) → r < 256
    → run (word_taken TheOver (at_stage st t m c r k l a) memory) qs ≡ Some s → RulesOnly c r (word (codes "over") ∷ qs) s
unfolding rules_pieces rules_fit
over_then st t m c r k l a memory qs s hr e =
    let o = over_state (at_stage st t m c r k l a) memory in
    record { us = []; qs = qs; r' = r; len = o.0; memory = o.1; is = refl; us_fit = refl; us_few = omega arith; on = ap (λ x. run x qs) (sym o.2) ∙ e }

-- a rule in front of others
rule_then : (c r : ℕ) (ps : List Piece) (s : State) → (b : Body c (r + 1) ps s) → RulesThen c (r + 1) 0 b.rest s → RulesOnly c r (word (codes "rule") ∷ ps) s
unfolding rules_pieces rules_fit rule_fits
rule_then c r ps s b x =
    let u : Rule = record { first_bound = b.x; second_bound = b.y; guard = b.guard; effects = x.es } in
    let tail : List Piece = word (codes "over") ∷ x.qs in
    let flat : expr_pieces b.guard ++ (effects_pieces x.es ++ (rules_pieces x.us ++ tail)) ≡ (expr_pieces b.guard ++ (effects_pieces x.es ++ rules_pieces x.us)) ++ tail =
    simp append_assoc
    in
    let few : length x.es < 256 = omega (arith, x.es_few) in
    record {
      us = u ∷ x.us;
      qs = x.qs;
      r' = x.r';
      len = x.len;
      memory = x.memory;
      is = ap (λ y. word (codes "rule") ∷ y) b.is
          ∙ ap (λ y. word (codes "rule") ∷ number b.x ∷ number b.y ∷ word (codes "may") ∷ y) (ap (λ y. expr_pieces b.guard ++ y) x.is ∙ flat);
      us_fit =
          and_from _ (rules_fit x.us) (and_from _ _ (and_from _ _ b.x_fits b.y_fits) (and_from _ _ b.fits (and_from _ _ (lt-ltb (length x.es) 256 few) x.es_fit))) x.us_fit;
      us_few = omega (arith, x.us_few);
      on = x.on;
    }

-- an effect in front of others
record Pair (c r k : ℕ) (ps : List Piece) (s : State) : Type 0 where
  x : Expr
  y : Expr
  rest : List Piece
  len : ℕ
  place : ℕ
  memory : List ℕ
  is : ps ≡ expr_pieces x ++ (expr_pieces y ++ rest)
  fits : (expr_fits x && expr_fits y) ≡ true
  on : run (state (at_stage Sets Guard 0 c r k len place) memory) rest ≡ Some s

pair_taken : (ps : List Piece) (c r k l a : ℕ) (memory : List ℕ) (s : State) → run (state (in_expr AnEffect 1 c r k l a) memory) ps ≡ Some s → is_end s.at.stage ≡ true → Pair c r k ps s
unfolding exprs_pieces exprs_fit
pair_taken ps c r k l a memory s e z =
    let f = exprs_taken ps AnEffect 1 c r k l a memory s e z in
    let o = two_of f.es f.many in
    let u : List Piece = expr_pieces o.0 in
    let v : List Piece = expr_pieces o.1 in
    let flat : (u ++ (v ++ [])) ++ f.rest ≡ u ++ (v ++ f.rest) = simp append_assoc in
    let both = and_parts (expr_fits o.0) (expr_fits o.1 && true) (ap exprs_fit (sym o.2) ∙ f.fits) in
    record {
      x = o.0;
      y = o.1;
      rest = f.rest;
      len = f.len;
      place = f.place;
      memory = f.memory;
      is = f.is ∙ ap (λ es. exprs_pieces es ++ f.rest) o.2 ∙ flat;
      fits = and_from _ _ both.0 (and_parts (expr_fits o.1) true both.1).0;
      on = f.on;
    }

effect_then : (c r k : ℕ) (ps : List Piece) (s : State) → (d : Pair c r (k + 1) ps s) → RulesThen c r (k + 1) d.rest s → RulesThen c r k (word (codes "set") ∷ ps) s
unfolding effects_pieces effects_fit
effect_then c r k ps s d x =
    let f = and_parts (expr_fits d.x) (expr_fits d.y) d.fits in
    let tail : List Piece = rules_pieces x.us ++ (word (codes "over") ∷ x.qs) in
    let flat : expr_pieces d.x ++ (expr_pieces d.y ++ (effects_pieces x.es ++ tail)) ≡ (expr_pieces d.x ++ (expr_pieces d.y ++ effects_pieces x.es)) ++ tail = simp append_assoc in
    record {
      es = record { cell = d.x; value = d.y } ∷ x.es;
      us = x.us;
      qs = x.qs;
      r' = x.r';
      len = x.len;
      memory = x.memory;
      is = ap (λ y. word (codes "set") ∷ y) (d.is ∙ ap (λ y. expr_pieces d.x ++ (expr_pieces d.y ++ y)) x.is ∙ flat);
      es_fit = and_from _ _ f.0 (and_from _ _ f.1 x.es_fit);
      es_few = omega (arith, x.es_few);
      us_fit = x.us_fit;
      us_few = x.us_few;
      on = x.on;
    }

-- what follows is shorter
body_shorter : (c r : ℕ) (ps : List Piece) (s : State) (b : Body c r ps s) → length b.rest ≤ length ps
body_shorter c r ps s b = omega (arith, ap length b.is, length-append (expr_pieces b.guard) b.rest)

pair_shorter : (c r k : ℕ) (ps : List Piece) (s : State) (d : Pair c r k ps s) → length d.rest ≤ length ps
pair_shorter c r k ps s d =
    omega (arith, ap length d.is, length-append (expr_pieces d.x) (expr_pieces d.y ++ d.rest), length-append (expr_pieces d.y) d.rest)

-- between rules: n is at least as many as there are pieces
rules_taken :
    (n : ℕ) (ps : List Piece) (t : Part) (m c r k l a : ℕ) (memory : List ℕ) (s : State) → length ps ≤ n → k < 256 → r < 256
    → run (state (at_stage Sets t m c r k l a) memory) ps ≡ Some s → is_end s.at.stage ≡ true → RulesThen c r k ps s
rules_taken n [] t m c r k l a memory s h hk hr e z = not_ended (at_stage Sets t m c r k l a) memory s _ refl e z
rules_taken n (number v ∷ qs) t m c r k l a memory s h hk hr e z = no_number v 0 _ refl (number_took (at_stage Sets t m c r k l a) memory v qs s e).0
rules_taken zero (word w ∷ qs) t m c r k l a memory s h hk hr e z = absurd (omega arith)
rules_taken (suc n) (word w ∷ qs) t m c r k l a memory s h hk hr e z =
    let p : Progress = at_stage Sets t m c r k l a in
    let f = word_took p memory w qs s e in
    let spelled = look_same (awaited Sets p) w f.w f.found in
    elim (set_or_others (ltb k 255) (ltb r 255) w f.w f.found) [
      | inl x ↦
          let few = ltb-true k 255 x.0 in
          let d = pair_taken qs c r (k + 1) l a _ s (ap (λ v. run (word_taken v p memory) qs) x.1 ∙ f.on) z in
          subst (λ y. RulesThen c r k (word y ∷ qs) s) (sym (spelled ∙ ap spelling (sym x.1)))
          (effect_then c r k qs s d (rules_taken n d.rest Guard 0 c r (k + 1) d.len d.place d.memory s (omega (arith, pair_shorter c r (k + 1) qs s d)) (omega arith) hr d.on z))
      | inr (inl x) ↦
          let few = ltb-true r 255 x.0 in
          let b = body_taken qs t m c (r + 1) k _ a _ s (ap (λ v. run (word_taken v p memory) qs) x.1 ∙ f.on) z in
          subst (λ y. RulesThen c r k (word y ∷ qs) s) (sym (spelled ∙ ap spelling (sym x.1)))
          (no_effects c r k _ s hk (rule_then c r qs s b
          (rules_taken n b.rest Guard 0 c (r + 1) 0 b.len b.place b.memory s (omega (arith, body_shorter c (r + 1) qs s b)) (omega arith) (omega arith) b.on z)))
      | inr (inr x) ↦
          subst (λ y. RulesThen c r k (word y ∷ qs) s) (sym (spelled ∙ ap spelling (sym x)))
          (no_effects c r k _ s hk (over_then Sets t m c r k l a memory qs s hr (ap (λ v. run (word_taken v p memory) qs) x ∙ f.on)))
    ]

-- cells, rules, and what follows them
record ValuesThen (c : ℕ) (ps : List Piece) (s : State) : Type 0 where
  ns : List ℕ
  rules : List Piece
  c' : ℕ
  is : ps ≡ number_pieces ns ++ rules
  ns_fit : all_below 65536 ns ≡ true
  ns_few : c + length ns < 65536
  left : RulesOnly c' 0 rules s

cell_fits : (v c : ℕ) → ltb v (cond (ltb c 65535) 65536 0) ≡ true → (c < 65535) × (ltb v 65536 ≡ true)
cell_fits v c e = go (ltb c 65535) refl e
  where
    go : (b : Bool) → ltb c 65535 ≡ b → ltb v (cond b 65536 0) ≡ true → (c < 65535) × (ltb v 65536 ≡ true)
    go true t e = (ltb-true c 65535 t, e)
    go false t e = no_number v 0 _ refl e

values_taken :
    (ps : List Piece) (t : Part) (m c k l a : ℕ) (memory : List ℕ) (s : State) → c < 65536 → run (state (at_stage Values t m c 0 k l a) memory) ps ≡ Some s → is_end s.at.stage ≡ true
    → ValuesThen c ps s
unfolding number_pieces all_below
values_taken [] t m c k l a memory s h e z = not_ended (at_stage Values t m c 0 k l a) memory s _ refl e z
values_taken (number v ∷ qs) t m c k l a memory s h e z =
    let f = number_took (at_stage Values t m c 0 k l a) memory v qs s e in
    let g = cell_fits v c f.0 in
    let x = values_taken qs t m (c + 1) k (l + 2) a _ s (omega (arith, g.0)) f.1 z in
    record {
      ns = v ∷ x.ns;
      rules = x.rules;
      c' = x.c';
      is = ap (λ y. number v ∷ y) x.is;
      ns_fit = and_from (ltb v 65536) (all_below 65536 x.ns) g.1 x.ns_fit;
      ns_few = omega (arith, x.ns_few);
      left = x.left;
    }
values_taken (word w ∷ qs) t m c k l a memory s h e z =
    let p : Progress = at_stage Values t m c 0 k l a in
    let f = word_took p memory w qs s e in
    let spelled = look_same (awaited Values p) w f.w f.found in
    let rules : RulesOnly c 0 (word w ∷ qs) s =
    elim (rule_or_over true w f.w f.found) [
      | inl x ↦
          let b = body_taken qs t m c 1 k (l + 1) a _ s (ap (λ v. run (word_taken v p memory) qs) x.1 ∙ f.on) z in
          subst (λ y. RulesOnly c 0 (word y ∷ qs) s) (sym (spelled ∙ ap spelling (sym x.1)))
          (rule_then c 0 qs s b (rules_taken (length b.rest) b.rest Guard 0 c 1 0 b.len b.place b.memory s (omega arith) (omega arith) (omega arith) b.on z))
      | inr x ↦
          subst (λ y. RulesOnly c 0 (word y ∷ qs) s) (sym (spelled ∙ ap spelling (sym x)))
          (over_then Values t m c 0 k l a memory qs s (omega arith) (ap (λ v. run (word_taken v p memory) qs) x ∙ f.on))
    ]
    in
    record { ns = []; rules = word w ∷ qs; c' = c; is = refl; ns_fit = refl; ns_few = omega arith; left = rules }

-- after the payoff nothing comes
end_taken : (p : Progress) (memory : List ℕ) (ps : List Piece) (s : State) → awaited p.stage p ≡ [] → bound p.stage p ≡ 0 → run (state p memory) ps ≡ Some s → ps ≡ []
end_taken p memory [] s a b e = refl
end_taken p memory (number v ∷ qs) s a b e = no_number v (bound p.stage p) _ b (number_took p memory v qs s e).0
end_taken p memory (word l ∷ qs) s a b e = let f = word_took p memory l qs s e in no_word l f.w (awaited p.stage p) _ a f.found

pub game_taken : (ps : List Piece) (old : List ℕ) (s : State) → run (state beginning old) ps ≡ Some s → is_end s.at.stage ≡ true → (g : Game) × (ps ≡ game_pieces g) × (fits_bytes g ≡ true)
unfolding game_pieces fits_bytes
game_taken ps old s e z =
    let f₁ = word_first beginning old ps s Players refl refl refl e z in
    let f₂ = number_first (at_stage PlayersNumber Guard 0 0 0 0 0 0) old f₁.0 s refl refl f₁.2 z in
    let f₃ = word_first (at_stage CellsWord Guard 0 0 0 0 1 0) _ f₂.1 s Cells refl refl refl f₂.4 z in
    let v = values_taken f₃.0 Guard 0 0 0 3 0 _ s (omega arith) f₃.2 z in
    let r = v.left in
    let t = one_taken r.qs Terminal v.c' r.r' 0 r.len 0 r.memory s r.on z in
    let f₄ = word_first (at_stage GainWord Guard 0 v.c' r.r' 0 t.len t.place) t.memory t.rest s Gain refl refl refl t.on z in
    let y = one_taken f₄.0 Payoff v.c' r.r' 0 t.len t.place t.memory s f₄.2 z in
    let last = end_taken (at_stage End Guard 0 v.c' r.r' 0 y.len y.place) y.memory y.rest s refl refl y.on in
    let g : Game = record { players = f₂.0; start = v.ns; rules = r.us; terminal = t.x; payoff = y.x } in
    let cells-few = lt-ltb (length v.ns) 65536 (omega (arith, v.ns_few)) in
    let rules-few = lt-ltb (length r.us) 256 (omega (arith, r.us_few)) in (
      g,
      f₁.1 ∙ ap (λ q. word (codes "players") ∷ q) (f₂.2 ∙ ap (λ q. number f₂.0 ∷ q) (f₃.1 ∙ ap (λ q. word (codes "cells") ∷ q) (v.is ∙ ap (λ q. number_pieces v.ns ++ q)
          (r.is ∙ ap (λ q. rules_pieces r.us ++ (word (codes "over") ∷ q)) (t.is ∙ ap (λ q. expr_pieces t.x ++ q) (f₄.1 ∙ ap (λ q. word (codes "gain") ∷ q)
          (y.is ∙ ap (λ q. expr_pieces y.x ++ q) last ∙ append-nil (expr_pieces y.x)))))))),
      and_from _ _ (and_from _ _ f₂.3 (and_from _ _ cells-few v.ns_fit)) (and_from _ _ (and_from _ _ rules-few r.us_fit) (and_from _ _ t.fits y.fits)),
    )
