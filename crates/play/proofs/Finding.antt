-- How the next legal move is found, and whether there is any.
use Rattle.std.proofs.Common.{◌≡◌, ℕ, ◌+◌, ◌<◌, true, false, not, List, [], ◌∷◌, ◌++◌, length, Some, None, Option, is_some, Bool, sym, refl, ap, ◌∙◌, arith}
use Rattle.std.proofs.lemmas.Bool.{ne_eqb}
use Rattle.rules.specs.declared.Move.{Move}
use Rattle.rules.specs.Rules.{Position, Game, rule_at, turn, eval, is_legal}
use Rattle.rules.specs.Play.{legal_moves, is_over}
use Rattle.eval.specs.Memory.{expr_at}
use Rattle.rows.specs.Layout.{game_at}
use Rattle.play.specs.Cursor.{move, seconds_from, firsts_from, rules_from, moves_from, after, Begins, Finds}
use Rattle.play.proofs.Steps.{second_more, first_more, rule_more, from_first, of_all_rules}

-- what is found in a list is found in one that is equal
pub begins_like : {g : Game} {p : Position} {v : Move} {vs ws : List Move} → vs ≡ ws → Begins g p ws v → Begins g p vs v
begins_like e b = record { first = e ∙ b.first; fits = b.fits }

pub finds_like : (g : Game) (p : Position) (o : Option Move) {vs ws : List Move} → vs ≡ ws → Finds g p ws ws o → Finds g p vs vs o
finds_like g p None e f = e ∙ f
finds_like g p (Some v) e f = begins_like e f

-- Second numbers, by whether the move is legal.
module _ (g : Game) (p : Position) (r x y : ℕ) (hy : y < (rule_at g r).second_bound) where
  pub second_skipped : false ≡ is_legal g p (move r x y) → seconds_from g p r x (y + 1) ≡ seconds_from g p r x y
  second_skipped e = sym (second_more g p r x y hy ∙ rw (← e) refl)

  pub second_next : true ≡ is_legal g p (move r x y) → seconds_from g p r x y ≡ move r x y ∷ seconds_from g p r x (y + 1)
  second_next e = second_more g p r x y hy ∙ rw (← e) refl

  pub second_found : (z : ℕ) → true ≡ is_legal g p (move r x y) → seconds_from g p r x y ≡ seconds_from g p r x z
      → moves_from g p (move r x z) ≡ move r x y ∷ moves_from g p (move r x (y + 1))
  unfolding moves_from
  second_found z e inv = ap (λ vs. vs ++ (firsts_from g p r (x + 1) ++ rules_from g p (r + 1))) (sym inv ∙ second_next e)

module _ (g : Game) (p : Position) (r : ℕ) where
  -- first numbers
  pub first_skipped : (x : ℕ) → x < (rule_at g r).first_bound → seconds_from g p r x 0 ≡ [] → firsts_from g p r (x + 1) ≡ firsts_from g p r x
  first_skipped x h e = sym (first_more g p r x h ∙ rw e refl)

  pub first_found : (x z : ℕ) {v : Move} → x < (rule_at g r).first_bound → firsts_from g p r x ≡ firsts_from g p r z
      → Begins g p (moves_from g p (move r x 0)) v → Begins g p (firsts_from g p r z ++ rules_from g p (r + 1)) v
  first_found x z h inv f = begins_like (ap (λ vs. vs ++ rules_from g p (r + 1)) (sym inv) ∙ sym (from_first g p r x h)) f

  -- rules
  pub rule_skipped : r < length g.rules → firsts_from g p r 0 ≡ [] → rules_from g p (r + 1) ≡ rules_from g p r
  rule_skipped h e = sym (rule_more g p r h ∙ rw e refl)

  pub rule_found : (z : ℕ) {v : Move} → r < length g.rules → rules_from g p r ≡ rules_from g p z
      → Begins g p (firsts_from g p r 0 ++ rules_from g p (r + 1)) v → Begins g p (rules_from g p z) v
  rule_found z h inv f = begins_like (sym inv ∙ rule_more g p r h) f

-- where the rule of a move has none from it on, or none with its first number
module _ (g : Game) (p : Position) (v : Move) where
  pub none_of_first : seconds_from g p v.rule v.first v.second ≡ []
      → moves_from g p v ≡ firsts_from g p v.rule (v.first + 1) ++ rules_from g p (v.rule + 1)
  unfolding moves_from
  none_of_first e = rw e refl

  pub none_of_rule : seconds_from g p v.rule v.first v.second ≡ [] → firsts_from g p v.rule (v.first + 1) ≡ []
      → moves_from g p v ≡ rules_from g p (v.rule + 1)
  none_of_rule e f = none_of_first e ∙ rw f refl

-- Whether a game is over: a is the value of its terminal, at i.
module _ (m p : List ℕ) (i : ℕ) {me a : ℕ} (t : expr_at m i ≡ (game_at m).terminal) (em : me ≡ turn (game_at m) p)
    (ea : a ≡ eval (expr_at m i) p 0 0 me) where
  terminal_is : a ≡ eval (game_at m).terminal p 0 0 (turn (game_at m) p)
  terminal_is = ea ∙ rw (t, em) refl

  pub over_by_terminal : (a ≡ 0 → ⊥) → true ≡ is_over (game_at m) p
  unfolding is_over
  over_by_terminal h = let e = ne_eqb _ 0 (λ z. h (terminal_is ∙ z)) in rw e refl

  over_by_moves : a ≡ 0 → rules_from (game_at m) p 0 ≡ [] → true ≡ is_over (game_at m) p
  unfolding is_over
  over_by_moves z e = let l : legal_moves (game_at m) p ≡ [] = sym (of_all_rules (game_at m) p) ∙ e in rw (sym terminal_is ∙ z, l) refl

  goes_on : {v : Move} → a ≡ 0 → Begins (game_at m) p (rules_from (game_at m) p 0) v → false ≡ is_over (game_at m) p
  unfolding is_over
  goes_on {v} z f =
      let l : legal_moves (game_at m) p ≡ v ∷ moves_from (game_at m) p (after v) = sym (of_all_rules (game_at m) p) ∙ f.first in
      rw (sym terminal_is ∙ z, l) (sym (ne_eqb (length (v ∷ moves_from (game_at m) p (after v))) 0 (λ e. omega arith)))

  -- where the terminal does not say so, it is over if no move is found
  pub over_by_search : a ≡ 0 → (found : Option Move)
      → Finds (game_at m) p (rules_from (game_at m) p 0) (rules_from (game_at m) p 0) found → (b : Bool) → is_some found ≡ not b → b ≡ is_over (game_at m) p
  over_by_search z None e true h = over_by_moves z e
  over_by_search z None e false h = cc
  over_by_search z (Some v) f true h = cc
  over_by_search z (Some v) f false h = goes_on z f
