-- One move: from the words that are read to the meaning.
use Rattle.std.proofs.Common.{◌≡◌, ℕ, ◌<◌, ◌≤◌, true, false, not, eqb, ltb, List, length, sym, refl, ap, ◌∙◌, arith}
use Rattle.std.proofs.lemmas.List.{get_or_past}
use Rattle.std.proofs.lemmas.Bool.{lt-ltb, le-ltb, and_left}
use Rattle.std.proofs.lemmas.Bool.Decides.{nat_tests}
use Rattle.rules.specs.declared.Move.{Move}
use Rattle.rules.specs.Rules.{Position, Game, no_rule, rule_at, turn, eval, is_legal, apply, apply_effects}
use Rattle.rules.specs.Play.{payoff}
use Rattle.eval.specs.Memory.{expr_at}
use Rattle.rows.specs.Layout.{effects_at, game_at}
use Rattle.rows.specs.Reading.{IsRule}
use Rattle.rows.specs.declared.read.RuleRow.{RuleRow}

-- Whether a move is legal.
module _ (g : Game) (p : Position) (v : Move) where
  -- a move of a rule that is not there, or whose numbers are not below the bounds
  pub no_such_rule : length g.rules ≤ v.rule → false ≡ is_legal g p v
  unfolding is_legal
  no_such_rule h = sym (and_left _ _ (le-ltb v.rule (length g.rules) h))

  pub first_past : (rule_at g v.rule).first_bound ≤ v.first → false ≡ is_legal g p v
  unfolding is_legal
  first_past h = grind (arith, nat_tests)

  pub second_past : (rule_at g v.rule).second_bound ≤ v.second → false ≡ is_legal g p v
  unfolding is_legal
  second_past h = grind (arith, nat_tests)

  -- any other move is legal where its rule's guard is not 0
  pub by_guard : {me a : ℕ} → v.rule < length g.rules → v.first < (rule_at g v.rule).first_bound → v.second < (rule_at g v.rule).second_bound
      → me ≡ turn g p → a ≡ eval (rule_at g v.rule).guard p v.first v.second me → not (eqb a 0) ≡ is_legal g p v
  unfolding is_legal
  by_guard hr hx hy em ea =
      let tr : ltb v.rule (length g.rules) ≡ true = lt-ltb _ _ hr in
      let tx : ltb v.first (rule_at g v.rule).first_bound ≡ true = lt-ltb _ _ hx in
      let ty : ltb v.second (rule_at g v.rule).second_bound ≡ true = lt-ltb _ _ hy in
      rw (tr, tx, ty, ea, em) refl

module _ (m p : List ℕ) (v : Move) where
  -- what a move does
  pub played : {row : RuleRow} {me : ℕ} {q : List ℕ} → IsRule m v.rule row → me ≡ turn (game_at m) p
      → q ≡ apply_effects (effects_at m row.effects_at row.effects) p v.first v.second me → q ≡ apply (game_at m) p v
  unfolding apply
  played {row} u em eq =
      let ee : effects_at m row.effects_at row.effects ≡ (rule_at (game_at m) v.rule).effects = ap (λ w. w.effects) u.same in
      eq ∙ rw (em, ee) refl

  pub nothing_happens : length (game_at m).rules ≤ v.rule → p ≡ apply (game_at m) p v
  unfolding apply apply_effects
  nothing_happens h = rw (get_or_past (game_at m).rules v.rule no_rule h) refl

-- what a player has gained
pub gained : (m p : List ℕ) (i n : ℕ) {a : ℕ} → expr_at m i ≡ (game_at m).payoff → a ≡ eval (expr_at m i) p 0 0 n → a ≡ payoff (game_at m) p n
unfolding payoff
gained m p i n e ea = ea ∙ rw e refl
