-- The sorts of things of which several stand one after the other in a game. No reader has to believe these: the contract of the whole does not name them.
use Rattle.std.specs.Prelude.{◌≡◌, ℕ, Bool, true, ◌&&◌, List, [], ◌∷◌, ◌++◌, codes, decimal, nat_lt, refl}
use Rattle.std.proofs.Common.{sym, append_assoc}
use Rattle.std.proofs.lemmas.Bool.{and_parts, and_from}
use Rattle.rules.specs.Rules.{Effect, Rule}
use Rattle.rules.specs.Bounds.{all_below}
use Rattle.wire.specs.Numbers.{number_bytes}
use Rattle.wire.specs.Exprs.{expr_bytes, expr_fits}
use Rattle.wire.specs.Games.{cells_bytes, effects_bytes, rule_bytes, rules_bytes, effects_fit, rule_fits, rules_fit}
use Rattle.text.specs.Grammar.{number}
use Rattle.game_text.specs.Text.{expr_pieces, number_pieces}
use Rattle.printing.specs.Games.{spaced, numbers_text, line, printed_effects, printed_rules}

-- one thing: its bytes, whether it fits, and its text; and the same of several
pub record Form (X : Type 0) : Type 0 where
  pub bytes : X → List ℕ
  pub fits : X → Bool
  pub text : X → List ℕ
  pub all_bytes : List X → List ℕ
  pub all_fit : List X → Bool
  pub all_text : List X → List ℕ

abbrev pub Sort : Type 1
Sort = (X : Type 0) × Form X

-- how several are made of single ones
pub record SortLaws (s : Sort) : Type 0 where
  pub no_bytes : s.1.all_bytes [] ≡ []
  pub no_text : s.1.all_text [] ≡ []
  pub more_bytes : (x : s.0) (xs : List s.0) → s.1.all_bytes (x ∷ xs) ≡ s.1.bytes x ++ s.1.all_bytes xs
  pub more_text : (x : s.0) (xs : List s.0) → s.1.all_text (x ∷ xs) ≡ s.1.text x ++ s.1.all_text xs
  pub more_fit : (x : s.0) (xs : List s.0) → s.1.all_fit (x ∷ xs) ≡ true → (s.1.fits x ≡ true) × (s.1.all_fit xs ≡ true)

-- numbers of two bytes
abbrev pub cells : Sort
cells = (
  ℕ,
  record {
    bytes = number_bytes 2;
    fits = λ n. nat_lt n 65536;
    text = λ n. 32 ∷ decimal n;
    all_bytes = cells_bytes;
    all_fit = all_below 65536;
    all_text = numbers_text;
  },
)

abbrev pub effect_bytes : Effect → List ℕ
effect_bytes e = expr_bytes e.cell ++ expr_bytes e.value

abbrev pub effect_fits : Effect → Bool
effect_fits e = expr_fits e.cell && expr_fits e.value

abbrev pub effect_text : Effect → List ℕ
effect_text e = line (codes "  set") (expr_pieces e.cell ++ expr_pieces e.value)

abbrev pub effects : Sort
effects = (
  Effect,
  record {
    bytes = effect_bytes;
    fits = effect_fits;
    text = effect_text;
    all_bytes = effects_bytes;
    all_fit = effects_fit;
    all_text = printed_effects;
  },
)

abbrev pub rule_text : Rule → List ℕ
rule_text u =
    line (codes "rule") (number u.first_bound ∷ number u.second_bound ∷ [])
    ++ (line (codes "  may") (expr_pieces u.guard) ++ printed_effects u.effects)

abbrev pub rules : Sort
rules = (
  Rule,
  record { bytes = rule_bytes; fits = rule_fits; text = rule_text; all_bytes = rules_bytes; all_fit = rules_fit; all_text = printed_rules },
)

pub cells_laws : SortLaws cells
unfolding cells_bytes all_below spaced number_pieces
cells_laws = record {
  no_bytes = refl;
  no_text = refl;
  more_bytes = λ x xs. refl;
  more_text = λ x xs. refl;
  more_fit = λ x xs h. and_parts (nat_lt x 65536) (all_below 65536 xs) h;
}

pub effects_laws : SortLaws effects
unfolding effects_bytes effects_fit printed_effects
effects_laws = record {
  no_bytes = refl;
  no_text = refl;
  more_bytes = λ e es. sym (append_assoc (expr_bytes e.cell) (expr_bytes e.value) (effects_bytes es));
  more_text = λ e es. refl;
  more_fit =
      λ e es h.
      let p = and_parts (expr_fits e.cell) (expr_fits e.value && effects_fit es) h in
      let q = and_parts (expr_fits e.value) (effects_fit es) p.1 in
      (and_from (expr_fits e.cell) (expr_fits e.value) p.0 q.0, q.1);
}

pub rules_laws : SortLaws rules
unfolding rules_bytes rules_fit printed_rules
rules_laws = record {
  no_bytes = refl;
  no_text = refl;
  more_bytes = λ u us. refl;
  more_text = λ u us. simp append_assoc;
  more_fit = λ u us h. and_parts (rule_fits u) (rules_fit us) h;
}
