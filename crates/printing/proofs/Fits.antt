-- What fits in a rule and in a game, part by part.
use Rattle.std.proofs.Common.{◌≡◌, ◌<◌, true, ◌&&◌, ltb, length}
use Rattle.std.proofs.lemmas.Bool.{and_parts, ltb-true}
use Rattle.rules.specs.Rules.{Rule, Game}
use Rattle.rules.specs.Bounds.{all_below}
use Rattle.wire.specs.Exprs.{expr_fits}
use Rattle.wire.specs.Games.{effects_fit, rule_fits, rules_fit, fits_bytes}

pub record RuleFits (u : Rule) : Type 0 where
  pub first : u.first_bound < 65536
  pub second : u.second_bound < 65536
  pub guard : expr_fits u.guard ≡ true
  pub count : length u.effects < 256
  pub effects : effects_fit u.effects ≡ true

pub rule_parts : (u : Rule) → rule_fits u ≡ true → RuleFits u
unfolding rule_fits
rule_parts u h =
    let a = u.first_bound in
    let b = u.second_bound in
    let n = length u.effects in
    let f = and_parts (ltb a 65536 && ltb b 65536) (expr_fits u.guard && (ltb n 256 && effects_fit u.effects)) h in
    let ab = and_parts (ltb a 65536) (ltb b 65536) f.0 in
    let g = and_parts (expr_fits u.guard) (ltb n 256 && effects_fit u.effects) f.1 in
    let e = and_parts (ltb n 256) (effects_fit u.effects) g.1 in
    record { first = ltb-true a 65536 ab.0; second = ltb-true b 65536 ab.1; guard = g.0; count = ltb-true n 256 e.0; effects = e.1 }

pub record GameFits (g : Game) : Type 0 where
  pub players : g.players < 256
  pub size : length g.start < 65536
  pub start : all_below 65536 g.start ≡ true
  pub count : length g.rules < 256
  pub rules : rules_fit g.rules ≡ true
  pub terminal : expr_fits g.terminal ≡ true
  pub payoff : expr_fits g.payoff ≡ true

pub game_parts : (g : Game) → fits_bytes g ≡ true → GameFits g
unfolding fits_bytes
game_parts g h =
    let p = g.players in
    let n = length g.start in
    let m = length g.rules in
    let f = and_parts (ltb p 256 && (ltb n 65536 && all_below 65536 g.start)) ((ltb m 256 && rules_fit g.rules) && (expr_fits g.terminal && expr_fits g.payoff)) h in
    let f₁ = and_parts (ltb p 256) (ltb n 65536 && all_below 65536 g.start) f.0 in
    let f₂ = and_parts (ltb n 65536) (all_below 65536 g.start) f₁.1 in
    let f₃ = and_parts (ltb m 256 && rules_fit g.rules) (expr_fits g.terminal && expr_fits g.payoff) f.1 in
    let f₄ = and_parts (ltb m 256) (rules_fit g.rules) f₃.0 in
    let f₅ = and_parts (expr_fits g.terminal) (expr_fits g.payoff) f₃.1 in
    record {
      players = ltb-true p 256 f₁.0;
      size = ltb-true n 65536 f₂.0;
      start = f₂.1;
      count = ltb-true m 256 f₄.0;
      rules = f₄.1;
      terminal = f₅.0;
      payoff = f₅.1;
    }
