-- Rules one after the other, and what they have together.
use Rattle.std.proofs.Common.{◌≡◌, ℕ, zero, suc, ◌+◌, nat_lt, Bool, true, false, cond, not, ◌&&◌, ◌||◌, List, [], ◌∷◌, length, Some, None, Option, sym, refl, ap, ◌∙◌, add-zero, arith}
use Rattle.std.specs.Option.{option_or}
use Rattle.std.proofs.Math.Bool.{or-false}
use Rattle.rules.specs.Rules.{Rule}
use Rattle.rules.specs.Bounds.{fits_depth, rule_parts, possible_moves, good_effects}
use Rattle.wire.specs.declared.excesses.Excess.TheVariants.{FirstBound, SecondBound}
use Rattle.wire.specs.declared.walks.Totals.{Totals}
use Rattle.wire.specs.Exprs.{Parsed, got, unreadable, and_then}
use Rattle.wire.specs.Excess.{bound_excess, shallow_rules}
use Rattle.wire.specs.Games.{read_rule, read_rules, total_effects}
use Rattle.wire.specs.GamesWalk.{as_read, plus, totals_of, one_total}
use Rattle.wire.proofs.ExprsBack.{then_got, same_got}
use Rattle.wire.proofs.GamesHead.{none_read, was_read}

-- what was read is added to what was found before
abbrev pub added : Totals → ℕ → Parsed (List Rule) → Parsed Totals
added t k p = as_read (λ us. plus t (totals_of k us)) p

or_none : {X : Type 0} (o : Option X) → option_or o None ≡ o
or_none None = refl
or_none (Some x) = refl

pub added_end : (t : Totals) (k : ℕ) (r : List ℕ) → added t k (read_rules 0 r) ≡ got t r
unfolding read_rules total_effects possible_moves rule_parts bound_excess shallow_rules
added_end t k r = λ i.
    got (record { effects = add-zero t.effects i; moves = add-zero t.moves i; parts = add-zero t.parts i; bound = or_none t.bound i; deep = or-false t.deep i }) r

or_more :
    {X : Type 0} (o : Option X) (a b : Bool) (x y : X) (p : Option X)
    → option_or o (cond a (Some x) (cond b (Some y) p)) ≡ option_or (option_or o (cond a (Some x) (cond b (Some y) None))) p
or_more (Some z) a b x y p = refl
or_more None true b x y p = refl
or_more None false true x y p = refl
or_more None false false x y p = refl

deep_more : (d s t : Bool) → (d || not (s && t)) ≡ ((d || not (s && true)) || not t)
deep_more true s t = refl
deep_more false true t = refl
deep_more false false t = refl

plus_more : (t : Totals) (k : ℕ) (u : Rule) (us : List Rule) → plus t (totals_of k (u ∷ us)) ≡ plus (plus t (one_total k u)) (totals_of (k + 1) us)
unfolding total_effects possible_moves rule_parts bound_excess shallow_rules
plus_more t k u us =
    let a = totals_of k (u ∷ us) in
    let b = plus t (one_total k u) in
    let c = totals_of (k + 1) us in
    let effects : t.effects + a.effects ≡ b.effects + c.effects = omega arith in
    let moves : t.moves + a.moves ≡ b.moves + c.moves = omega arith in
    let parts : t.parts + a.parts ≡ b.parts + c.parts = omega arith in
    λ i. record {
      effects = effects i;
      moves = moves i;
      parts = parts i;
      bound = or_more t.bound (nat_lt 256 u.first_bound) (nat_lt 256 u.second_bound) (FirstBound k u.first_bound) (SecondBound k u.second_bound) (bound_excess (k + 1) us) i;
      deep = deep_more t.deep (fits_depth u.guard 32 && good_effects u.effects) (shallow_rules us) i;
    }

module _ (bs : List ℕ) (k m : ℕ) where
  pub no_rule : unreadable ≡ as_read (one_total k) (read_rule bs) → read_rules (suc m) bs ≡ unreadable
  unfolding read_rules
  no_rule h = ap (λ p. and_then p (λ u r. and_then (read_rules m r) (λ us q. got (u ∷ us) q))) (none_read (one_total k) (read_rule bs) h)

  pub added_step :
      (t one : Totals) (r : List ℕ) → got one r ≡ as_read (one_total k) (read_rule bs)
      → added t k (read_rules (suc m) bs) ≡ added (plus t one) (k + 1) (read_rules m r)
  unfolding read_rules
  added_step t one r h =
      let x = was_read (one_total k) (read_rule bs) one r h in
      let u = x.0 in
      ap (λ p. added t k (and_then p (λ u r. and_then (read_rules m r) (λ us q. got (u ∷ us) q)))) x.1
      ∙ go u (read_rules m r) ∙ ap (λ o. added (plus t o) (k + 1) (read_rules m r)) (sym x.2)
    where
      go : (u : Rule) (p : Parsed (List Rule)) → added t k (and_then p (λ us q. got (u ∷ us) q)) ≡ added (plus t (one_total k u)) (k + 1) p
      go u unreadable = refl
      go u (got us q) = ap (λ o. got o q) (plus_more t k u us)

pub rules_sized : (n : ℕ) (bs : List ℕ) (us : List Rule) (r : List ℕ) → read_rules n bs ≡ got us r → length us ≡ n
unfolding read_rules
rules_sized zero bs us r h = sym (ap length (same_got [] us bs r h).0)
rules_sized (suc n) bs us r h =
    let a = then_got (read_rule bs) _ us r h in
    let b = then_got (read_rules n a.1) _ us r a.3 in
    sym (ap length (same_got (a.0 ∷ b.0) us b.1 r b.3).0) ∙ ap suc (rules_sized n a.1 b.0 b.1 b.2)
