-- Loading rules, one after the other.
use Rattle.std.proofs.Common.{◌≡◌, ℕ, suc, ◌+◌, ◌-◌, ◌*◌, ◌<◌, ◌≤◌, true, ◌&&◌, leb, List, [], ◌∷◌, length, Some, None, Option, sym, refl, ap, ◌∙◌, subst, arith}
use Rattle.std.proofs.lemmas.Bool.{and_parts, and_from}
use Rattle.rules.specs.Rules.{Rule}
use Rattle.rules.specs.Bounds.{fits_depth, good_effects, good_rules}
use Rattle.wire.specs.Exprs.{got}
use Rattle.wire.specs.Games.{read_rule, read_rules}
use Rattle.wire.proofs.ExprsBack.{with_got, same_got}
use Rattle.rows.specs.declared.loading.End.{End}
use Rattle.rows.specs.Layout.{rule_at_word, rules_at}
use Rattle.rows.specs.Load.{rule_words, rules_words, Placed, Places, RuleThere, RulesThere, PlacesRule, PlacesRules}
use Rattle.rows.proofs.LoadPlaced.{placed_both, nothing_placed}

-- no rule is to come
pub no_rules : (n row : ℕ) (xs : List ℕ) (e : End) → n ≡ 0 → PlacesRules e.rest.now n xs xs row e.next (Some e)
unfolding rules_at read_rules rules_words
no_rules n row xs e z us q before there =
    let f = same_got [] us e.rest.now q (sym (ap (λ k. read_rules k e.rest.now) z) ∙ there.reads) in
    nothing_placed (List Rule) (λ m. rules_at m row n) us (rules_words us) q row (5 * n) xs e (λ m. ap (rules_at m row) z ∙ f.0)
    (sym (ap rules_words f.0)) (sym f.1)

-- the first rule, and then the others
record Split (bs : List ℕ) (n : ℕ) (us : List Rule) (q : List ℕ) : Type 0 where
  first : Rule
  others : List Rule
  rest : List ℕ
  all : us ≡ first ∷ others
  reads_first : read_rule bs ≡ got first rest
  reads_others : read_rules n rest ≡ got others q

-- several rules are one and others
split : (bs : List ℕ) (n : ℕ) (us : List Rule) (q : List ℕ) → 0 < n → read_rules n bs ≡ got us q → Split bs (n - 1) us q
unfolding read_rules
split bs n us q some h =
    let e : suc (n - 1) ≡ n = omega arith in
    with_got (read_rule bs) _ us q _ (ap (λ k. read_rules k bs) e ∙ h) (λ u r e₁ h₁. with_got (read_rules (n - 1) r) _ us q _ h₁ (λ vs s e₂ h₂.
    let x = same_got (u ∷ vs) us s q h₂ in
    record { first = u; others = vs; rest = r; all = sym x.0; reads_first = e₁; reads_others = e₂ ∙ ap (got vs) x.1 }))

-- if all are good, so is the first, and so are the others
good_both : (u : Rule) (us : List Rule) → good_rules (u ∷ us) ≡ true → (good_rules (u ∷ []) ≡ true) × (good_rules us ≡ true)
unfolding good_rules
good_both u us h =
    let p = and_parts ((leb u.first_bound 256 && leb u.second_bound 256) && leb (length u.effects) 255) _ h in
    let q = and_parts (fits_depth u.guard 32) _ p.1 in
    let r = and_parts (good_effects u.effects) _ q.1 in
    (and_from _ _ p.0 (and_from _ _ q.0 (and_from _ _ r.0 refl)), r.1)

-- the words of all are those of the first and of the others
words_both : (u : Rule) (us : List Rule) → rules_words (u ∷ us) ≡ rule_words u + rules_words us
unfolding rules_words
words_both u us = refl

-- the first rule in memory, and the others
rules_more : (m : List ℕ) (i n : ℕ) → 0 < n → rules_at m i n ≡ rule_at_word m i ∷ rules_at m (i + 5) (n - 1)
unfolding rules_at
rules_more m i n some = let e : n ≡ suc (n - 1) = omega arith in ap (rules_at m i) e

-- good rules that can be read, and have room
module _
    (bs : List ℕ) (n row at : ℕ) (xs : List ℕ) (some : 0 < n) (us : List Rule) (q : List ℕ) (before : row + 5 * n ≤ at)
    (there : RulesThere bs n at (length xs) us q)
  where
    -- the first rule, and the others
    parted : Split bs (n - 1) us q
    parted = split bs n us q some there.reads

    -- both are good
    good : (good_rules (parted.first ∷ []) ≡ true) × (good_rules parted.others ≡ true)
    good = good_both parted.first parted.others (ap good_rules (sym parted.all) ∙ there.fit)

    -- their words, together
    words : rules_words us ≡ rule_words parted.first + rules_words parted.others
    words = ap rules_words parted.all ∙ words_both parted.first parted.others

    -- the first rule is there
    first_there : RuleThere bs at (length xs) parted.first parted.rest
    first_there = record { reads = parted.reads_first; fit = good.0; enough = omega (arith, words, there.enough); small = there.small }

    -- so it is not refused
    pub not_refused : (ys : List ℕ) → PlacesRule bs xs ys row at None → ⊥
    not_refused ys refused = refused parted.first parted.rest (omega arith) first_there

    -- with the others loaded after it, all are
    all_loaded :
        (ys zs : List ℕ) (d : End) (r : Option End) → length ys ≡ length xs → PlacesRule bs xs ys row at (Some d)
        → PlacesRules d.rest.now (n - 1) ys zs (row + 5) d.next r → Places (List Rule) (λ m. rules_at m row n) us (rules_words us) q row (5 * n) at xs zs r
    all_loaded ys zs d r size one more =
        go r (more parted.others q (omega (arith, placed.ends)) (record {
          reads = ap (read_rules (n - 1)) (sym placed.left) ∙ parted.reads_others;
          fit = good.1;
          enough = omega (arith, placed.ends, words, there.enough);
          small = omega (arith, there.small);
        }))
      where
        placed : Placed Rule (λ m. rule_at_word m row) parted.first (rule_words parted.first) parted.rest row 5 at xs ys d
        placed = one parted.first parted.rest (omega arith) first_there

        go : (r : Option End)
            → Places (List Rule) (λ m. rules_at m (row + 5) (n - 1)) parted.others (rules_words parted.others) q (row + 5) (5 * (n - 1)) d.next ys zs r
            → Places (List Rule) (λ m. rules_at m row n) us (rules_words us) q row (5 * n) at xs zs r
        go None h = h
        go (Some e) h =
            placed_both Rule (List Rule) (List Rule) (λ m. rule_at_word m row) (λ m. rules_at m (row + 5) (n - 1)) (λ m. rules_at m row n) parted.first
            parted.others us (rule_words parted.first) (rules_words parted.others) (rules_words us) parted.rest q row 5 (5 * (n - 1)) (5 * n)
            at xs ys zs d e (λ m a b. rules_more m row n some ∙ (λ i. a i ∷ b i) ∙ sym parted.all) words (omega arith) before placed h

-- one rule is loaded, and the others after it
pub rules_next :
    (bs : List ℕ) (n row at : ℕ) (xs ys zs : List ℕ) (d : End) (r : Option End) → 0 < n → length ys ≡ length xs → PlacesRule bs xs ys row at (Some d)
    → PlacesRules d.rest.now (n - 1) ys zs (row + 5) d.next r → PlacesRules bs n xs zs row at r
rules_next bs n row at xs ys zs d r some size one more us q before there = all_loaded bs n row at xs some us q before there ys zs d r size one more

-- the same, said of equal numbers
pub rules_counted :
    (bs xs zs : List ℕ) (at : ℕ) (r : Option End) {m n i j : ℕ} → m ≡ n → i ≡ j → PlacesRules bs m xs zs i at r → PlacesRules bs n xs zs j at r
rules_counted bs xs zs at r {n = n} {i = i} e f h = subst (λ t. PlacesRules bs n xs zs t at r) f (subst (λ c. PlacesRules bs c xs zs i at r) e h)
