-- How deep expressions are, found by passing over them level by level.
use Rattle.std.proofs.Common.{◌≡◌, ℕ, suc, ◌+◌, Bool, true, false, cond, ◌&&◌, List, [], ◌∷◌, ◌++◌, length, Some, None, sym, refl, ap, ◌∙◌, arith}
use Rattle.std.specs.Prelude.{option_and_then}
use Rattle.std.proofs.lemmas.List.{take_at, drop_at}
use Rattle.rules.specs.Rules.{Expr}
use Rattle.rules.specs.Bounds.{fits_depth, all_below}
use Rattle.wire.specs.Exprs.{Parsed, got, unreadable, and_then, Kind, join, read_exprs}
use Rattle.wire.specs.GamesWalk.{as_read, read_head, arity_of, within_levels, behind}
use Rattle.wire.proofs.Exprs.{joined}
use Rattle.wire.proofs.ExprsBack.{sized, reads_in_turns}
use Rattle.wire.proofs.GamesBack.{exprs_wrote}
use Rattle.wire.proofs.GamesHead.{head_levels, by_parts}

pub no_level : (m : ℕ) (bs : List ℕ) → None ≡ behind 0 (read_exprs (suc m) bs)
unfolding within_levels
no_level m bs = go (read_exprs (suc m) bs) refl
  where
    go : (p : Parsed (List Expr)) → read_exprs (suc m) bs ≡ p → None ≡ behind 0 p
    go unreadable e = refl
    go (got [] q) e = let s = sized (suc m) bs [] q e in absurd (omega arith)
    go (got (x ∷ es) q) e = refl

module _ (bs : List ℕ) (n : ℕ) (r : List ℕ) (m l : ℕ) (small : all_below 256 bs ≡ true) (head : got n r ≡ as_read arity_of (read_head bs)) where
  -- its parts first, then the expressions after it
  in_parts :
      (k : Kind) → n ≡ k.arity → ((m : ℕ) → read_exprs (suc m) bs ≡ joined k (read_exprs (n + m) r))
      → read_exprs (suc m) bs ≡ and_then (read_exprs n r) (λ gs q. and_then (read_exprs m q) (λ hs s. got (k.make gs ∷ hs) s))
  unfolding join
  in_parts k is reads = reads m ∙ ap (joined k) (reads_in_turns n m r) ∙ go (read_exprs n r) refl
    where
      after : (gs : List Expr) → length gs ≡ k.arity → (p : Parsed (List Expr))
          → joined k (and_then p (λ hs s. got (gs ++ hs) s)) ≡ and_then p (λ hs s. got (k.make gs ∷ hs) s)
      after gs len (got hs s) = λ x. got (k.make (take_at gs hs k.arity len x) ∷ drop_at gs hs k.arity len x) s
      after gs len unreadable = refl

      go : (p : Parsed (List Expr)) → read_exprs n r ≡ p
          → joined k (and_then p (λ gs q. and_then (read_exprs m q) (λ hs s. got (gs ++ hs) s)))
          ≡ and_then p (λ gs q. and_then (read_exprs m q) (λ hs s. got (k.make gs ∷ hs) s))
      go (got gs q) e = after gs ((sized n r gs q e).0 ∙ is) (read_exprs m q)
      go unreadable e = refl

  -- an expression has at most a level more than its parts
  behind_step : behind (suc l) (read_exprs (suc m) bs) ≡ option_and_then (λ q. behind (suc l) (read_exprs m q)) (behind l (read_exprs n r))
  unfolding within_levels
  behind_step =
      let x = by_parts bs n r head in
      ap (behind (suc l)) (in_parts x.0 x.2 x.3) ∙ go x.0 x.2 (head_levels bs x.0 r small x.1).0 (read_exprs n r) refl
    where
      one : (k : Kind) (gs : List Expr) (t : Bool) (q : List ℕ) → fits_depth (k.make gs) l ≡ t → (p : Parsed (List Expr)) → read_exprs m q ≡ p
          → behind (suc l) (and_then p (λ hs s. got (k.make gs ∷ hs) s)) ≡ option_and_then (λ q. behind (suc l) (read_exprs m q)) (cond t (Some q) None)
      one k gs true q h (got hs s) e = ap (λ b. cond (b && within_levels (suc l) hs) (Some s) None) h ∙ sym (ap (behind (suc l)) e)
      one k gs true q h unreadable e = sym (ap (behind (suc l)) e)
      one k gs false q h (got hs s) e = ap (λ b. cond (b && within_levels (suc l) hs) (Some s) None) h
      one k gs false q h unreadable e = refl

      go : (k : Kind) → n ≡ k.arity → ((es : List Expr) → length es ≡ k.arity → (l : ℕ) → fits_depth (k.make es) l ≡ within_levels l es)
          → (p : Parsed (List Expr)) → read_exprs n r ≡ p
          → behind (suc l) (and_then p (λ gs q. and_then (read_exprs m q) (λ hs s. got (k.make gs ∷ hs) s)))
          ≡ option_and_then (λ q. behind (suc l) (read_exprs m q)) (behind l p)
      go k is law unreadable e = refl
      go k is law (got gs q) e = one k gs (within_levels l gs) q (law gs ((sized n r gs q e).0 ∙ is) l) (read_exprs m q) refl

  -- the same, as code has the counts
  module _ (p v : ℕ) (more : suc m ≡ p) (levels : suc l ≡ v) where
    next : behind v (read_exprs p bs) ≡ option_and_then (λ q. behind v (read_exprs m q)) (behind l (read_exprs n r))
    next = (λ i. behind (sym levels i) (read_exprs (sym more i) bs)) ∙ behind_step ∙ (λ i. option_and_then (λ q. behind (levels i) (read_exprs m q)) (behind l (read_exprs n r)))

    pub deep_parts : None ≡ behind l (read_exprs n r) → None ≡ behind v (read_exprs p bs)
    deep_parts h = ap (option_and_then (λ q. behind v (read_exprs m q))) h ∙ sym next

    pub past_parts : (q : List ℕ) → Some q ≡ behind l (read_exprs n r) → behind v (read_exprs m q) ≡ behind v (read_exprs p bs)
    past_parts q h = ap (option_and_then (λ q. behind v (read_exprs m q))) h ∙ sym next

  pub rest_below : (q : List ℕ) → Some q ≡ behind l (read_exprs n r) → all_below 256 q ≡ true
  rest_below q h = go (read_exprs n r) refl h
    where
      small_parts : all_below 256 r ≡ true
      small_parts = let x = by_parts bs n r head in (head_levels bs x.0 r small x.1).1

      fit : (es : List Expr) (s : List ℕ) (t : Bool) → read_exprs n r ≡ got es s → Some q ≡ cond t (Some s) None → all_below 256 q ≡ true
      fit es s true e h = let same : q ≡ s = cc in ap (all_below 256) same ∙ (exprs_wrote n r es s small_parts e).left
      fit es s false e h = let z : ◌≡◌ {A = ℕ} 0 1 = cc in absurd (omega arith)

      go : (p : Parsed (List Expr)) → read_exprs n r ≡ p → Some q ≡ behind l p → all_below 256 q ≡ true
      go (got es s) e h = fit es s (within_levels l es) e h
      go unreadable e h = let z : ◌≡◌ {A = ℕ} 0 1 = cc in absurd (omega arith)
