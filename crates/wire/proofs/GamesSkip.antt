-- Passing over expressions by the count of those still to come.
use Rattle.std.proofs.Common.{◌≡◌, ℕ, suc, ◌+◌, ◌<◌, ◌≤◌, List, [], ◌∷◌, ◌++◌, length, take, drop, sym, refl, ap, ◌∙◌, arith}
use Rattle.std.proofs.lemmas.List.{length-take-le, take-append-drop}
use Rattle.rules.specs.Rules.{Expr}
use Rattle.rules.specs.Bounds.{expr_parts}
use Rattle.wire.specs.Exprs.{Parsed, got, unreadable, Kind, join, read_exprs}
use Rattle.wire.specs.GamesWalk.{as_read, read_head, arity_of, exprs_parts}
use Rattle.wire.proofs.Exprs.{joined}
use Rattle.wire.proofs.ExprsBack.{sized}
use Rattle.wire.proofs.GamesHead.{head_parts, by_parts}

-- the parts of what was read, counted on from t
abbrev pub tallied : ℕ → Parsed (List Expr) → Parsed ℕ
tallied t p = as_read (λ es. t + exprs_parts es) p

parts_append : (es fs : List Expr) → exprs_parts (es ++ fs) ≡ exprs_parts es + exprs_parts fs
unfolding exprs_parts
parts_append [] fs = omega arith
parts_append (e ∷ es) fs = let ih = parts_append es fs in omega arith

-- fewer bytes than expressions
pub too_few : (n : ℕ) (bs : List ℕ) → length bs < n → read_exprs n bs ≡ unreadable
too_few n bs h = go (read_exprs n bs) refl
  where
    go : (p : Parsed (List Expr)) → read_exprs n bs ≡ p → p ≡ unreadable
    go (got es r) e = let s = sized n bs es r e in absurd (omega arith)
    go unreadable e = refl

-- one part is passed, and its own parts are to come
pub tallied_step :
    (bs : List ℕ) (n : ℕ) (r : List ℕ) (m t : ℕ) → got n r ≡ as_read arity_of (read_head bs)
    → tallied t (read_exprs (suc m) bs) ≡ tallied (t + 1) (read_exprs (n + m) r)
unfolding exprs_parts join
tallied_step bs n r m t h =
    let x = by_parts bs n r h in
    ap (tallied t) (x.3 m) ∙ go x.0 x.2 (head_parts bs x.0 r x.1) (read_exprs (n + m) r) refl
  where
    go : (k : Kind) → n ≡ k.arity → ((es : List Expr) → length es ≡ k.arity → expr_parts (k.make es) ≡ suc (exprs_parts es))
        → (p : Parsed (List Expr)) → read_exprs (n + m) r ≡ p → tallied t (joined k p) ≡ tallied (t + 1) p
    go k is law unreadable e = refl
    go k is law (got es q) e =
        let s = sized (n + m) r es q e in
        let le : k.arity ≤ length es = omega arith in
        let one = law (take k.arity es) (length-take-le k.arity es le) in
        let all : exprs_parts (take k.arity es) + exprs_parts (drop k.arity es) ≡ exprs_parts es =
        sym (parts_append (take k.arity es) (drop k.arity es)) ∙ ap exprs_parts (take-append-drop k.arity es) in
        let sum : t + exprs_parts (join k es) ≡ t + 1 + exprs_parts es = omega arith in
        ap (λ x. got x q) sum
