-- For callers: what can be read, is not too deep and has room is loaded.
use Rattle.std.proofs.Common.{◌≡◌, ℕ, ◌+◌, ◌*◌, ◌≤◌, min, true, List, [], ◌∷◌, length, drop, Ok, Err, Result, sym, refl, ◌∙◌, subst, arith}
use Rattle.std.proofs.lemmas.Bool.{both_ways}
use Rattle.rules.specs.Rules.{Expr}
use Rattle.rules.specs.Bounds.{fits_depth, expr_parts}
use Rattle.wire.specs.Exprs.{got, read_exprs}
use Rattle.wire.proofs.ExprsBack.{not_got}
use Rattle.eval.specs.Memory.{expr_at}
use Rattle.eval.specs.declared.Loaded.{Loaded}
use Rattle.eval.specs.declared.LoadError.{LoadError}
use Rattle.eval.specs.declared.LoadError.TheVariants.{Unreadable, TooDeep, Full}
use Rattle.eval.specs.Load.{Stands, LoadsExpr}

pub is_loaded :
    (bs : List ℕ) (at : ℕ) (xs ys : List ℕ) (r : Result Loaded LoadError) (e : Expr) (q : List ℕ) → LoadsExpr bs at xs ys r
    → read_exprs 1 bs ≡ got (e ∷ []) q → fits_depth e 32 ≡ true → at + 4 * expr_parts e ≤ min (length ys) 4294967295
    → (l : Loaded) × (r ≡ Ok l) × (q ≡ drop l.used bs) × Stands (λ f. fits_depth f 32) expr_at bs at xs ys l.used l.root e
is_loaded bs at xs ys (Ok l) e q m h fit room =
    let s = m.outcome.1 in
    let both : got (m.outcome.0 ∷ []) (drop l.used bs) ≡ got (e ∷ []) q = sym s.read ∙ h in
    let same : m.outcome.0 ≡ e = cc in
    let left : q ≡ drop l.used bs = cc in
    (l, refl, left, subst (λ f. Stands (λ f. fits_depth f 32) expr_at bs at xs ys l.used l.root f) same s)
is_loaded bs at xs ys (Err Unreadable) e q m h fit room = absurd (not_got (e ∷ []) q (sym m.outcome ∙ h))
is_loaded bs at xs ys (Err TooDeep) e q m h fit room = absurd (both_ways (fits_depth e 32) (m.outcome e q h) fit)
is_loaded bs at xs ys (Err Full) e q m h fit room = let full = m.outcome e q h in absurd (omega arith)
