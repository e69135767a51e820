-- The machine from piece to piece, and what it does with an expression's pieces.
use Rattle.std.proofs.Common.{◌≡◌, ℕ, zero, suc, ◌+◌, ◌-◌, ◌/◌, ◌%◌, ◌<◌, true, cond, ◌&&◌, ltb, List, [], ◌∷◌, ◌++◌, length, set, Some, None, codes, Option, sym, refl, ap, ◌∙◌, arith}
use Rattle.std.proofs.lemmas.List.{append_assoc, length-append}
use Rattle.std.proofs.lemmas.Bool.{and_parts, cond-true, ltb-true}
use Rattle.rules.specs.Rules.{Expr, Num, Cell, First, Second, Me, Add, Sub, Mul, Div, Rem, Lt, Eq, If}
use Rattle.wire.specs.Numbers.{number_bytes}
use Rattle.wire.specs.Exprs.{expr_bytes, expr_fits, kind_after}
use Rattle.wire.specs.Kinds.{kind_number}
use Rattle.wire.specs.declared.kinds.ExprKind.{ExprKind}
use Rattle.wire.specs.declared.kinds.ExprKind.TheVariants as kinds
use Rattle.text.specs.Grammar.{Piece, word, number}
use Rattle.game_text.specs.declared.progress.Part.{Part}
use Rattle.game_text.specs.declared.progress.Part.TheVariants.{Guard, Effect, Terminal, Payoff}
use Rattle.game_text.specs.declared.progress.Stage.TheVariants.{Expr as AnExpr}
use Rattle.game_text.specs.declared.progress.Word.TheVariants.{Kind}
use Rattle.game_text.specs.declared.progress.Progress.{Progress}
use Rattle.game_text.specs.Text.{expr_pieces}
use Rattle.game_text.specs.Filling.{filled}
use Rattle.game_text.specs.Machine.{State, and_then, pending, part_ended, number_taken, word_taken, awaited, bound, look, agrees, is_front, kind_words, put_two}
use Rattle.game_text.proofs.Filled.{filled_more}

-- a piece that may come is taken
abbrev pub take_piece : State → Piece → Option State
take_piece s (number n) = cond (ltb n (bound s.at.stage s.at)) (Some (number_taken s.at.stage n s.at s.memory)) None
take_piece s (word l) = and_then (look true (awaited s.at.stage s.at) l) (λ w. Some (word_taken w s.at s.memory))

unfoldable pub run : State → List Piece → Option State
run s [] = Some s
run s (p ∷ ps) = and_then (take_piece s p) (λ t. run t ps)

pub run_none : (s : State) → run s [] ≡ Some s
unfolding run
run_none s = refl

pub run_one : (s t : State) (p : Piece) (ps : List Piece) → take_piece s p ≡ Some t → run s (p ∷ ps) ≡ run t ps
unfolding run
run_one s t p ps e = ap (λ x. and_then x (λ u. run u ps)) e

-- an expression of a part is awaited, and m more: c cells, r rules and k effects were counted, d was written, and the count of effects stands at a
abbrev pub in_part : Part → ℕ → ℕ → ℕ → ℕ → List ℕ → ℕ → Progress
in_part t m c r k d a = record { stage = AnExpr; part = t; more = m; cells = c; rules = r; sets = k; len = length d; sets_at = a }

abbrev pub awaiting : Part → ℕ → ℕ → ℕ → ℕ → List ℕ → ℕ → List ℕ → State
awaiting t m c r k d a old = record { at = in_part t m c r k d a; memory = filled d old }

-- n expressions of the part are still to come
abbrev pub closing : Part → ℕ → ℕ → ℕ → ℕ → List ℕ → ℕ → List ℕ → State
closing t n c r k d a old = pending n (in_part t 0 c r k d a) (filled d old)

-- what is to come does not depend on what was
same_part : (t : Part) (p q : Progress) (memory : List ℕ) → p.cells ≡ q.cells → p.rules ≡ q.rules → p.sets ≡ q.sets → p.len ≡ q.len → p.sets_at ≡ q.sets_at
    → part_ended t p memory ≡ part_ended t q memory
same_part Guard p q memory e₁ e₂ e₃ e₄ e₅ = (cc)
same_part Effect p q memory e₁ e₂ e₃ e₄ e₅ = (cc)
same_part Terminal p q memory e₁ e₂ e₃ e₄ e₅ = (cc)
same_part Payoff p q memory e₁ e₂ e₃ e₄ e₅ = (cc)

same_pending :
    (t : Part) (n m c r k : ℕ) (d : List ℕ) (l a : ℕ) (memory old : List ℕ) → l ≡ length d → memory ≡ filled d old
    → pending n (record { stage = AnExpr; part = t; more = m; cells = c; rules = r; sets = k; len = l; sets_at = a }) memory ≡ closing t n c r k d a old
same_pending t zero m c r k d l a memory old e f = ap (part_ended t _) f ∙ same_part t _ _ (filled d old) refl refl refl e refl
same_pending t (suc n) m c r k d l a memory old e f =
    λ i. record { at = record { stage = AnExpr; part = t; more = n; cells = c; rules = r; sets = k; len = e i; sets_at = a }; memory = f i }

-- two bytes of a number
pub filled_two : (d old : List ℕ) (n : ℕ) → n < 65536 → put_two (filled d old) (length d) n ≡ filled (d ++ number_bytes 2 n) old
unfolding number_bytes
filled_two d old n h =
    let high : (n / 256) % 256 ≡ n / 256 = omega arith in
    let long : length d + 1 ≡ length (d ++ (n % 256 ∷ [])) = sym (length-append d (n % 256 ∷ [])) in
    ap (λ l. set l (length d + 1) (n / 256)) (filled_more d old (n % 256))
    ∙ ap (λ i. set (filled (d ++ (n % 256 ∷ [])) old) i (n / 256)) long
    ∙ filled_more (d ++ (n % 256 ∷ [])) old (n / 256)
    ∙ ap (λ l. filled l old) (append_assoc d (n % 256 ∷ []) (n / 256 ∷ []) ∙ ap (λ b. d ++ (n % 256 ∷ b ∷ [])) (sym high))

-- a word of an expression
pub kind_run :
    (t : Part) (m c r k : ℕ) (d : List ℕ) (a : ℕ) (old : List ℕ) (j : ExprKind) (l : List ℕ) (ps : List Piece) → look true kind_words l ≡ Some (Kind j)
    → run (awaiting t m c r k d a old) (word l ∷ ps) ≡ run (closing t (m + (kind_after (kind_number j - 1)).arity) c r k (d ++ (kind_number j ∷ [])) a old) ps
kind_run t m c r k d a old j l ps e =
    run_one _ _ (word l) ps (ap (λ x. and_then x (λ w. Some (word_taken w (in_part t m c r k d a) (filled d old)))) e)
    ∙ ap (λ s. run s ps) (same_pending t (m + (kind_after (kind_number j - 1)).arity) m c r k (d ++ (kind_number j ∷ [])) (length d + 1) a _ old (sym (length-append d (kind_number j ∷ []))) (filled_more d old (kind_number j)))

-- a number as an expression
num_run :
    (t : Part) (m c r k : ℕ) (d : List ℕ) (a : ℕ) (old : List ℕ) (n : ℕ) (ps : List Piece) → ltb n 65536 ≡ true
    → run (awaiting t m c r k d a old) (number n ∷ ps) ≡ run (closing t m c r k (d ++ (0 ∷ number_bytes 2 n)) a old) ps
unfolding number_bytes
num_run t m c r k d a old n ps e =
    let long : length d + 1 ≡ length (d ++ (0 ∷ [])) = sym (length-append d (0 ∷ [])) in
    let bytes : put_two (set (filled d old) (length d) 0) (length d + 1) n ≡ filled (d ++ (0 ∷ number_bytes 2 n)) old =
    (λ i. put_two (filled_more d old 0 i) (long i) n) ∙ filled_two (d ++ (0 ∷ [])) old n (ltb-true n 65536 e) ∙ ap (λ l. filled l old) (append_assoc d (0 ∷ []) (number_bytes 2 n))
    in
    run_one _ _ (number n) ps (cond-true (ltb n 65536) _ None e)
    ∙ ap (λ s. run s ps) (same_pending t m m c r k (d ++ (0 ∷ number_bytes 2 n)) (length d + 3) a _ old (sym (length-append d (0 ∷ number_bytes 2 n))) bytes)

-- an expression's pieces write its bytes, whatever follows
abbrev Runs : Expr → Type 0
Runs e =
    (t : Part) (m c r k : ℕ) (d : List ℕ) (a : ℕ) (old : List ℕ) (ps : List Piece) → expr_fits e ≡ true
    → run (awaiting t m c r k d a old) (expr_pieces e ++ ps) ≡ run (closing t m c r k (d ++ expr_bytes e) a old) ps

-- the arity as the machine counts it
to_come : (t : Part) (n m c r k : ℕ) (d : List ℕ) (a : ℕ) (old : List ℕ) (ps : List Piece) → n ≡ m → run (closing t n c r k d a old) ps ≡ run (closing t m c r k d a old) ps
to_come t n m c r k d a old ps e = ap (λ x. run (closing t x c r k d a old) ps) e

two_run :
    (j : ExprKind) (l : List ℕ) (x y : Expr) → Runs x → Runs y → look true kind_words l ≡ Some (Kind j) → (kind_after (kind_number j - 1)).arity ≡ 2
    → (t : Part) (m c r k : ℕ) (d : List ℕ) (a : ℕ) (old : List ℕ) (ps : List Piece) → (expr_fits x && expr_fits y) ≡ true
    → run (awaiting t m c r k d a old) ((word l ∷ (expr_pieces x ++ expr_pieces y)) ++ ps)
    ≡ run (closing t m c r k (d ++ (kind_number j ∷ (expr_bytes x ++ expr_bytes y))) a old) ps
two_run j l x y rx ry e n t m c r k d a old ps h =
    let f = and_parts (expr_fits x) (expr_fits y) h in
    let two : m + (kind_after (kind_number j - 1)).arity ≡ suc (suc m) = ap (λ b. m + b) n ∙ omega arith in
    ap (λ qs. run (awaiting t m c r k d a old) (word l ∷ qs)) (append_assoc (expr_pieces x) (expr_pieces y) ps)
    ∙ kind_run t m c r k d a old j l (expr_pieces x ++ (expr_pieces y ++ ps)) e
    ∙ to_come t _ (suc (suc m)) c r k (d ++ (kind_number j ∷ [])) a old _ two
    ∙ rx t (suc m) c r k (d ++ (kind_number j ∷ [])) a old (expr_pieces y ++ ps) f.0
    ∙ ry t m c r k ((d ++ (kind_number j ∷ [])) ++ expr_bytes x) a old ps f.1
    ∙ ap (λ b. run (closing t m c r k b a old) ps) (simp append_assoc)

leaf_run :
    (j : ExprKind) (l : List ℕ) → look true kind_words l ≡ Some (Kind j) → (kind_after (kind_number j - 1)).arity ≡ 0
    → (t : Part) (m c r k : ℕ) (d : List ℕ) (a : ℕ) (old : List ℕ) (ps : List Piece)
    → run (awaiting t m c r k d a old) (word l ∷ ps) ≡ run (closing t m c r k (d ++ (kind_number j ∷ [])) a old) ps
leaf_run j l e n t m c r k d a old ps =
    kind_run t m c r k d a old j l ps e ∙ to_come t _ m c r k (d ++ (kind_number j ∷ [])) a old ps (ap (λ b. m + b) n ∙ omega arith)

pub expr_run : (e : Expr) → Runs e
unfolding expr_pieces expr_bytes expr_fits kind_after agrees is_front
expr_run (Num n) t m c r k d a old ps h = num_run t m c r k d a old n ps h
expr_run (Cell x) t m c r k d a old ps h =
    kind_run t m c r k d a old kinds.Cell (codes "cell") (expr_pieces x ++ ps) refl
    ∙ to_come t (m + 1) (suc m) c r k (d ++ (1 ∷ [])) a old _ (omega arith)
    ∙ expr_run x t m c r k (d ++ (1 ∷ [])) a old ps h
    ∙ ap (λ b. run (closing t m c r k b a old) ps) (append_assoc d (1 ∷ []) (expr_bytes x))
expr_run First t m c r k d a old ps h = leaf_run kinds.First (codes "first") refl refl t m c r k d a old ps
expr_run Second t m c r k d a old ps h = leaf_run kinds.Second (codes "second") refl refl t m c r k d a old ps
expr_run Me t m c r k d a old ps h = leaf_run kinds.Me (codes "me") refl refl t m c r k d a old ps
expr_run (Add x y) t m c r k d a old ps h = two_run kinds.Add (codes "+") x y (expr_run x) (expr_run y) refl refl t m c r k d a old ps h
expr_run (Sub x y) t m c r k d a old ps h = two_run kinds.Sub (codes "-") x y (expr_run x) (expr_run y) refl refl t m c r k d a old ps h
expr_run (Mul x y) t m c r k d a old ps h = two_run kinds.Mul (codes "*") x y (expr_run x) (expr_run y) refl refl t m c r k d a old ps h
expr_run (Div x y) t m c r k d a old ps h = two_run kinds.Div (codes "/") x y (expr_run x) (expr_run y) refl refl t m c r k d a old ps h
expr_run (Rem x y) t m c r k d a old ps h = two_run kinds.Rem (codes "rest") x y (expr_run x) (expr_run y) refl refl t m c r k d a old ps h
expr_run (Lt x y) t m c r k d a old ps h = two_run kinds.Lt (codes "below") x y (expr_run x) (expr_run y) refl refl t m c r k d a old ps h
expr_run (Eq x y) t m c r k d a old ps h = two_run kinds.Eq (codes "same") x y (expr_run x) (expr_run y) refl refl t m c r k d a old ps h
expr_run (If x y z) t m c r k d a old ps h =
    let e = and_parts (expr_fits x) (expr_fits y && expr_fits z) h in
    let f = and_parts (expr_fits y) (expr_fits z) e.1 in
    let flat : (expr_pieces x ++ (expr_pieces y ++ expr_pieces z)) ++ ps ≡ expr_pieces x ++ (expr_pieces y ++ (expr_pieces z ++ ps)) = simp append_assoc in
    ap (λ qs. run (awaiting t m c r k d a old) (word (codes "if") ∷ qs)) flat
    ∙ kind_run t m c r k d a old kinds.If (codes "if") (expr_pieces x ++ (expr_pieces y ++ (expr_pieces z ++ ps))) refl
    ∙ to_come t (m + 3) (suc (suc (suc m))) c r k (d ++ (12 ∷ [])) a old _ (omega arith)
    ∙ expr_run x t (suc (suc m)) c r k (d ++ (12 ∷ [])) a old _ e.0
    ∙ expr_run y t (suc m) c r k ((d ++ (12 ∷ [])) ++ expr_bytes x) a old _ f.0
    ∙ expr_run z t m c r k (((d ++ (12 ∷ [])) ++ expr_bytes x) ++ expr_bytes y) a old ps f.1
    ∙ ap (λ b. run (closing t m c r k b a old) ps) (simp append_assoc)
