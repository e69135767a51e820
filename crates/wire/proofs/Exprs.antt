-- Expressions are read as they are written, and only so.
use Rattle.std.proofs.Common.{◌≡◌, ℕ, suc, ◌+◌, Bool, true, ◌&&◌, List, [], ◌∷◌, ◌++◌, refl, ap, ◌∙◌, append_assoc, arith}
use Rattle.std.proofs.lemmas.Bool.{and_parts, ltb-true}
use Rattle.rules.specs.Rules.{Expr, Num, Cell, First, Second, Me, Add, Sub, Mul, Div, Rem, Lt, Eq, If}
use Rattle.wire.specs.Numbers.{number_bytes}
use Rattle.wire.specs.Exprs.{expr_bytes, expr_fits, Parsed, got, unreadable, and_then, Kind, alone, of_one, of_two, of_three, kind_after, join, read_exprs}
use Rattle.wire.proofs.Numbers.{value_of_bytes}

-- what is read has one expression more in front
abbrev pub push : Expr → Parsed (List Expr) → Parsed (List Expr)
push e p = and_then p (λ es r. got (e ∷ es) r)

-- the first of what is read are parts of one expression
abbrev pub joined : Kind → Parsed (List Expr) → Parsed (List Expr)
joined k p = and_then p (λ es r. got (join k es) r)

join_one : (f : Expr → Expr) (a : Expr) (p : Parsed (List Expr)) → joined (of_one f) (push a p) ≡ push (f a) p
unfolding join
join_one f a (got es r) = refl
join_one f a unreadable = refl

join_two : (f : Expr → Expr → Expr) (a b : Expr) (p : Parsed (List Expr)) → joined (of_two f) (push a (push b p)) ≡ push (f a b) p
unfolding join
join_two f a b (got es r) = refl
join_two f a b unreadable = refl

join_three : (f : Expr → Expr → Expr → Expr) (a b c : Expr) (p : Parsed (List Expr)) → joined (of_three f) (push a (push b (push c p))) ≡ push (f a b c) p
unfolding join
join_three f a b c (got es r) = refl
join_three f a b c unreadable = refl

join_none : (e : Expr) (p q : Parsed (List Expr)) → p ≡ q → joined (alone e) p ≡ push e q
unfolding join
join_none e p q h = ap (push e) h

-- an expression is read from its bytes, whatever follows it
abbrev Reads : Expr → Type 0
Reads e = (n : ℕ) (bs : List ℕ) → expr_fits e ≡ true → read_exprs (suc n) (expr_bytes e ++ bs) ≡ push e (read_exprs n bs)

reads_two :
    (f : Expr → Expr → Expr) (a b : Expr) → Reads a → Reads b → (n : ℕ) (bs : List ℕ) → (expr_fits a && expr_fits b) ≡ true
    → joined (of_two f) (read_exprs (2 + n) ((expr_bytes a ++ expr_bytes b) ++ bs)) ≡ push (f a b) (read_exprs n bs)
reads_two f a b ra rb n bs h =
    let e = and_parts (expr_fits a) (expr_fits b) h in
    let two : 2 + n ≡ suc (suc n) = omega arith in
    ap (joined (of_two f))
    ((λ i. read_exprs (two i) (append_assoc (expr_bytes a) (expr_bytes b) bs i)) ∙ ra (suc n) (expr_bytes b ++ bs) e.0 ∙ ap (push a) (rb n bs e.1))
    ∙ join_two f a b (read_exprs n bs)

pub reads_expr : (e : Expr) → Reads e
unfolding read_exprs expr_bytes expr_fits kind_after number_bytes
reads_expr (Num v) n bs h = let l = ltb-true v 65536 h in ap (λ w. push (Num w) (read_exprs n bs)) (value_of_bytes 2 v l)
reads_expr First n bs h = let zero_more : 0 + n ≡ n = omega arith in join_none First _ _ (ap (λ m. read_exprs m bs) zero_more)
reads_expr Second n bs h = let zero_more : 0 + n ≡ n = omega arith in join_none Second _ _ (ap (λ m. read_exprs m bs) zero_more)
reads_expr Me n bs h = let zero_more : 0 + n ≡ n = omega arith in join_none Me _ _ (ap (λ m. read_exprs m bs) zero_more)
reads_expr (Cell a) n bs h =
    let one : 1 + n ≡ suc n = omega arith in
    ap (joined (of_one Cell)) (ap (λ m. read_exprs m (expr_bytes a ++ bs)) one ∙ reads_expr a n bs h) ∙ join_one Cell a (read_exprs n bs)
reads_expr (Add a b) n bs h = reads_two Add a b (reads_expr a) (reads_expr b) n bs h
reads_expr (Sub a b) n bs h = reads_two Sub a b (reads_expr a) (reads_expr b) n bs h
reads_expr (Mul a b) n bs h = reads_two Mul a b (reads_expr a) (reads_expr b) n bs h
reads_expr (Div a b) n bs h = reads_two Div a b (reads_expr a) (reads_expr b) n bs h
reads_expr (Rem a b) n bs h = reads_two Rem a b (reads_expr a) (reads_expr b) n bs h
reads_expr (Lt a b) n bs h = reads_two Lt a b (reads_expr a) (reads_expr b) n bs h
reads_expr (Eq a b) n bs h = reads_two Eq a b (reads_expr a) (reads_expr b) n bs h
reads_expr (If a b c) n bs h =
    let e = and_parts (expr_fits a) (expr_fits b && expr_fits c) h in
    let f = and_parts (expr_fits b) (expr_fits c) e.1 in
    let three : 3 + n ≡ suc (suc (suc n)) = omega arith in
    let u : List ℕ = expr_bytes a in
    let v : List ℕ = expr_bytes b in
    let w : List ℕ = expr_bytes c in
    let flat : (u ++ (v ++ w)) ++ bs ≡ u ++ (v ++ (w ++ bs)) = simp append_assoc in
    ap (joined (of_three If))
    ((λ i. read_exprs (three i) (flat i)) ∙ reads_expr a (suc (suc n)) (v ++ (w ++ bs)) e.0
    ∙ ap (push a) (reads_expr b (suc n) (w ++ bs) f.0 ∙ ap (push b) (reads_expr c n bs f.1)))
    ∙ join_three If a b c (read_exprs n bs)

unfoldable pub exprs_bytes : List Expr → List ℕ
exprs_bytes [] = []
exprs_bytes (e ∷ es) = expr_bytes e ++ exprs_bytes es

unfoldable pub exprs_fit : List Expr → Bool
exprs_fit [] = true
exprs_fit (e ∷ es) = expr_fits e && exprs_fit es
