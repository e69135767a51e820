-- What was read was written so; how many expressions were read; and that several may be read in two turns.
use Rattle.std.proofs.Common.{◌≡◌, ℕ, zero, suc, ◌+◌, ◌<◌, ◌≤◌, Bool, true, false, cond, ◌&&◌, ltb, List, [], ◌∷◌, ◌++◌, length, take, drop, sym, refl, ap, ◌∙◌, append_assoc, arith}
use Rattle.std.proofs.lemmas.Bool.{and_parts, and_from, ltb-true, lt-ltb}
use Rattle.std.proofs.lemmas.List.{length-take-le, length-drop, take-append-drop, take-append-le, drop-append-le}
use Rattle.rules.specs.Rules.{Expr, Num}
use Rattle.rules.specs.Bounds.{all_below}
use Rattle.wire.specs.Numbers.{number_bytes, bytes_value}
use Rattle.wire.specs.Exprs.{expr_bytes, expr_fits, Parsed, got, unreadable, and_then, Kind, kind_after, join, read_exprs}
use Rattle.wire.proofs.Numbers.{bytes_of_value}
use Rattle.wire.proofs.ExprsNumbers.{value_below}
use Rattle.wire.proofs.Exprs.{push, joined, exprs_bytes, exprs_fit}
use Rattle.wire.proofs.ExprsKinds.{lawful}

pub then_got : {A B : Type 0} (p : Parsed A) (f : A → List ℕ → Parsed B) (b : B) (r : List ℕ) → and_then p f ≡ got b r → (a : A) × (q : List ℕ) × (p ≡ got a q) × (f a q ≡ got b r)
then_got (got a q) f b r h = (a, q, refl, h)
then_got unreadable f b r h = let z : ◌≡◌ {A = ℕ} 0 1 = cc in absurd (omega arith)

-- the same, for use step by step
pub with_got : {A B : Type 0} (p : Parsed A) (f : A → List ℕ → Parsed B) (b : B) (r : List ℕ) (X : Type 0) → and_then p f ≡ got b r → ((a : A) (q : List ℕ) → p ≡ got a q → f a q ≡ got b r → X) → X
with_got (got a q) f b r X h go = go a q refl h
with_got unreadable f b r X h go = let z : ◌≡◌ {A = ℕ} 0 1 = cc in absurd (omega arith)

pub not_got : {A : Type 0} (a : A) (r : List ℕ) → unreadable ≡ got a r → ⊥
not_got a r h = let z : ◌≡◌ {A = ℕ} 0 1 = cc in omega arith

pub same_got : {A : Type 0} (a b : A) (q r : List ℕ) → got a q ≡ got b r → (a ≡ b) × (q ≡ r)
same_got a b q r h = let x : a ≡ b = cc in let y : q ≡ r = cc in (x, y)

pub cond_got : {A : Type 0} (t : Bool) (p : Parsed A) (a : A) (r : List ℕ) → cond t p unreadable ≡ got a r → (t ≡ true) × (p ≡ got a r)
cond_got true p a r h = (refl, h)
cond_got false p a r h = absurd (not_got a r h)

-- as many expressions are read as were to come, and each takes a byte at least
pub sized : (n : ℕ) (bs : List ℕ) (es : List Expr) (r : List ℕ) → read_exprs n bs ≡ got es r → (length es ≡ n) × (n + length r ≤ length bs)
unfolding read_exprs join
sized zero bs es r h = let e = same_got [] es bs r h in (sym (ap length e.0), omega (arith, ap length e.1))
sized (suc n) [] es r h = absurd (not_got es r h)
sized (suc n) (zero ∷ []) es r h = absurd (not_got es r h)
sized (suc n) (zero ∷ x ∷ []) es r h = absurd (not_got es r h)
sized (suc n) (zero ∷ x ∷ y ∷ bs) es r h =
    let v : Expr = Num (bytes_value (x ∷ y ∷ [])) in
    let s = then_got (read_exprs n bs) (λ fs q. got (v ∷ fs) q) es r h in
    let e = same_got (v ∷ s.0) es s.1 r s.3 in
    let ih = sized n bs s.0 s.1 s.2 in
    (sym (ap length e.0) ∙ ap suc ih.0, omega (arith, ih.1, ap length e.1))
sized (suc n) (suc k ∷ bs) es r h =
    let kd : Kind = kind_after k in
    let g = cond_got (ltb k 12) (joined kd (read_exprs (kd.arity + n) bs)) es r h in
    let s = then_got (read_exprs (kd.arity + n) bs) (λ fs q. got (join kd fs) q) es r g.1 in
    let e = same_got (join kd s.0) es s.1 r s.3 in
    let ih = sized (kd.arity + n) bs s.0 s.1 s.2 in
    let d : length (drop kd.arity s.0) ≡ n = omega (arith, length-drop kd.arity s.0, ih.0) in
    (sym (ap length e.0) ∙ ap suc d, omega (arith, ih.1, ap length e.1))

bytes_append : (es fs : List Expr) → exprs_bytes (es ++ fs) ≡ exprs_bytes es ++ exprs_bytes fs
unfolding exprs_bytes
bytes_append [] fs = refl
bytes_append (e ∷ es) fs = ap (λ l. expr_bytes e ++ l) (bytes_append es fs) ∙ sym (append_assoc (expr_bytes e) (exprs_bytes es) (exprs_bytes fs))

fits_append : (es fs : List Expr) → exprs_fit (es ++ fs) ≡ true → (exprs_fit es && exprs_fit fs) ≡ true
unfolding exprs_fit
fits_append [] fs h = h
fits_append (e ∷ es) fs h =
    let p = and_parts (expr_fits e) (exprs_fit (es ++ fs)) h in
    let q = and_parts (exprs_fit es) (exprs_fit fs) (fits_append es fs p.1) in
    and_from (expr_fits e && exprs_fit es) (exprs_fit fs) (and_from (expr_fits e) (exprs_fit es) p.0 q.0) q.1

-- an expression that is made of the first ones has their bytes after its kind
join_bytes : (k : ℕ) (es : List Expr) → k < 12 → (kind_after k).arity ≤ length es → exprs_bytes (join (kind_after k) es) ≡ suc k ∷ exprs_bytes es
unfolding exprs_bytes join
join_bytes k es lt le =
    let n : ℕ = (kind_after k).arity in
    let law = lawful k lt (take n es) (length-take-le n es le) in
    ap (λ l. l ++ exprs_bytes (drop n es)) law.bytes ∙ ap (λ l. suc k ∷ l) (sym (bytes_append (take n es) (drop n es)) ∙ ap exprs_bytes (take-append-drop n es))

join_fits : (k : ℕ) (es : List Expr) → k < 12 → (kind_after k).arity ≤ length es → exprs_fit es ≡ true → exprs_fit (join (kind_after k) es) ≡ true
unfolding exprs_fit join
join_fits k es lt le h =
    let n : ℕ = (kind_after k).arity in
    let law = lawful k lt (take n es) (length-take-le n es le) in
    ap (λ t. t && exprs_fit (drop n es)) law.fits ∙ fits_append (take n es) (drop n es) (ap exprs_fit (take-append-drop n es) ∙ h)

-- what is read was written so
pub wrote_exprs :
    (n : ℕ) (bs : List ℕ) (es : List Expr) (r : List ℕ) → all_below 256 bs ≡ true → read_exprs n bs ≡ got es r
    → (bs ≡ exprs_bytes es ++ r) × (exprs_fit es ≡ true)
unfolding read_exprs exprs_bytes exprs_fit expr_bytes expr_fits all_below number_bytes
wrote_exprs zero bs es r al h = let e = same_got [] es bs r h in (e.1 ∙ ap (λ l. exprs_bytes l ++ r) e.0, sym (ap exprs_fit e.0))
wrote_exprs (suc n) [] es r al h = absurd (not_got es r h)
wrote_exprs (suc n) (zero ∷ []) es r al h = absurd (not_got es r h)
wrote_exprs (suc n) (zero ∷ x ∷ []) es r al h = absurd (not_got es r h)
wrote_exprs (suc n) (zero ∷ x ∷ y ∷ bs) es r al h =
    let v : ℕ = bytes_value (x ∷ y ∷ []) in
    let s = then_got (read_exprs n bs) (λ fs q. got (Num v ∷ fs) q) es r h in
    let e = same_got (Num v ∷ s.0) es s.1 r s.3 in
    let a = and_parts (ltb x 256) (ltb y 256 && all_below 256 bs) al in
    let b = and_parts (ltb y 256) (all_below 256 bs) a.1 in
    let ih = wrote_exprs n bs s.0 s.1 b.1 s.2 in
    let both : all_below 256 (x ∷ y ∷ []) ≡ true = and_from _ _ a.0 (and_from _ _ b.0 refl) in
    let two : number_bytes 2 v ≡ x ∷ y ∷ [] = bytes_of_value (x ∷ y ∷ []) both in (
      ap (λ l. 0 ∷ x ∷ y ∷ l) ih.0 ∙ ap (λ l. 0 ∷ (l ++ (exprs_bytes s.0 ++ s.1))) (sym two) ∙ (λ i. exprs_bytes (e.0 i) ++ e.1 i),
      ap exprs_fit (sym e.0) ∙ and_from _ _ (lt-ltb v 65536 (value_below (x ∷ y ∷ []) both)) ih.1,
    )
wrote_exprs (suc n) (suc k ∷ bs) es r al h =
    let kd : Kind = kind_after k in
    let g = cond_got (ltb k 12) (joined kd (read_exprs (kd.arity + n) bs)) es r h in
    let s = then_got (read_exprs (kd.arity + n) bs) (λ fs q. got (join kd fs) q) es r g.1 in
    let e = same_got (join kd s.0) es s.1 r s.3 in
    let lt = ltb-true k 12 g.0 in
    let enough : kd.arity ≤ length s.0 = omega (arith, (sized (kd.arity + n) bs s.0 s.1 s.2).0) in
    let ih = wrote_exprs (kd.arity + n) bs s.0 s.1 (and_parts (ltb (suc k) 256) (all_below 256 bs) al).1 s.2 in (
      ap (λ l. suc k ∷ l) ih.0 ∙ ap (λ l. l ++ s.1) (sym (join_bytes k s.0 lt enough)) ∙ (λ i. exprs_bytes (e.0 i) ++ e.1 i),
      ap exprs_fit (sym e.0) ∙ join_fits k s.0 lt enough ih.1,
    )

-- p, and then n expressions more
abbrev pub glue : Parsed (List Expr) → ℕ → Parsed (List Expr)
glue p n = and_then p (λ es r. and_then (read_exprs n r) (λ fs q. got (es ++ fs) q))

glue_nothing : (p : Parsed (List Expr)) → p ≡ and_then p (λ fs q. got ([] ++ fs) q)
glue_nothing (got es r) = refl
glue_nothing unreadable = refl

glue_push : (e : Expr) (p : Parsed (List Expr)) (n : ℕ) → push e (glue p n) ≡ glue (push e p) n
glue_push e unreadable n = refl
glue_push e (got es r) n = go (read_exprs n r)
  where
    go : (p : Parsed (List Expr)) → push e (and_then p (λ fs q. got (es ++ fs) q)) ≡ and_then p (λ fs q. got ((e ∷ es) ++ fs) q)
    go (got fs q) = refl
    go unreadable = refl

join_append : (k : Kind) (es fs : List Expr) → k.arity ≤ length es → join k (es ++ fs) ≡ join k es ++ fs
unfolding join
join_append k es fs le = λ i. k.make (take-append-le k.arity es fs le i) ∷ drop-append-le k.arity es fs le i

glue_join :
    (k : Kind) (p : Parsed (List Expr)) (n : ℕ) → ((es : List Expr) (r : List ℕ) → p ≡ got es r → k.arity ≤ length es)
    → joined k (glue p n) ≡ glue (joined k p) n
glue_join k unreadable n enough = refl
glue_join k (got es r) n enough = go (read_exprs n r)
  where
    go : (p : Parsed (List Expr)) → joined k (and_then p (λ fs q. got (es ++ fs) q)) ≡ and_then p (λ fs q. got (join k es ++ fs) q)
    go (got fs q) = ap (λ l. got l q) (join_append k es fs (enough es r refl))
    go unreadable = refl

glue_cond : (t : Bool) (p : Parsed (List Expr)) (n : ℕ) → cond t (glue p n) unreadable ≡ glue (cond t p unreadable) n
glue_cond true p n = refl
glue_cond false p n = refl

suc_more : (m n : ℕ) → suc m + n ≡ suc (m + n)
suc_more m n = omega arith

-- m + n expressions are m expressions and then n
pub reads_in_turns : (m n : ℕ) (bs : List ℕ) → read_exprs (m + n) bs ≡ glue (read_exprs m bs) n
unfolding read_exprs
reads_in_turns zero n bs = let e : 0 + n ≡ n = omega arith in ap (λ k. read_exprs k bs) e ∙ glue_nothing (read_exprs n bs)
reads_in_turns (suc m) n [] = ap (λ k. read_exprs k []) (suc_more m n)
reads_in_turns (suc m) n (zero ∷ []) = ap (λ k. read_exprs k (0 ∷ [])) (suc_more m n)
reads_in_turns (suc m) n (zero ∷ x ∷ []) = ap (λ k. read_exprs k (0 ∷ x ∷ [])) (suc_more m n)
reads_in_turns (suc m) n (zero ∷ x ∷ y ∷ bs) =
    let v : Expr = Num (bytes_value (x ∷ y ∷ [])) in
    ap (λ k. read_exprs k (0 ∷ x ∷ y ∷ bs)) (suc_more m n) ∙ ap (push v) (reads_in_turns m n bs) ∙ glue_push v (read_exprs m bs) n
reads_in_turns (suc m) n (suc k ∷ bs) =
    let kd : Kind = kind_after k in
    let sum : kd.arity + (m + n) ≡ (kd.arity + m) + n = omega arith in
    let p : Parsed (List Expr) = read_exprs (kd.arity + m) bs in
    ap (λ j. read_exprs j (suc k ∷ bs)) (suc_more m n)
    ∙ ap (λ q. cond (ltb k 12) (joined kd q) unreadable) (ap (λ j. read_exprs j bs) sum ∙ reads_in_turns (kd.arity + m) n bs)
    ∙ ap (λ q. cond (ltb k 12) q unreadable) (glue_join kd p n (λ es r h. let e = sized (kd.arity + m) bs es r h in omega arith))
    ∙ glue_cond (ltb k 12) (joined kd p) n
