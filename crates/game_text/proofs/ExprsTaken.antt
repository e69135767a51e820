-- Pieces that the machine takes as expressions are the pieces of expressions.
use Rattle.std.proofs.Common.{◌≡◌, ℕ, zero, suc, ◌+◌, ◌-◌, ◌<◌, ◌≤◌, true, false, ◌&&◌, ltb, List, [], ◌∷◌, ◌++◌, length, get_or, take, drop, set, Some, None, codes, sym, refl, ap, ◌∙◌, subst, arith}
use Rattle.std.proofs.lemmas.List.{append_assoc, append-nil, length-take-le, length-drop, take-append-drop}
use Rattle.std.proofs.lemmas.Bool.{and_parts, and_from, cond-true}
use Rattle.rules.specs.Rules.{Expr, Num, First, Second, Me, Add, Sub, Mul, Div, Rem, Lt, Eq}
use Rattle.wire.specs.Exprs.{expr_fits, Kind, kind_after, join}
use Rattle.wire.specs.Kinds.{kind_number}
use Rattle.wire.specs.declared.kinds.ExprKind.{ExprKind}
use Rattle.wire.specs.declared.kinds.ExprKind.TheVariants as kinds
use Rattle.wire.proofs.Exprs.{exprs_fit}
use Rattle.wire.proofs.ExprsKinds.{lawful}
use Rattle.text.specs.Grammar.{Piece, word, number}
use Rattle.game_text.specs.declared.progress.Part.{Part}
use Rattle.game_text.specs.declared.progress.Stage.TheVariants.{Expr as AnExpr}
use Rattle.game_text.specs.declared.progress.Word.{Word}
use Rattle.game_text.specs.declared.progress.Word.TheVariants.{Kind as TheKind}
use Rattle.game_text.specs.declared.progress.Progress.{Progress}
use Rattle.game_text.specs.Text.{expr_pieces}
use Rattle.game_text.specs.Machine.{State, spelling, kind_words, look, pending, part_ended, number_taken, word_taken, is_end}
use Rattle.game_text.proofs.Spelled.{found_cases, look_same}
use Rattle.game_text.proofs.Runs.{run, run_none}
use Rattle.game_text.proofs.Pieces.{clash}
use Rattle.game_text.proofs.Feeding.{state, first_taken, number_small}
use Rattle.game_text.proofs.FeedingBack.{then_some, same_some}

unfoldable pub exprs_pieces : List Expr → List Piece
exprs_pieces [] = []
exprs_pieces (e ∷ es) = expr_pieces e ++ exprs_pieces es

pieces_append : (es fs : List Expr) → exprs_pieces (es ++ fs) ≡ exprs_pieces es ++ exprs_pieces fs
unfolding exprs_pieces
pieces_append [] fs = refl
pieces_append (e ∷ es) fs = ap (λ l. expr_pieces e ++ l) (pieces_append es fs) ∙ sym (append_assoc (expr_pieces e) (exprs_pieces es) (exprs_pieces fs))

-- the words of expressions, by their kinds from 1 on
abbrev expr_words : List (List ℕ)
expr_words =
    codes "cell" ∷ codes "first" ∷ codes "second" ∷ codes "me" ∷ codes "+" ∷ codes "-" ∷ codes "*" ∷ codes "/" ∷ codes "rest" ∷ codes "below" ∷ codes "same"
    ∷ codes "if" ∷ []

-- an expression is its word and its parts
abbrev Spelled : ℕ → Kind → List Expr → Type 0
Spelled k kd es = expr_pieces (kd.make es) ≡ word (get_or expr_words k []) ∷ exprs_pieces es

leaf_spelled : (e : Expr) (w : List ℕ) (es : List Expr) → expr_pieces e ≡ word w ∷ [] → length es ≡ 0 → expr_pieces e ≡ word w ∷ exprs_pieces es
unfolding exprs_pieces
leaf_spelled e w [] s h = s
leaf_spelled e w (a ∷ es) s h = absurd (omega arith)

two_spelled :
    (f : Expr → Expr → Expr) (w : List ℕ) → ((a b : Expr) → expr_pieces (f a b) ≡ word w ∷ (expr_pieces a ++ expr_pieces b)) → (es : List Expr) → length es ≡ 2
    → expr_pieces (f (get_or es 0 (Num 0)) (get_or es 1 (Num 0))) ≡ word w ∷ exprs_pieces es
unfolding exprs_pieces
two_spelled f w s [] h = absurd (omega arith)
two_spelled f w s (a ∷ []) h = absurd (omega arith)
two_spelled f w s (a ∷ b ∷ []) h = s a b ∙ ap (λ l. word w ∷ (expr_pieces a ++ l)) (sym (append-nil (expr_pieces b)))
two_spelled f w s (a ∷ b ∷ c ∷ es) h = absurd (omega arith)

cell_spelled : (es : List Expr) → length es ≡ 1 → Spelled 0 (kind_after 0) es
unfolding kind_after expr_pieces exprs_pieces
cell_spelled [] h = absurd (omega arith)
cell_spelled (a ∷ []) h = ap (λ l. word (get_or expr_words 0 []) ∷ l) (sym (append-nil (expr_pieces a)))
cell_spelled (a ∷ b ∷ es) h = absurd (omega arith)

if_spelled : (es : List Expr) → length es ≡ 3 → Spelled 11 (kind_after 11) es
unfolding kind_after expr_pieces exprs_pieces
if_spelled [] h = absurd (omega arith)
if_spelled (a ∷ []) h = absurd (omega arith)
if_spelled (a ∷ b ∷ []) h = absurd (omega arith)
if_spelled (a ∷ b ∷ c ∷ []) h = ap (λ l. word (get_or expr_words 11 []) ∷ (expr_pieces a ++ (expr_pieces b ++ l))) (sym (append-nil (expr_pieces c)))
if_spelled (a ∷ b ∷ c ∷ d ∷ es) h = absurd (omega arith)

kind_spelled : (k : ℕ) → k < 12 → (es : List Expr) → length es ≡ (kind_after k).arity → Spelled k (kind_after k) es
unfolding kind_after expr_pieces
kind_spelled zero lt es h = cell_spelled es h
kind_spelled (suc zero) lt es h = leaf_spelled First (get_or expr_words 1 []) es refl h
kind_spelled (suc (suc zero)) lt es h = leaf_spelled Second (get_or expr_words 2 []) es refl h
kind_spelled (suc (suc (suc zero))) lt es h = leaf_spelled Me (get_or expr_words 3 []) es refl h
kind_spelled (suc (suc (suc (suc zero)))) lt es h = two_spelled Add (get_or expr_words 4 []) (λ a b. refl) es h
kind_spelled (suc (suc (suc (suc (suc zero))))) lt es h = two_spelled Sub (get_or expr_words 5 []) (λ a b. refl) es h
kind_spelled (suc (suc (suc (suc (suc (suc zero)))))) lt es h = two_spelled Mul (get_or expr_words 6 []) (λ a b. refl) es h
kind_spelled (suc (suc (suc (suc (suc (suc (suc zero))))))) lt es h = two_spelled Div (get_or expr_words 7 []) (λ a b. refl) es h
kind_spelled (suc (suc (suc (suc (suc (suc (suc (suc zero)))))))) lt es h = two_spelled Rem (get_or expr_words 8 []) (λ a b. refl) es h
kind_spelled (suc (suc (suc (suc (suc (suc (suc (suc (suc zero))))))))) lt es h = two_spelled Lt (get_or expr_words 9 []) (λ a b. refl) es h
kind_spelled (suc (suc (suc (suc (suc (suc (suc (suc (suc (suc zero)))))))))) lt es h = two_spelled Eq (get_or expr_words 10 []) (λ a b. refl) es h
kind_spelled (suc (suc (suc (suc (suc (suc (suc (suc (suc (suc (suc zero))))))))))) lt es h = if_spelled es h
kind_spelled (suc (suc (suc (suc (suc (suc (suc (suc (suc (suc (suc (suc k)))))))))))) lt es h = absurd (omega arith)

join_pieces : (k : ℕ) (es : List Expr) → k < 12 → (kind_after k).arity ≤ length es → exprs_pieces (join (kind_after k) es) ≡ word (get_or expr_words k []) ∷ exprs_pieces es
unfolding exprs_pieces join
join_pieces k es lt le =
    let n : ℕ = (kind_after k).arity in
    ap (λ l. l ++ exprs_pieces (drop n es)) (kind_spelled k lt (take n es) (length-take-le n es le))
    ∙ ap (λ l. word (get_or expr_words k []) ∷ l) (sym (pieces_append (take n es) (drop n es)) ∙ ap exprs_pieces (take-append-drop n es))

fits_append : (es fs : List Expr) → exprs_fit (es ++ fs) ≡ true → (exprs_fit es && exprs_fit fs) ≡ true
unfolding exprs_fit
fits_append [] fs h = h
fits_append (e ∷ es) fs h =
    let p = and_parts (expr_fits e) (exprs_fit (es ++ fs)) h in
    let q = and_parts (exprs_fit es) (exprs_fit fs) (fits_append es fs p.1) in
    and_from (expr_fits e && exprs_fit es) (exprs_fit fs) (and_from (expr_fits e) (exprs_fit es) p.0 q.0) q.1

join_fits : (k : ℕ) (es : List Expr) → k < 12 → (kind_after k).arity ≤ length es → exprs_fit es ≡ true → exprs_fit (join (kind_after k) es) ≡ true
unfolding exprs_fit join
join_fits k es lt le h =
    let n : ℕ = (kind_after k).arity in
    let law = lawful k lt (take n es) (length-take-le n es le) in
    ap (λ t. t && exprs_fit (drop n es)) law.fits ∙ fits_append (take n es) (drop n es) (ap exprs_fit (take-append-drop n es) ∙ h)

join_length : (k : ℕ) (es : List Expr) (n : ℕ) → length es ≡ n + (kind_after k).arity → length (join (kind_after k) es) ≡ suc n
unfolding join
join_length k es n h = let d : length (drop (kind_after k).arity es) ≡ n = omega (arith, length-drop (kind_after k).arity es) in ap suc d

-- the words of expressions are found among them
abbrev AKind : Word → Type 0
AKind w = (k : ExprKind) × (1 ≤ kind_number k) × (w ≡ TheKind k)

abbrev AllKinds : List Word → Type 0
AllKinds [] = Unit {0}
AllKinds (w ∷ ws) = AKind w × AllKinds ws

found_kind : (ws : List Word) (l : List ℕ) (w : Word) → AllKinds ws → look true ws l ≡ Some w → AKind w
found_kind [] l w a e = let z : ◌≡◌ {A = ℕ} 0 1 = cc in absurd (omega arith)
found_kind (v ∷ ws) l w a e = found_cases true v ws l w (AKind w) e (λ t s. subst AKind s a.0) (found_kind ws l w a.1)

all_kinds : AllKinds kind_words
all_kinds =
    ((kinds.Cell, omega arith, refl), ((kinds.First, omega arith, refl), ((kinds.Second, omega arith, refl), ((kinds.Me, omega arith, refl), ((kinds.Add, omega arith, refl), ((kinds.Sub, omega arith, refl), ((kinds.Mul, omega arith, refl), ((kinds.Div, omega arith, refl), ((kinds.Rem, omega arith, refl), ((kinds.Lt, omega arith, refl), ((kinds.Eq, omega arith, refl), ((kinds.If, omega arith, refl), tt))))))))))))

few_kinds : (k : ExprKind) → kind_number k ≤ 12
few_kinds kinds.Num = omega arith
few_kinds kinds.Cell = omega arith
few_kinds kinds.First = omega arith
few_kinds kinds.Second = omega arith
few_kinds kinds.Me = omega arith
few_kinds kinds.Add = omega arith
few_kinds kinds.Sub = omega arith
few_kinds kinds.Mul = omega arith
few_kinds kinds.Div = omega arith
few_kinds kinds.Rem = omega arith
few_kinds kinds.Lt = omega arith
few_kinds kinds.Eq = omega arith
few_kinds kinds.If = omega arith

kind_spelling : (k : ExprKind) → 1 ≤ kind_number k → spelling (TheKind k) ≡ get_or expr_words (kind_number k - 1) []
kind_spelling kinds.Num h = absurd (omega arith)
kind_spelling kinds.Cell h = refl
kind_spelling kinds.First h = refl
kind_spelling kinds.Second h = refl
kind_spelling kinds.Me h = refl
kind_spelling kinds.Add h = refl
kind_spelling kinds.Sub h = refl
kind_spelling kinds.Mul h = refl
kind_spelling kinds.Div h = refl
kind_spelling kinds.Rem h = refl
kind_spelling kinds.Lt h = refl
kind_spelling kinds.Eq h = refl
kind_spelling kinds.If h = refl

-- n expressions of a part t, after c cells, r rules and k effects were counted, and what follows them
pub record ExprsThen (n : ℕ) (t : Part) (c r k : ℕ) (ps : List Piece) (s : State) : Type 0 where
  pub es : List Expr
  pub rest : List Piece
  pub len : ℕ
  pub place : ℕ
  pub more : ℕ
  pub memory : List ℕ
  pub many : length es ≡ n
  pub is : ps ≡ exprs_pieces es ++ rest
  pub fits : exprs_fit es ≡ true
  pub on : run (part_ended t (record { stage = AnExpr; part = t; more = more; cells = c; rules = r; sets = k; len = len; sets_at = place }) memory) rest ≡ Some s

-- one more expression in front, from those to come
num_then :
    (v n : ℕ) (t : Part) (c r k : ℕ) (qs : List Piece) (s : State) → ltb v 65536 ≡ true → ExprsThen n t c r k qs s → ExprsThen (suc n) t c r k (number v ∷ qs) s
unfolding exprs_pieces exprs_fit expr_pieces expr_fits
num_then v n t c r k qs s h x = record {
  es = Num v ∷ x.es;
  rest = x.rest;
  len = x.len;
  place = x.place;
  more = x.more;
  memory = x.memory;
  many = ap suc x.many;
  is = ap (λ l. number v ∷ l) x.is;
  fits = and_from (ltb v 65536) (exprs_fit x.es) h x.fits;
  on = x.on;
}

kind_then :
    (j n : ℕ) (t : Part) (c r k : ℕ) (qs : List Piece) (s : State) → j < 12 → ExprsThen (n + (kind_after j).arity) t c r k qs s
    → ExprsThen (suc n) t c r k (word (get_or expr_words j []) ∷ qs) s
kind_then j n t c r k qs s lt x =
    let le : (kind_after j).arity ≤ length x.es = omega (arith, x.many) in
    record {
      es = join (kind_after j) x.es;
      rest = x.rest;
      len = x.len;
      place = x.place;
      more = x.more;
      memory = x.memory;
      many = join_length j x.es n x.many;
      is = ap (λ l. word (get_or expr_words j []) ∷ l) x.is ∙ ap (λ l. l ++ x.rest) (sym (join_pieces j x.es lt le));
      fits = join_fits j x.es lt le x.fits;
      on = x.on;
    }

-- what is awaited is not there, if the pieces end
pub not_ended : (p : Progress) (memory : List ℕ) (s : State) (A : Type 0) → is_end p.stage ≡ false → run (state p memory) [] ≡ Some s → is_end s.at.stage ≡ true → A
not_ended p memory s A f e t =
    let same : state p memory ≡ s = same_some (state p memory) s (sym (run_none (state p memory)) ∙ e) in
    clash (is_end s.at.stage) t (ap (λ (z : State). is_end z.at.stage) (sym same) ∙ f)

abbrev pub in_expr : Part → ℕ → ℕ → ℕ → ℕ → ℕ → ℕ → Progress
in_expr t m c r k l a = record { stage = AnExpr; part = t; more = m; cells = c; rules = r; sets = k; len = l; sets_at = a }

-- so many are still to come, as they are taken from qs
pending_then :
    (n : ℕ) (t : Part) (m c r k l a : ℕ) (memory : List ℕ) (qs : List Piece) (s : State)
    → ((n l a : ℕ) (memory : List ℕ) → run (state (in_expr t n c r k l a) memory) qs ≡ Some s → ExprsThen (suc n) t c r k qs s)
    → run (pending n (in_expr t m c r k l a) memory) qs ≡ Some s → ExprsThen n t c r k qs s
unfolding exprs_pieces exprs_fit
pending_then zero t m c r k l a memory qs s go e =
    record { es = []; rest = qs; len = l; place = a; more = m; memory = memory; many = refl; is = refl; fits = refl; on = e }
pending_then (suc n) t m c r k l a memory qs s go e = go n l a memory e

pub exprs_taken :
    (ps : List Piece) (t : Part) (m c r k l a : ℕ) (memory : List ℕ) (s : State) → run (state (in_expr t m c r k l a) memory) ps ≡ Some s → is_end s.at.stage ≡ true
    → ExprsThen (suc m) t c r k ps s
exprs_taken [] t m c r k l a memory s e z = not_ended (in_expr t m c r k l a) memory s _ refl e z
exprs_taken (number v ∷ qs) t m c r k l a memory s e z =
    let p : Progress = in_expr t m c r k l a in
    let f = first_taken p memory (number v) qs s e in
    let h = number_small p memory v f.to f.took in
    let to : number_taken AnExpr v p memory ≡ f.to = same_some _ f.to (sym (cond-true (ltb v 65536) _ None h) ∙ f.took) in
    num_then v m t c r k qs s h
    (pending_then m t m c r k (l + 3) a _ qs s (λ n l a memory e. exprs_taken qs t n c r k l a memory s e z) (ap (λ x. run x qs) to ∙ f.on))
exprs_taken (word w ∷ qs) t m c r k l a memory s e z =
    let p : Progress = in_expr t m c r k l a in
    let f = first_taken p memory (word w) qs s e in
    let g = then_some (look true kind_words w) (λ v. Some (word_taken v p memory)) f.to f.took in
    let d = found_kind kind_words w g.0 all_kinds g.1 in
    let j : ℕ = kind_number d.0 - 1 in
    let spelled : w ≡ get_or expr_words j [] = look_same kind_words w g.0 g.1 ∙ ap spelling d.2 ∙ kind_spelling d.0 d.1 in
    let to : pending (m + (kind_after j).arity) (in_expr t m c r k (l + 1) a) (set memory l (kind_number d.0)) ≡ f.to =
    ap (λ v. word_taken v p memory) (sym d.2) ∙ same_some _ f.to g.2
    in
    subst (λ x. ExprsThen (suc m) t c r k (word x ∷ qs) s) (sym spelled)
    (kind_then j m t c r k qs s (omega (arith, d.1, few_kinds d.0))
    (pending_then (m + (kind_after j).arity) t m c r k (l + 1) a (set memory l (kind_number d.0)) qs s (λ n l a memory e. exprs_taken qs t n c r k l a memory s e z) (ap (λ x. run x qs) to ∙ f.on)))
