-- Expressions printed one after the other, by the count of those still to come.
use Rattle.std.proofs.Common.{◌≡◌, ℕ, ◌+◌, ◌-◌, ◌%◌, ◌<◌, ◌≤◌, true, ◌&&◌, ◌⊎◌, List, [], ◌∷◌, ◌++◌, length, get_or, drop, decimal, sym, refl, ap, ◌∙◌, subst, inl, inr, append_assoc, append-nil, arith}
use Rattle.std.proofs.lemmas.List.{length-append, nil_from_length}
use Rattle.std.proofs.lemmas.Bool.{and_parts, and_from, ltb-true, cases_eq}
use Rattle.rules.specs.Rules.{Expr, Num, Cell, First, Second, Me, Add, Sub, Mul, Div, Rem, Lt, Eq, If}
use Rattle.wire.specs.Exprs.{expr_bytes, expr_fits, kind_after}
use Rattle.wire.specs.Numbers.{number_bytes}
use Rattle.wire.proofs.Numbers.{length_bytes}
use Rattle.wire.specs.Fields.{field_at}
use Rattle.text.specs.Grammar.{Piece, printed_piece}
use Rattle.game_text.specs.Text.{expr_pieces}
use Rattle.printing.specs.declared.writer.Writer.{Writer}
use Rattle.printing.specs.Games.{spaced}
use Rattle.printing.specs.Puts.{Wrote}
use Rattle.printing.specs.Walk.{exprs_bytes, exprs_fit, exprs_pieces, kind_word, parts, head_text, Headed, Walked, exprs_text}
use Rattle.printing.proofs.Putting.{join, nothing}
use Rattle.printing.proofs.Rows.{Left}
use Rattle.printing.proofs.Standing.{rest_at, two_at}

-- an expression that is no number: its kind, and then its parts
record Coded (e : Expr) : Type 0 where
  pub kind : ℕ
  pub some : 1 ≤ kind
  pub known : kind ≤ 12
  pub bytes : expr_bytes e ≡ kind ∷ exprs_bytes (parts e)
  pub text : head_text e ≡ kind_word kind
  pub arity : (kind_after (kind - 1)).arity ≡ length (parts e)

-- by how many parts there are
none : (e : Expr) (k : ℕ) → 1 ≤ k → k ≤ 12 → expr_bytes e ≡ k ∷ [] → parts e ≡ [] → head_text e ≡ kind_word k → (kind_after (k - 1)).arity ≡ 0 → Coded e
unfolding exprs_bytes
none e k l m b p t a = record { kind = k; some = l; known = m; bytes = rw p b; text = t; arity = rw p a }

one : (e a : Expr) (k : ℕ) → 1 ≤ k → k ≤ 12 → expr_bytes e ≡ k ∷ expr_bytes a → parts e ≡ a ∷ [] → head_text e ≡ kind_word k → (kind_after (k - 1)).arity ≡ 1 → Coded e
unfolding exprs_bytes
one e a k l m b p t n = record { kind = k; some = l; known = m; bytes = rw (p, append-nil) b; text = t; arity = rw p n }

two : (e a b : Expr) (k : ℕ) → 1 ≤ k → k ≤ 12 → expr_bytes e ≡ k ∷ (expr_bytes a ++ expr_bytes b) → parts e ≡ a ∷ b ∷ [] → head_text e ≡ kind_word k → (kind_after (k - 1)).arity ≡ 2 → Coded e
unfolding exprs_bytes
two e a b k l m h p t n = record { kind = k; some = l; known = m; bytes = rw (p, append-nil) h; text = t; arity = rw p n }

three :
    (e a b c : Expr) (k : ℕ) → 1 ≤ k → k ≤ 12 → expr_bytes e ≡ k ∷ (expr_bytes a ++ (expr_bytes b ++ expr_bytes c)) → parts e ≡ a ∷ b ∷ c ∷ [] → head_text e ≡ kind_word k →
    (kind_after (k - 1)).arity ≡ 3 → Coded e
unfolding exprs_bytes
three e a b c k l m h p t n = record { kind = k; some = l; known = m; bytes = rw (p, append-nil) h; text = t; arity = rw p n }

coded : (e : Expr) → ((n : ℕ) × (e ≡ Num n)) ⊎ Coded e
unfolding expr_bytes parts head_text kind_after
coded (Num n) = inl (n, refl)
coded (Cell a) = inr (one (Cell a) a 1 (omega arith) (omega arith) refl refl refl refl)
coded First = inr (none First 2 (omega arith) (omega arith) refl refl refl refl)
coded Second = inr (none Second 3 (omega arith) (omega arith) refl refl refl refl)
coded Me = inr (none Me 4 (omega arith) (omega arith) refl refl refl refl)
coded (Add a b) = inr (two (Add a b) a b 5 (omega arith) (omega arith) refl refl refl refl)
coded (Sub a b) = inr (two (Sub a b) a b 6 (omega arith) (omega arith) refl refl refl refl)
coded (Mul a b) = inr (two (Mul a b) a b 7 (omega arith) (omega arith) refl refl refl refl)
coded (Div a b) = inr (two (Div a b) a b 8 (omega arith) (omega arith) refl refl refl refl)
coded (Rem a b) = inr (two (Rem a b) a b 9 (omega arith) (omega arith) refl refl refl refl)
coded (Lt a b) = inr (two (Lt a b) a b 10 (omega arith) (omega arith) refl refl refl refl)
coded (Eq a b) = inr (two (Eq a b) a b 11 (omega arith) (omega arith) refl refl refl refl)
coded (If a b c) = inr (three (If a b c) a b c 12 (omega arith) (omega arith) refl refl refl refl)

module _ {bs r : List ℕ} {a b : Writer} (after : r ≡ drop 1 bs) where
  -- a number
  pub number_headed :
      {left : List ℕ} (v : ℕ) → get_or bs 0 0 ≡ 0 → v ≡ field_at r 0 % 65536 → left ≡ drop 2 r → Wrote a (32 ∷ decimal v) b → (e : Expr) (rest : List ℕ) → bs ≡ expr_bytes e ++ rest →
      expr_fits e ≡ true → Headed a b e 0 left rest
  unfolding expr_bytes expr_fits head_text parts exprs_bytes spaced
  number_headed {left} v z is next h e rest stands fits =
      elim (coded e) [
        | inl n ↦
            let k : bs ≡ expr_bytes (Num n.0) ++ rest = stands ∙ ap (λ x. expr_bytes x ++ rest) n.1 in
            let two : r ≡ number_bytes 2 n.0 ++ rest = rest_at 1 (0 ∷ []) after k refl in
            let same : v ≡ n.0 = is ∙ two_at n.0 rest (ltb-true n.0 65536 (ap expr_fits (sym n.1) ∙ fits)) two in
            subst (λ x. Headed a b x 0 left rest) (sym n.1)
            (record {
              wrote = subst (λ ds. Wrote a (32 ∷ ds) b) (ap decimal same ∙ sym (append-nil (decimal n.0))) h;
              next = rest_at 2 (number_bytes 2 n.0) next two (length_bytes 2 n.0);
              count = refl;
            })
        | inr d ↦ absurd (omega (arith, d.some, z, ap (λ (xs : List ℕ). get_or xs 0 0) (stands ∙ ap (λ x. x ++ rest) d.bytes)))
      ]

  -- any other kind
  pub kind_headed :
      (k n : ℕ) → 1 ≤ k → k ≡ get_or bs 0 0 → n ≡ (kind_after (k - 1)).arity → Wrote a (kind_word k) b → (e : Expr) (rest : List ℕ) → bs ≡ expr_bytes e ++ rest →
      Headed a b e n r rest
  unfolding expr_bytes
  kind_headed k n some is arity h e rest stands =
      elim (coded e) [
        | inl m ↦ absurd (omega (arith, is, ap (λ (xs : List ℕ). get_or xs 0 0) (stands ∙ ap (λ x. expr_bytes x ++ rest) m.1)))
        | inr d ↦
            let cut : bs ≡ d.kind ∷ (exprs_bytes (parts e) ++ rest) = stands ∙ ap (λ x. x ++ rest) d.bytes in
            let same : k ≡ d.kind = is ∙ ap (λ (xs : List ℕ). get_or xs 0 0) cut in
            record {
              wrote = subst (λ w. Wrote a w b) (ap kind_word same ∙ sym d.text) h;
              next = rest_at 1 (d.kind ∷ []) after cut refl;
              count = arity ∙ ap (λ x. (kind_after (x - 1)).arity) same ∙ d.arity;
            }
      ]

-- a byte that is no kind begins no expression
pub no_kind : {bs : List ℕ} {k : ℕ} → 12 < k → k ≡ get_or bs 0 0 → (e : Expr) (rest : List ℕ) → bs ≡ expr_bytes e ++ rest → ⊥
unfolding expr_bytes
no_kind large is e rest stands =
    elim (coded e) [
      | inl m ↦ omega (arith, is, ap (λ (xs : List ℕ). get_or xs 0 0) (stands ∙ ap (λ x. expr_bytes x ++ rest) m.1))
      | inr d ↦ omega (arith, is, d.known, ap (λ (xs : List ℕ). get_or xs 0 0) (stands ∙ ap (λ x. x ++ rest) d.bytes))
    ]

pub spaced_append : (ps qs : List Piece) → spaced (ps ++ qs) ≡ spaced ps ++ spaced qs
unfolding spaced
spaced_append [] qs = refl
spaced_append (p ∷ ps) qs =
    ap (λ x. 32 ∷ (printed_piece p ++ x)) (spaced_append ps qs) ∙ ap (λ x. 32 ∷ x) (sym (append_assoc (printed_piece p) (spaced ps) (spaced qs)))

pieces_append : (es fs : List Expr) → exprs_pieces (es ++ fs) ≡ exprs_pieces es ++ exprs_pieces fs
unfolding exprs_pieces
pieces_append [] fs = refl
pieces_append (e ∷ es) fs = ap (λ x. expr_pieces e ++ x) (pieces_append es fs) ∙ sym (append_assoc (expr_pieces e) (exprs_pieces es) (exprs_pieces fs))

bytes_append : (es fs : List Expr) → exprs_bytes (es ++ fs) ≡ exprs_bytes es ++ exprs_bytes fs
unfolding exprs_bytes
bytes_append [] fs = refl
bytes_append (e ∷ es) fs = ap (λ x. expr_bytes e ++ x) (bytes_append es fs) ∙ sym (append_assoc (expr_bytes e) (exprs_bytes es) (exprs_bytes fs))

fit_append : (es fs : List Expr) → exprs_fit es ≡ true → exprs_fit fs ≡ true → exprs_fit (es ++ fs) ≡ true
unfolding exprs_fit
fit_append [] fs h k = k
fit_append (e ∷ es) fs h k =
    let p = and_parts (expr_fits e) (exprs_fit es) h in and_from (expr_fits e) (exprs_fit (es ++ fs)) p.0 (fit_append es fs p.1 k)

pieces_one : (a : Expr) → exprs_pieces (a ∷ []) ≡ expr_pieces a
unfolding exprs_pieces
pieces_one a = append-nil (expr_pieces a)

pieces_two : (a b : Expr) → exprs_pieces (a ∷ b ∷ []) ≡ expr_pieces a ++ expr_pieces b
unfolding exprs_pieces
pieces_two a b = ap (λ x. expr_pieces a ++ x) (append-nil (expr_pieces b))

pieces_three : (a b c : Expr) → exprs_pieces (a ∷ b ∷ c ∷ []) ≡ expr_pieces a ++ (expr_pieces b ++ expr_pieces c)
unfolding exprs_pieces
pieces_three a b c = ap (λ x. expr_pieces a ++ (expr_pieces b ++ x)) (append-nil (expr_pieces c))

-- an expression is printed as its head, and then its parts
headed_text : (e : Expr) → spaced (expr_pieces e) ≡ head_text e ++ spaced (exprs_pieces (parts e))
unfolding expr_pieces head_text parts spaced exprs_pieces
headed_text (Num n) = sym (append-nil (32 ∷ (decimal n ++ [])))
headed_text (Cell a) = ap (λ x. kind_word 1 ++ spaced x) (sym (pieces_one a))
headed_text First = refl
headed_text Second = refl
headed_text Me = refl
headed_text (Add a b) = ap (λ x. kind_word 5 ++ spaced x) (sym (pieces_two a b))
headed_text (Sub a b) = ap (λ x. kind_word 6 ++ spaced x) (sym (pieces_two a b))
headed_text (Mul a b) = ap (λ x. kind_word 7 ++ spaced x) (sym (pieces_two a b))
headed_text (Div a b) = ap (λ x. kind_word 8 ++ spaced x) (sym (pieces_two a b))
headed_text (Rem a b) = ap (λ x. kind_word 9 ++ spaced x) (sym (pieces_two a b))
headed_text (Lt a b) = ap (λ x. kind_word 10 ++ spaced x) (sym (pieces_two a b))
headed_text (Eq a b) = ap (λ x. kind_word 11 ++ spaced x) (sym (pieces_two a b))
headed_text (If a b c) = ap (λ x. kind_word 12 ++ spaced x) (sym (pieces_three a b c))

both_fit : (a b : Expr) → (expr_fits a && expr_fits b) ≡ true → exprs_fit (a ∷ b ∷ []) ≡ true
unfolding exprs_fit
both_fit a b h =
    let p = and_parts (expr_fits a) (expr_fits b) h in and_from (expr_fits a) (expr_fits b && true) p.0 (and_from (expr_fits b) true p.1 refl)

parts_fit : (e : Expr) → expr_fits e ≡ true → exprs_fit (parts e) ≡ true
unfolding expr_fits exprs_fit parts
parts_fit (Num n) h = refl
parts_fit (Cell a) h = and_from (expr_fits a) true h refl
parts_fit First h = refl
parts_fit Second h = refl
parts_fit Me h = refl
parts_fit (Add a b) h = both_fit a b h
parts_fit (Sub a b) h = both_fit a b h
parts_fit (Mul a b) h = both_fit a b h
parts_fit (Div a b) h = both_fit a b h
parts_fit (Rem a b) h = both_fit a b h
parts_fit (Lt a b) h = both_fit a b h
parts_fit (Eq a b) h = both_fit a b h
parts_fit (If a b c) h =
    let p = and_parts (expr_fits a) (expr_fits b && expr_fits c) h in and_from (expr_fits a) (exprs_fit (b ∷ c ∷ [])) p.0 (both_fit b c p.1)

-- there is a byte to each expression, at least
pub head_some : (e : Expr) → 1 ≤ length (expr_bytes e)
unfolding expr_bytes
head_some e = elim (coded e) [ inl n ↦ rw n.1 (omega arith) | inr d ↦ rw d.bytes (omega arith) ]

bytes_some : (es : List Expr) → length es ≤ length (exprs_bytes es)
unfolding exprs_bytes
bytes_some [] = omega arith
bytes_some (e ∷ es) = omega (arith, head_some e, bytes_some es, length-append (expr_bytes e) (exprs_bytes es))

module _ {bs : List ℕ} {n : ℕ} {from now : Writer} {es : List Expr} {rest : List ℕ} where
  more :
      {k : ℕ} {left : List ℕ} {mid : Writer} → 0 < n → ((e : Expr) (q : List ℕ) → bs ≡ expr_bytes e ++ q → expr_fits e ≡ true → Headed now mid e k left q) →
      (fs : List Expr) → bs ≡ exprs_bytes fs ++ rest → exprs_fit fs ≡ true → length fs ≡ n →
      ((new : Writer) → Wrote now (spaced (exprs_pieces fs)) new → Wrote from (spaced (exprs_pieces es)) new) →
      Left exprs_bytes exprs_fit exprs_text left (n - 1 + k) from mid es rest
  unfolding exprs_bytes exprs_fit exprs_pieces
  more some one [] b f l on = absurd (omega arith)
  more some one (e ∷ fs) b f l on =
      let p = and_parts (expr_fits e) (exprs_fit fs) f in
      let head = one e (exprs_bytes fs ++ rest) (b ∙ append_assoc (expr_bytes e) (exprs_bytes fs) rest) p.0 in
      let text : head_text e ++ spaced (exprs_pieces (parts e ++ fs)) ≡ spaced (expr_pieces e ++ exprs_pieces fs) =
      ap (λ x. head_text e ++ x) (ap spaced (pieces_append (parts e) fs) ∙ spaced_append (exprs_pieces (parts e)) (exprs_pieces fs))
      ∙ sym (append_assoc (head_text e) (spaced (exprs_pieces (parts e))) (spaced (exprs_pieces fs))) ∙ ap (λ x. x ++ spaced (exprs_pieces fs)) (sym (headed_text e))
      ∙ sym (spaced_append (expr_pieces e) (exprs_pieces fs))
      in
      record {
        xs = parts e ++ fs;
        bytes = head.next ∙ sym (append_assoc (exprs_bytes (parts e)) (exprs_bytes fs) rest) ∙ ap (λ x. x ++ rest) (sym (bytes_append (parts e) fs));
        fit = fit_append (parts e) fs (parts_fit e p.0) p.1;
        count = length-append (parts e) fs ∙ omega (arith, head.count);
        on = λ new g. on new (subst (λ t. Wrote now t new) text (join head.wrote g));
      }

  pub heads_more :
      {k : ℕ} {left : List ℕ} {mid : Writer} → 0 < n → ((e : Expr) (q : List ℕ) → bs ≡ expr_bytes e ++ q → expr_fits e ≡ true → Headed now mid e k left q) →
      Left exprs_bytes exprs_fit exprs_text bs n from now es rest → Left exprs_bytes exprs_fit exprs_text left (n - 1 + k) from mid es rest
  heads_more some one l = more some one l.xs l.bytes l.fit l.count l.on

  pub heads_end : (0 < n → length bs < n) → Left exprs_bytes exprs_fit exprs_text bs n from now es rest → Walked from now (spaced (exprs_pieces es)) bs rest
  unfolding spaced exprs_pieces exprs_bytes
  heads_end ends l =
      let size : length bs ≡ length (exprs_bytes l.xs) + length rest = ap length l.bytes ∙ length-append (exprs_bytes l.xs) rest in
      let none : l.xs ≡ [] =
      elim (cases_eq n 0) [
        | inl z ↦ nil_from_length l.xs (l.count ∙ z)
        | inr z ↦ let some : 0 < n = omega arith in absurd (omega (arith, ends some, bytes_some l.xs, size))
      ]
      in
      record {
        wrote = l.on now (subst (λ fs. Wrote now (spaced (exprs_pieces fs)) now) (sym none) (nothing now));
        next = l.bytes ∙ ap (λ fs. exprs_bytes fs ++ rest) none;
      }
