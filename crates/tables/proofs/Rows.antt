-- The record of a new table.
use Rattle.std.proofs.Common.{◌≡◌, ℕ, zero, suc, ◌+◌, ◌-◌, ◌<◌, ◌≤◌, Bool, not, eqb, List, [], ◌∷◌, ◌++◌, length, get_or, take, drop, set, replicate, sym, refl, ap, ◌∙◌, append_assoc, add-one, arith, length-append, length-drop, length-take, true, false}
use mir.Val.{bool_byte}
use borrow.Rule.Slice.PartMut.{put_mid}
use lib.ListN.{length-replicate}
use Rattle.std.proofs.lemmas.List.{length_push, take_all, drop_all, take_at, drop_at, take_more_set, append-nil}
use Rattle.rules.specs.Rules.{Game}
use Rattle.rules.specs.Play.{is_over}
use Rattle.tables.specs.declared.plan.Plan.{Plan}
use Rattle.tables.specs.Layout.{record_place}
use Rattle.tables.specs.Changes.{flag, start_cells, new_record, sat_in}

pub start_length : (g : Game) (n : ℕ) → length (start_cells g n) ≡ n
unfolding start_cells
start_length g zero = refl
start_length g (suc n) = length_push (start_cells g n) _ ∙ omega (arith, start_length g n)

pub start_more : (g : Game) (n : ℕ) → start_cells g (n + 1) ≡ start_cells g n ++ (get_or g.start n 0 ∷ [])
unfolding start_cells
start_more g n = rw (add-one n) refl

-- one more cell was written
pub cell_written :
    (g : Game) (cells : List ℕ) (i x : ℕ) → i < length cells → take i cells ≡ start_cells g i → x ≡ get_or g.start i 0
    → take (i + 1) (set cells i x) ≡ start_cells g (i + 1)
cell_written g cells i x l h e =
    take_more_set cells i x l ∙ (ap (λ y. y ++ (x ∷ [])) h ∙ (ap (λ y. start_cells g i ++ (y ∷ [])) e ∙ sym (start_more g i)))

pub no_cell : (g : Game) (cells : List ℕ) → take 0 cells ≡ start_cells g 0
unfolding start_cells
no_cell g cells = refl

-- all cells were written
pub cells_written :
    (g : Game) (cells : List ℕ) (i n : ℕ) → length cells ≡ n → i ≡ n → take i cells ≡ start_cells g i → cells ≡ start_cells g n
cells_written g cells i n l e h = sym (take_all i cells (omega arith)) ∙ (h ∙ ap (λ k. start_cells g k) e)

-- the first part and the second part of a row were written, one after the other
pub two_parts :
    (a n : ℕ) (xs ys zs : List ℕ) → length xs ≡ a + n → length ys ≡ a → length zs ≡ n
    → put_mid a n (put_mid 0 a xs ys) zs ≡ ys ++ zs
two_parts a n xs ys zs l e f =
    let x : take a (ys ++ drop a xs) ≡ ys = take_at ys (drop a xs) a e in
    let y : drop n (drop a (ys ++ drop a xs)) ≡ [] = rw (drop_at ys (drop a xs) a e) (drop_all n (drop a xs) (simp length-drop (omega arith))) in
    simp (x, y, append-nil)

-- the clocks, as the code fills them
pub clocks_written :
    (p k ticks : ℕ) (xs ys zs : List ℕ) → length xs ≡ 4 → p ≤ 4 → k ≡ p → ys ≡ replicate (length (take k xs)) ticks
    → zs ≡ replicate (length (take (4 - p) (drop p (ys ++ drop k xs)))) 0
    → put_mid p (4 - p) (ys ++ drop k xs) zs ≡ replicate p ticks ++ replicate (4 - p) 0
clocks_written p k ticks xs ys zs l few e f h =
    let ly : length (take k xs) ≡ p = simp length-take (omega arith) in
    let y : ys ≡ replicate p ticks = f ∙ ap (λ n. replicate n ticks) ly in
    let long : length ys ≡ p = ap (λ x. length x) y ∙ length-replicate p ticks in
    let lz : length (take (4 - p) (drop p (ys ++ drop k xs))) ≡ 4 - p = simp (length-take, length-drop, length-append) (omega arith) in
    let z : zs ≡ replicate (4 - p) 0 = h ∙ ap (λ n. replicate n 0) lz in
    let all : put_mid p (4 - p) (ys ++ drop k xs) zs ≡ ys ++ zs =
    rw e (two_parts p (4 - p) xs ys zs (omega arith) long (ap (λ x. length x) z ∙ length-replicate (4 - p) 0)) in
    all ∙ cc

-- three parts of a row were written, one after the other
three_parts :
    (a m n k j : ℕ) (xs ys zs us : List ℕ) → length xs ≡ a + (m + n) → k ≡ a → j ≡ a + m → length ys ≡ a → length zs ≡ m → length us ≡ n
    → put_mid j n (put_mid a m (ys ++ drop k xs) zs) us ≡ ys ++ (zs ++ us)
three_parts a m n k j xs ys zs us l e f ly lz lu =
    let x : take a (ys ++ drop k xs) ≡ ys = take_at ys (drop k xs) a ly in
    let y : drop m (drop a (ys ++ drop k xs)) ≡ drop m (drop k xs) = ap (λ v. drop m v) (drop_at ys (drop k xs) a ly) in
    let inner : put_mid a m (ys ++ drop k xs) zs ≡ (ys ++ zs) ++ drop m (drop k xs) = rw (x, y) (sym (append_assoc ys zs _)) in
    let lyz : length (ys ++ zs) ≡ j = simp length-append (omega arith) in
    let front : take j ((ys ++ zs) ++ drop m (drop k xs)) ≡ ys ++ zs = take_at (ys ++ zs) _ j lyz in
    let back : drop n (drop j ((ys ++ zs) ++ drop m (drop k xs))) ≡ [] =
    rw (drop_at (ys ++ zs) (drop m (drop k xs)) j lyz) (drop_all n (drop m (drop k xs)) (simp (length-drop, length-drop) (omega arith))) in
    rw (inner, front, back, append-nil) (append_assoc ys zs us)

-- the record, as the code writes it
-- a truth as a word
pub truth_word : (b : Bool) {n : ℕ} → n ≡ bool_byte b → n ≡ flag b
truth_word true e = e
truth_word false e = e

pub record_written :
    (g : Game) (n k j a m players ticks at f h : ℕ) (over : Bool) (xs ys zs us : List ℕ) → length xs ≡ n + 9 → players ≤ 4 → k ≡ n → j ≡ 5 → a ≡ n → m ≡ 4
    → ys ≡ start_cells g (length (take k xs)) → over ≡ is_over g (take k (ys ++ drop k xs))
    → zs ≡ replicate players ticks ++ replicate (4 - players) 0
    → f ≡ flag (not (eqb ticks 0)) → h ≡ flag over → us ≡ f ∷ h ∷ 0 ∷ 0 ∷ (at + n + 7) ∷ []
    → put_mid (n + 4) j (put_mid a m (ys ++ drop k xs) zs) us ≡ new_record g n players ticks at
unfolding new_record
record_written g n k j a m players ticks at f h over xs ys zs us l few ek ej ea em ey eo ez ef eo' eu =
    let lt : length (take k xs) ≡ n = simp length-take (omega arith) in
    let y : ys ≡ start_cells g n = ey ∙ ap (λ i. start_cells g i) lt in
    let ly : length ys ≡ n = ap (λ x. length x) y ∙ start_length g n in
    let lz : length zs ≡ 4 =
    ap (λ x. length x) ez ∙ (length-append (replicate players ticks) (replicate (4 - players) 0)
    ∙ omega (arith, length-replicate players ticks, length-replicate {A = ℕ} (4 - players) 0)) in
    let lu : length us ≡ 5 = ap (λ x. length x) eu in
    let q : take k (ys ++ drop k xs) ≡ start_cells g n = take_at ys (drop k xs) k (omega arith) ∙ y in
    let o : over ≡ is_over g (start_cells g n) = eo ∙ ap (λ x. is_over g x) q in
    let parts : put_mid (n + 4) j (put_mid a m (ys ++ drop k xs) zs) us ≡ ys ++ (zs ++ us) =
    rw (ej, ea, em) (three_parts n 4 5 k (n + 4) xs ys zs us (omega arith) ek refl ly lz lu) in
    let is : ys ++ (zs ++ us) ≡ new_record g n players ticks at =
    rw (y, ez, eu, ef, eo', o) (ap (λ x. start_cells g n ++ x) (append_assoc (replicate players ticks) (replicate (4 - players) 0) _)) in
    parts ∙ is

-- a new table, as the code writes it
pub table_added :
    (g : Game) (w row : List ℕ) (p : Plan) (ticks at k : ℕ) → at ≡ record_place p.cells p.seated → k ≡ p.cells + 9
    → row ≡ new_record g p.cells p.players ticks at → set (put_mid at k w row) 9 (p.seated + 1) ≡ sat_in g w p ticks
unfolding sat_in
table_added g w row p ticks at k ea ek er = rw (er, ea, ek) refl
