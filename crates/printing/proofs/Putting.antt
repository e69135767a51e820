-- Bytes put one after the other are put together.
use Rattle.std.proofs.Common.{◌≡◌, ℕ, ◌+◌, ◌<◌, ◌≤◌, min, List, [], ◌∷◌, ◌++◌, length, get_or, take, set, sym, refl, ap, ◌∙◌, arith}
use Rattle.std.proofs.lemmas.List.{append_assoc, length-append, length_push, take_more, set_past, set_at}
use Rattle.game_text.specs.Filling.{filled}
use Rattle.printing.specs.declared.writer.Writer.{Writer}
use Rattle.printing.specs.Puts.{after, past, put, Wrote}

past_join : (i : ℕ) (xs bs : List ℕ) → past (past i xs) bs ≡ past i (xs ++ bs)
unfolding past
past_join i [] bs = refl
past_join i (x ∷ xs) bs = past_join (after i) xs bs

put_join : (i : ℕ) (xs bs old : List ℕ) → put (past i xs) bs (put i xs old) ≡ put i (xs ++ bs) old
unfolding past put
put_join i [] bs old = refl
put_join i (x ∷ xs) bs old = put_join (after i) xs bs (set old i x)

-- one after the other
pub join : {a b c : Writer} {xs bs : List ℕ} → Wrote a xs b → Wrote b bs c → Wrote a (xs ++ bs) c
join {a} {b} {c} {xs} {bs} h g = record {
  same_memory = g.same_memory ∙ h.same_memory;
  place = g.place ∙ ap (λ i. past i bs) h.place ∙ past_join a.at xs bs;
  bytes = g.bytes ∙ (λ j. put (h.place j) bs (h.bytes j)) ∙ put_join a.at xs bs a.out.now;
}

pub nothing : (a : Writer) → Wrote a [] a
unfolding past put
nothing a = record { same_memory = refl; place = refl; bytes = refl }

-- one letter of a word more
pub letter : {a b c : Writer} (w : List ℕ) (k : ℕ) → k < length w → Wrote a (take k w) b → Wrote b (get_or w k 0 ∷ []) c → Wrote a (take (k + 1) w) c
letter w k h f g = rw (take_more w k 0 h) (join f g)

-- past memory nothing is put
put_past : (i : ℕ) (bs old : List ℕ) → length old ≤ i → length old ≤ 18446744073709551615 → put i bs old ≡ old
unfolding put
put_past i [] old l m = refl
put_past i (b ∷ bs) old l m = ap (put (after i) bs) (set_past old i b l) ∙ put_past (after i) bs old (omega arith) m

put_filled :
    (i : ℕ) (bs front old : List ℕ) → length front ≡ i → length (front ++ old) ≤ 18446744073709551615 → put i bs (front ++ old) ≡ front ++ filled bs old
unfolding put filled
put_filled i [] front [] l m = refl
put_filled i [] front (x ∷ old) l m = refl
put_filled i (b ∷ bs) front [] l m = put_past i (b ∷ bs) (front ++ []) (omega (arith, length-append {A = ℕ} front [])) m
put_filled i (b ∷ bs) front (x ∷ old) l m =
    let size : length (front ++ x ∷ old) ≡ length front + (1 + length old) = length-append front (x ∷ old) ∙ omega arith in
    let next : after i ≡ i + 1 = omega arith in
    ap (put (after i) bs) (set_at front x old b i l ∙ sym (append_assoc front (b ∷ []) old)) ∙ ap (λ k. put k bs ((front ++ (b ∷ [])) ++ old)) next
    ∙ put_filled (i + 1) bs (front ++ (b ∷ [])) old (length_push front b ∙ omega arith)
    (omega (arith, length-append (front ++ (b ∷ [])) old, length_push front b))
    ∙ append_assoc front (b ∷ []) (filled bs old)

past_told : (i : ℕ) (bs : List ℕ) → i ≤ 18446744073709551615 → past i bs ≡ min (i + length bs) 18446744073709551615
unfolding past
past_told i [] l = omega arith
past_told i (b ∷ bs) l = past_told (after i) bs (omega arith) ∙ omega arith

-- what a writer that began at the start of memory leaves
module _ {a b : Writer} (bs : List ℕ) (start : a.at ≡ 0) (h : Wrote a bs b) where
  pub filled_by : length a.out.now ≤ 18446744073709551615 → b.out.now ≡ filled bs a.out.now
  filled_by m = h.bytes ∙ ap (λ i. put i bs a.out.now) start ∙ put_filled 0 bs [] a.out.now refl m

  pub size_told : b.at ≡ min (length bs) 18446744073709551615
  size_told = h.place ∙ ap (λ i. past i bs) start ∙ past_told 0 bs (omega arith) ∙ omega arith
