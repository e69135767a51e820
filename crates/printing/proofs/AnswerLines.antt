-- The parts of an answer's line, put one after the other.
use Rattle.std.proofs.Common.{◌≡◌, ℕ, ◌+◌, ◌<◌, ◌≤◌, List, [], ◌∷◌, ◌++◌, length, get_or, take, Some, codes, decimal, Option, sym, refl, ap, ◌∙◌, subst, append-nil, append_assoc, arith}
use Rattle.std.specs.Int.{w32, from_le_bytes}
use Rattle.std.proofs.lemmas.Bool.{ne_eqb}
use Rattle.std.proofs.lemmas.List.{take_more, map-append, nil_from_length}
use Rattle.rules.specs.Calls.{Answer, refused, number, shown, listed, forced}
use Rattle.rules.specs.declared.Refusal.{Refusal}
use Rattle.rules.specs.declared.Move.{Move}
use Rattle.answers.specs.declared.Parts.{Parts}
use Rattle.answers.specs.Parts.{numbers_in, move_in, moves_in, parts_answer}
use Rattle.game_text.specs.Text.{number_pieces}
use Rattle.printing.specs.declared.writer.Writer.{Writer}
use Rattle.printing.specs.Games.{numbers_text, spaced}
use Rattle.printing.specs.Answers.{end_text, clocks_text, move_text, later_moves, moves_text, answer_text, answer_size, answer_into}
use Rattle.printing.specs.Puts.{Wrote}
use Rattle.printing.proofs.Putting.{join, nothing, filled_by, size_told}

-- one number more
numbers_push : (ns : List ℕ) (n : ℕ) → numbers_text (ns ++ (n ∷ [])) ≡ numbers_text ns ++ (32 ∷ decimal n)
unfolding number_pieces spaced
numbers_push [] n = ap (λ x. 32 ∷ x) (append-nil (decimal n))
numbers_push (m ∷ ns) n = ap (λ x. 32 ∷ (decimal m ++ x)) (numbers_push ns n) ∙ ap (λ x. 32 ∷ x) (sym (append_assoc (decimal m) (numbers_text ns) (32 ∷ decimal n)))

pub no_numbers : (a : Writer) → Wrote a (numbers_text []) a
unfolding number_pieces spaced
no_numbers a = nothing a

pub number_more :
    {a b c : Writer} (cs : List (List ℕ)) (k : ℕ) → k < length cs → Wrote a (numbers_text (numbers_in (take k cs))) b →
    Wrote b (32 ∷ decimal (from_le_bytes w32 (get_or cs k []))) c → Wrote a (numbers_text (numbers_in (take (k + 1) cs))) c
number_more cs k h f g =
    rw (take_more cs k [] h, map-append (from_le_bytes w32) (take k cs), numbers_push (numbers_in (take k cs))) (join f g)

-- a move
pub move_put :
    {a b c d : Writer} (v : Move) → Wrote a (decimal v.rule) b → Wrote b (32 ∷ decimal v.first) c → Wrote c (32 ∷ decimal v.second) d → Wrote a (move_text v) d
unfolding move_text number_pieces spaced
move_put {a} {d = d} v h k l =
    subst (λ t. Wrote a (decimal v.rule ++ ((32 ∷ decimal v.first) ++ (32 ∷ t))) d) (sym (append-nil (decimal v.second))) (join h (join k l))

-- the moves after the first: one more
later_push : (vs : List Move) (v : Move) → later_moves (vs ++ (v ∷ [])) ≡ later_moves vs ++ (codes ", " ++ move_text v)
unfolding later_moves
later_push [] v = ap (λ t. codes ", " ++ t) (append-nil (move_text v))
later_push (u ∷ vs) v =
    ap (λ t. codes ", " ++ (move_text u ++ t)) (later_push vs v)
    ∙ ap (λ t. codes ", " ++ t) (sym (append_assoc (move_text u) (later_moves vs) (codes ", " ++ move_text v)))

pub no_later : (a : Writer) → Wrote a (later_moves []) a
unfolding later_moves
no_later a = nothing a

pub move_more :
    {a b c d : Writer} (cs : List (List ℕ)) (k : ℕ) → k < length cs → Wrote a (later_moves (moves_in (take k cs))) b → Wrote b (codes ", ") c →
    Wrote c (move_text (move_in (get_or cs k []))) d → Wrote a (later_moves (moves_in (take (k + 1) cs))) d
move_more cs k h f g m = rw (take_more cs k [] h, map-append move_in (take k cs), later_push (moves_in (take k cs))) (join f (join g m))

-- all of them, and none
pub moves_put :
    {a b c : Writer} {cs : List (List ℕ)} (m : List ℕ) (ms : List (List ℕ)) → cs ≡ m ∷ ms → Wrote a (move_text (move_in m)) b → Wrote b (later_moves (moves_in ms)) c →
    Wrote a (moves_text (moves_in cs)) c
unfolding moves_text
moves_put m ms e h k = rw e (join h k)

pub none_put : {a b : Writer} (cs : List (List ℕ)) → length cs ≡ 0 → Wrote a (codes "none") b → Wrote a (moves_text (moves_in cs)) b
unfolding moves_text
none_put cs z h = rw (nil_from_length cs z) h

-- whether a game goes on
pub goes_on_put : {a b : Writer} (e : ℕ) → e ≡ 0 → Wrote a (codes "goes on") b → Wrote a (end_text e) b
unfolding end_text
goes_on_put e z h = rw z h

pub by_time_put : {a b : Writer} (e : ℕ) → e ≡ 2 → Wrote a (codes "over by time") b → Wrote a (end_text e) b
unfolding end_text
by_time_put e z h = rw z h

pub over_put : {a b : Writer} (e : ℕ) → (e ≡ 0 → ⊥) → (e ≡ 2 → ⊥) → Wrote a (codes "over") b → Wrote a (end_text e) b
unfolding end_text
over_put e y z h = rw (ne_eqb e 0 y, ne_eqb e 2 z) h

-- the clocks: none, or some
pub no_clocks : (cs : List (List ℕ)) (a : Writer) → length cs ≡ 0 → Wrote a (clocks_text (numbers_in cs)) a
unfolding clocks_text
no_clocks cs a z = rw (nil_from_length cs z) (nothing a)

pub some_clocks :
    (cs : List (List ℕ)) {a b c : Writer} → (length cs ≡ 0 → ⊥) → Wrote a (codes ", clocks") b → Wrote b (numbers_text (numbers_in cs)) c →
    Wrote a (clocks_text (numbers_in cs)) c
unfolding clocks_text
some_clocks [] z h k = absurd (z refl)
some_clocks (c ∷ cs) z h k = join h k

-- a position without its clocks, and with them
pub shown_put :
    {a₀ a₁ a₂ a₃ a₄ a₅ a₆ a₇ : Writer} (cells : List ℕ) (t e : ℕ) (clocks : List ℕ) → Wrote a₀ (codes "cells") a₁ → Wrote a₁ (numbers_text cells) a₂ →
    Wrote a₂ (codes ", turn ") a₃ → Wrote a₃ (decimal t) a₄ → Wrote a₄ (codes ", ") a₅ → Wrote a₅ (end_text e) a₆ → Wrote a₆ (clocks_text clocks) a₇ →
    Wrote a₀ (answer_text (shown cells t e clocks)) a₇
unfolding answer_text
shown_put cells t e clocks h₁ h₂ h₃ h₄ h₅ h₆ h = join h₁ (join h₂ (join h₃ (join h₄ (join h₅ (join h₆ h)))))

pub refused_put :
    {a b c d e : Writer} (r : Refusal) → Wrote a (codes "refused ") b → Wrote b (decimal r.number) c → Wrote c (codes " at ") d → Wrote d (decimal r.place) e →
    Wrote a (answer_text (refused r)) e
unfolding answer_text
refused_put r h₁ h₂ h₃ h = join h₁ (join h₂ (join h₃ h))

pub number_put : {a b : Writer} (n : ℕ) → Wrote a (decimal n) b → (Wrote a (answer_text (number n)) b) × (Wrote a (answer_text (forced n)) b)
unfolding answer_text
number_put n h = (h, h)

pub listed_put : {a b : Writer} (vs : List Move) → Wrote a (moves_text vs) b → Wrote a (answer_text (listed vs)) b
unfolding answer_text
listed_put vs h = h

pub reply_put : {a b : Writer} (r s : Parts) → r ≡ s → Wrote a (answer_text (parts_answer s)) b → Wrote a (answer_text (parts_answer r)) b
reply_put {a} {b} r s e h = subst (λ x. Wrote a (answer_text (parts_answer x)) b) (sym e) h

-- what printing an answer's bytes answers
pub answer_printed :
    (o : Option Answer) (x : Answer) {a b : Writer} → Some x ≡ o → a.at ≡ 0 → length a.out.now ≤ 18446744073709551615 → length (answer_text x) ≤ 18446744073709551615 →
    Wrote a (answer_text x) b → (Some b.at ≡ answer_size o) × (b.out.now ≡ answer_into o a.out.now) × (b.out.ghost_name ≡ a.out.ghost_name)
answer_printed o x {a} e start l m h = (
  ap Some (size_told (answer_text x) start h ∙ omega arith) ∙ ap answer_size e,
  filled_by (answer_text x) start h l ∙ ap (λ y. answer_into y a.out.now) e,
  h.same_memory,
)
