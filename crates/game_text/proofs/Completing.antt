-- Wherever the machine stands, the text can go on to the end of a game.
use Rattle.std.proofs.Common.{◌≡◌, ℕ, zero, suc, ◌+◌, Bool, true, false, cond, not, ltb, List, [], ◌∷◌, ◌++◌, Some, None, codes, sym, refl, ap, ◌∙◌, subst, arith}
use Rattle.std.proofs.lemmas.Bool.{and_parts, not-true, cond-true}
use Rattle.text.specs.Grammar.{Piece, word, number, all, value_from, Written, end, piece}
use Rattle.game_text.specs.declared.progress.Part.{Part}
use Rattle.game_text.specs.declared.progress.Part.TheVariants.{Guard, Effect, Terminal, Payoff}
use Rattle.game_text.specs.declared.progress.Stage.{Stage}
use Rattle.game_text.specs.declared.progress.Stage.TheVariants.{PlayersWord, PlayersNumber, CellsWord, Values, FirstBound, SecondBound, MayWord, Expr, Sets, GainWord, End}
use Rattle.game_text.specs.declared.progress.Word.{Word}
use Rattle.game_text.specs.declared.progress.Word.TheVariants.{Rule as TheRule, Over as TheOver}
use Rattle.game_text.specs.declared.progress.Progress.{Progress}
use Rattle.game_text.specs.Text.{blanked}
use Rattle.game_text.specs.Machine.{State, Machine, Lexer, gap, comment, digits, letters, and_then, agrees, is_front, look, awaited, bound, ends, pending, part_ended, number_taken, word_taken, is_end}
use Rattle.game_text.proofs.Spelled.{look_plain, look_whole}
use Rattle.game_text.proofs.Runs.{take_piece, run, run_none, run_one}
use Rattle.game_text.proofs.Pieces.{blanked_other}
use Rattle.game_text.proofs.Feeding.{state, machine, Fed, forward, fed_more, plain_all, plain_right}
use Rattle.game_text.proofs.GameRuns.{look_over}
use Rattle.game_text.proofs.ExprsTaken.{in_expr}
use Rattle.game_text.proofs.GameTaken.{at_stage, over_state}

-- pieces that are written as they are: words of letters, and the number 0
abbrev Neat : List Piece → Type 0
Neat [] = Unit {0}
Neat (word w ∷ ps) = (all (λ x. not (ends x)) w ≡ true) × Neat ps
Neat (number n ∷ ps) = (n ≡ 0) × Neat ps

abbrev spaced : List Piece → List ℕ
spaced [] = []
spaced (word w ∷ ps) = 32 ∷ (w ++ spaced ps)
spaced (number n ∷ ps) = 32 ∷ (48 ∷ spaced ps)

blanked_plain : (w r : List ℕ) → all (λ x. not (ends x)) w ≡ true → blanked false (w ++ r) ≡ w ++ blanked false r
unfolding all
blanked_plain [] r h = refl
blanked_plain (b ∷ w) r h =
    let f = and_parts (not (ends b)) (all (λ x. not (ends x)) w) h in blanked_other b (w ++ r) (not-true (ends b) f.0) ∙ ap (λ l. b ∷ l) (blanked_plain w r f.1)

spaced_written : (ps : List Piece) → Neat ps → Written 1 ps (blanked false (spaced ps))
unfolding blanked all value_from
spaced_written [] n = end [] refl
spaced_written (word w ∷ ps) n =
    subst (λ z. Written 1 (word w ∷ ps) (32 ∷ z)) (sym (blanked_plain w (spaced ps) n.0)) (piece (32 ∷ []) w (blanked false (spaced ps)) (omega arith) refl refl (spaced_written ps n.1))
spaced_written (number v ∷ ps) n =
    piece (32 ∷ []) (48 ∷ []) (blanked false (spaced ps)) (omega arith) refl (omega arith, refl, sym n.0, omega arith) (spaced_written ps n.1)

-- pieces from here to the end
record Ends (s : State) : Type 0 where
  ps : List Piece
  neat : Neat ps
  to : State
  runs : run s ps ≡ Some to
  over : is_end to.at.stage ≡ true

ends_word : (s t : State) (w : List ℕ) → all (λ x. not (ends x)) w ≡ true → take_piece s (word w) ≡ Some t → Ends t → Ends s
ends_word s t w h e x = record { ps = word w ∷ x.ps; neat = (h, x.neat); to = x.to; runs = run_one s t (word w) x.ps e ∙ x.runs; over = x.over }

ends_zero : (s t : State) → take_piece s (number 0) ≡ Some t → Ends t → Ends s
ends_zero s t e x = record { ps = number 0 ∷ x.ps; neat = (refl, x.neat); to = x.to; runs = run_one s t (number 0) x.ps e ∙ x.runs; over = x.over }

abbrev PartEnds : Part → Type 0
PartEnds t = (m c r k l a : ℕ) (memory : List ℕ) → Ends (part_ended t (in_expr t m c r k l a) memory)

expr_ends : (t : Part) → PartEnds t → (n m c r k l a : ℕ) (memory : List ℕ) → Ends (pending n (in_expr t m c r k l a) memory)
expr_ends t after zero m c r k l a memory = after m c r k l a memory
expr_ends t after (suc n) m c r k l a memory =
    ends_zero (state (in_expr t n c r k l a) memory) _ refl (expr_ends t after n n c r k (l + 3) a _)

payoff_ends : PartEnds Payoff
payoff_ends m c r k l a memory = record { ps = []; neat = tt; to = _; runs = run_none (state (at_stage End Guard 0 c r k l a) memory); over = refl }

gain_ends : (t : Part) (m c r k l a : ℕ) (memory : List ℕ) → Ends (state (at_stage GainWord t m c r k l a) memory)
unfolding agrees is_front all
gain_ends t m c r k l a memory = ends_word (state (at_stage GainWord t m c r k l a) memory) _ (codes "gain") refl refl (expr_ends Payoff payoff_ends 1 0 c r k l a memory)

terminal_ends : PartEnds Terminal
terminal_ends m c r k l a memory = gain_ends Guard 0 c r k l a memory

over_ends : (p : Progress) (memory : List ℕ) → Ends (word_taken TheOver p memory)
over_ends p memory = let o = over_state p memory in subst Ends (sym o.2) (expr_ends Terminal terminal_ends 1 0 p.cells p.rules 0 o.0 0 o.1)

look_over_only : (t : Bool) → look true (cond t (TheRule ∷ []) [] ++ (TheOver ∷ [])) (codes "over") ≡ Some TheOver
unfolding agrees is_front
look_over_only true = refl
look_over_only false = refl

sets_ends : (t : Part) (m c r k l a : ℕ) (memory : List ℕ) → Ends (state (at_stage Sets t m c r k l a) memory)
unfolding all
sets_ends t m c r k l a memory =
    let p : Progress = at_stage Sets t m c r k l a in
    ends_word (state p memory) (word_taken TheOver p memory) (codes "over") refl (ap (λ x. and_then x (λ w. Some (word_taken w p memory))) (look_over (ltb k 255) (ltb r 255))) (over_ends p memory)

values_ends : (t : Part) (m c r k l a : ℕ) (memory : List ℕ) → Ends (state (at_stage Values t m c r k l a) memory)
unfolding all
values_ends t m c r k l a memory =
    let p : Progress = at_stage Values t m c r k l a in
    ends_word (state p memory) (word_taken TheOver p memory) (codes "over") refl (ap (λ x. and_then x (λ w. Some (word_taken w p memory))) (look_over_only (ltb r 255))) (over_ends p memory)

part_ends : (t : Part) → PartEnds t
part_ends Guard m c r k l a memory = sets_ends Guard 0 c r 0 (l + 1) l _
part_ends Effect m c r k l a memory = sets_ends Guard 0 c r k l a memory
part_ends Terminal m c r k l a memory = terminal_ends m c r k l a memory
part_ends Payoff m c r k l a memory = payoff_ends m c r k l a memory

may_ends : (t : Part) (m c r k l a : ℕ) (memory : List ℕ) → Ends (state (at_stage MayWord t m c r k l a) memory)
unfolding agrees is_front all
may_ends t m c r k l a memory = ends_word (state (at_stage MayWord t m c r k l a) memory) _ (codes "may") refl refl (expr_ends Guard (part_ends Guard) 1 0 c r k l a memory)

second_ends : (t : Part) (m c r k l a : ℕ) (memory : List ℕ) → Ends (state (at_stage SecondBound t m c r k l a) memory)
second_ends t m c r k l a memory = ends_zero (state (at_stage SecondBound t m c r k l a) memory) _ refl (may_ends t m c r k (l + 2) a _)

cells_ends : (t : Part) (m c r k l a : ℕ) (memory : List ℕ) → Ends (state (at_stage CellsWord t m c r k l a) memory)
unfolding agrees is_front all
cells_ends t m c r k l a memory = ends_word (state (at_stage CellsWord t m c r k l a) memory) _ (codes "cells") refl refl (values_ends t m c r k (l + 2) a _)

count_ends : (t : Part) (m c r k l a : ℕ) (memory : List ℕ) → Ends (state (at_stage PlayersNumber t m c r k l a) memory)
count_ends t m c r k l a memory = ends_zero (state (at_stage PlayersNumber t m c r k l a) memory) _ refl (cells_ends t m c r k (l + 1) a _)

any_ends : (st : Stage) (t : Part) (m c r k l a : ℕ) (memory : List ℕ) → Ends (state (at_stage st t m c r k l a) memory)
unfolding agrees is_front all
any_ends PlayersWord t m c r k l a memory = ends_word (state (at_stage PlayersWord t m c r k l a) memory) _ (codes "players") refl refl (count_ends t m c r k l a memory)
any_ends PlayersNumber t m c r k l a memory = count_ends t m c r k l a memory
any_ends CellsWord t m c r k l a memory = cells_ends t m c r k l a memory
any_ends Values t m c r k l a memory = values_ends t m c r k l a memory
any_ends FirstBound t m c r k l a memory = ends_zero (state (at_stage FirstBound t m c r k l a) memory) _ refl (second_ends t m c r k (l + 2) a _)
any_ends SecondBound t m c r k l a memory = second_ends t m c r k l a memory
any_ends MayWord t m c r k l a memory = may_ends t m c r k l a memory
any_ends Expr t m c r k l a memory = expr_ends t (part_ends t) (suc m) 0 c r k l a memory
any_ends Sets t m c r k l a memory = sets_ends t m c r k l a memory
any_ends GainWord t m c r k l a memory = gain_ends t m c r k l a memory
any_ends End t m c r k l a memory = record { ps = []; neat = tt; to = _; runs = run_none (state (at_stage End t m c r k l a) memory); over = refl }

state_ends : (s : State) → Ends s
state_ends s = any_ends s.at.stage s.at.part s.at.more s.at.cells s.at.rules s.at.sets s.at.len s.at.sets_at s.memory

-- what the lexer has read may still be a piece
abbrev pub Alive : Lexer → Progress → Type 0
Alive gap p = Unit {0}
Alive comment p = Unit {0}
Alive (digits v) p = ltb v (bound p.stage p) ≡ true
Alive (letters l) p = (w : Word) × (look false (awaited p.stage p) l ≡ Some w)

-- a text from here to the end
pub record Completed (m : Machine) : Type 0 where
  pub text : List ℕ
  pub to : State
  pub fed : Fed m text to
  pub over : is_end to.at.stage ≡ true

weaken : {ps : List Piece} {xs : List ℕ} → Written 1 ps xs → Written 0 ps xs
weaken (end bs h) = end bs h
weaken (piece g bs rest n h s w) = piece g bs rest (omega arith) h s w

gap_completed : (p : Progress) (memory : List ℕ) → Completed (machine gap p memory)
gap_completed p memory =
    let x = state_ends (state p memory) in
    record { text = spaced x.ps; to = x.to; fed = forward (spaced x.ps) gap p memory x.ps x.to (weaken (spaced_written x.ps x.neat)) x.runs; over = x.over }

pub completed : (x : Lexer) (p : Progress) (memory : List ℕ) → Alive x p → Completed (machine x p memory)
unfolding all value_from
completed gap p memory a = gap_completed p memory
completed comment p memory a =
    let x = gap_completed p memory in
    record { text = 10 ∷ x.text; to = x.to; fed = fed_more (machine comment p memory) (machine gap p memory) 10 x.text x.to refl x.fed; over = x.over }
completed (digits v) p memory a =
    let to : State = number_taken p.stage v p memory in
    let x = state_ends to in
    let took : take_piece (state p memory) (number v) ≡ Some to = cond-true (ltb v (bound p.stage p)) _ None a in
    record {
      text = spaced x.ps;
      to = x.to;
      fed = forward (spaced x.ps) (digits v) p memory (number v ∷ x.ps) x.to
          (record { q = number v; qs = x.ps; bs = []; rest = blanked false (spaced x.ps); is = refl; part = (refl, refl); cut = refl; after = spaced_written x.ps x.neat })
          (run_one (state p memory) to (number v) x.ps took ∙ x.runs);
      over = x.over;
    }
completed (letters l) p memory a =
    let k = look_whole (awaited p.stage p) l a.0 a.1 in
    let r : List ℕ = k.0 in
    let to : State = word_taken k.1 p memory in
    let x = state_ends to in
    let solid = plain_right l r (plain_all (l ++ r) (look_plain p (l ++ r) k.1 k.2)) in
    let took : take_piece (state p memory) (word (l ++ r)) ≡ Some to = ap (λ z. and_then z (λ w. Some (word_taken w p memory))) k.2 in
    record {
      text = r ++ spaced x.ps;
      to = x.to;
      fed = forward (r ++ spaced x.ps) (letters l) p memory (word (l ++ r) ∷ x.ps) x.to
          (record { q = word (l ++ r); qs = x.ps; bs = r; rest = blanked false (spaced x.ps); is = refl; part = refl; cut = blanked_plain r (spaced x.ps) solid; after = spaced_written x.ps x.neat })
          (run_one (state p memory) to (word (l ++ r)) x.ps took ∙ x.runs);
      over = x.over;
    }
