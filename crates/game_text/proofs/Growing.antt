-- How much a piece adds at most.
use Rattle.std.proofs.Common.{◌≡◌, ℕ, zero, suc, ◌+◌, ◌-◌, ◌<◌, ◌≤◌, eqb, List, set, sym, ap, arith}
use Rattle.std.proofs.lemmas.Bool.{cond_both}
use Rattle.wire.specs.Exprs.{kind_after}
use Rattle.wire.specs.Kinds.{kind_number}
use Rattle.wire.specs.declared.kinds.ExprKind.{ExprKind}
use Rattle.wire.specs.declared.kinds.ExprKind.TheVariants as kinds
use Rattle.game_text.specs.declared.progress.Part.{Part}
use Rattle.game_text.specs.declared.progress.Part.TheVariants.{Guard, Effect, Terminal, Payoff}
use Rattle.game_text.specs.declared.progress.Stage.{Stage}
use Rattle.game_text.specs.declared.progress.Stage.TheVariants.{PlayersWord, PlayersNumber, CellsWord, Values, FirstBound, SecondBound, MayWord, Expr, Sets, GainWord, End}
use Rattle.game_text.specs.declared.progress.Word.{Word}
use Rattle.game_text.specs.declared.progress.Word.TheVariants.{Players, Cells, Rule, May, Set, Over, Gain, Kind}
use Rattle.game_text.specs.declared.progress.Progress.{Progress}
use Rattle.game_text.specs.Machine.{State, staged, put_two, part_ended, pending, number_taken, word_taken, bound}
use Rattle.game_text.specs.Room.{Fine, slack, Room, Grew}

-- a part ends with one byte at most
ended_grew :
    (t : Part) (p : Progress) (memory : List ℕ) →
    ((part_ended t p memory).at.len + slack (part_ended t p memory).at.stage ≤ p.len + 3) × ((part_ended t p memory).at.more ≤ p.more)
ended_grew Guard p memory = (omega arith, omega arith)
ended_grew Effect p memory = (omega arith, omega arith)
ended_grew Terminal p memory = (omega arith, omega arith)
ended_grew Payoff p memory = (omega arith, omega arith)

pending_grew :
    (c : ℕ) (p : Progress) (memory : List ℕ) → c ≤ p.more + 3 →
    ((pending c p memory).at.len + slack (pending c p memory).at.stage ≤ p.len + 3) × ((pending c p memory).at.more ≤ p.more + 2)
pending_grew zero p memory l = let e = ended_grew p.part p memory in (e.0, omega (arith, e.1))
pending_grew (suc c) p memory l = (omega arith, omega arith)

-- a number that may come
pub number_grew : (s : Stage) (n : ℕ) (p : Progress) (memory : List ℕ) → s ≡ p.stage → n < bound s p → Grew p (number_taken s n p memory).at
number_grew PlayersWord n p memory e b = absurd (omega arith)
number_grew PlayersNumber n p memory e b = record { bytes = omega arith; few = omega arith }
number_grew CellsWord n p memory e b = absurd (omega arith)
number_grew Values n p memory e b = let z : slack p.stage ≡ 2 = sym (ap slack e) in record { bytes = omega arith; few = omega arith }
number_grew FirstBound n p memory e b = let z : slack p.stage ≡ 2 = sym (ap slack e) in record { bytes = omega arith; few = omega arith }
number_grew SecondBound n p memory e b = let z : slack p.stage ≡ 2 = sym (ap slack e) in record { bytes = omega arith; few = omega arith }
number_grew MayWord n p memory e b = absurd (omega arith)
number_grew Expr n p memory e b =
    let z : slack p.stage ≡ 2 = sym (ap slack e) in
    let q : Progress = staged Expr (p.len + 3) p in
    let g = pending_grew p.more q (put_two (set memory p.len 0) (p.len + 1) n) (omega arith) in
    record { bytes = omega (arith, g.0); few = g.1 }
number_grew Sets n p memory e b = absurd (omega arith)
number_grew GainWord n p memory e b = absurd (omega arith)
number_grew End n p memory e b = absurd (omega arith)

arity_few : (k : ExprKind) → 1 ≤ kind_number k → (kind_after (kind_number k - 1)).arity ≤ 3
unfolding kind_after
arity_few kinds.Num h = omega arith
arity_few kinds.Cell h = omega arith
arity_few kinds.First h = omega arith
arity_few kinds.Second h = omega arith
arity_few kinds.Me h = omega arith
arity_few kinds.Add h = omega arith
arity_few kinds.Sub h = omega arith
arity_few kinds.Mul h = omega arith
arity_few kinds.Div h = omega arith
arity_few kinds.Rem h = omega arith
arity_few kinds.Lt h = omega arith
arity_few kinds.Eq h = omega arith
arity_few kinds.If h = omega arith

-- a word that may come
pub word_grew : (w : Word) (p : Progress) (memory : List ℕ) → Fine w p → Grew p (word_taken w p memory).at
word_grew Players p memory f = record { bytes = omega arith; few = omega arith }
word_grew Cells p memory f = record { bytes = omega arith; few = omega arith }
word_grew Rule p memory f = record {
  bytes = cond_both (eqb p.rules 0) (p.len + 1) p.len (λ x. x + 2 ≤ p.len + slack p.stage + 4) (λ e. omega arith) (λ e. omega arith);
  few = omega arith;
}
word_grew May p memory f = record { bytes = omega arith; few = omega arith }
word_grew Set p memory f = record { bytes = omega arith; few = omega arith }
word_grew Over p memory f =
    cond_both (eqb p.rules 0) _ _ (λ (x : State). Grew p x.at) (λ e. record { bytes = omega arith; few = omega arith })
    (λ e. record { bytes = omega arith; few = omega arith })
word_grew Gain p memory f = record { bytes = omega arith; few = omega arith }
word_grew (Kind k) p memory f =
    let q : Progress = staged Expr (p.len + 1) p in
    let g = pending_grew (p.more + (kind_after (kind_number k - 1)).arity) q (set memory p.len (kind_number k)) (omega (arith, arity_few k f)) in
    record { bytes = omega (arith, g.0); few = g.1 }

-- a piece was taken at place i, and with the byte there the next begins
pub room_after : (i : ℕ) (p q : Progress) → Room p (i - 1) → 1 ≤ i → Grew p q → Room q (i + 1)
room_after i p q r l g = record { bytes = omega (arith, r.bytes, g.bytes); few = omega (arith, r.few, g.few) }

pub room_more : (i : ℕ) (p : Progress) → Room p i → Room p (i + 1)
room_more i p r = record { bytes = omega (arith, r.bytes); few = omega (arith, r.few) }
