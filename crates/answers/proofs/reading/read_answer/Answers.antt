use Rattle.std.proofs.Common.{Some, sym, ap, ◌∙◌}
use Rattle.answers.specs.Parts.{parts_answer}
use Rattle.answers.proofs.Places.{shown_read, list_read}
use Rattle.answers.proofs.reading.read_answer.Goals as goal

pub returns-in-Shown : goal.returns-in-Shown
returns-in-Shown c =
    let is = ap (λ p. Some (parts_answer p)) (sym c.in-Shown.is) ∙ c.in_ok-refusal.ensures in
    let h = shown_read c.args.bytes.now c.in-Shown.cells.now c.in-Shown.turn c.in-Shown.end c.in-Shown.clocks.now is in
    record { answer = h.0; inside = (h.1, h.2) }

pub returns-in-Listed : goal.returns-in-Listed
returns-in-Listed c =
    let is = ap (λ p. Some (parts_answer p)) (sym c.in-Listed.is) ∙ c.in_ok-refusal.ensures in
    let h = list_read c.args.bytes.now c.in-Listed.moves.now is in
    record { answer = h.0; inside = h.1 }
