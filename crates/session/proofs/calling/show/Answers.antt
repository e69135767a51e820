use Rattle.std.proofs.Common.{◌≡◌, ◌+◌, ◌-◌, take, drop, ap, arith, rules}
use Rattle.session.proofs.Seats.{seat_inside}
use Rattle.session.proofs.Acting.{see_refused, see_shown}
use Rattle.session.proofs.calling.show.Goals as goal

pub overflow_add-after : goal.overflow_add-after
overflow_add-after c = let i = seat_inside c.args.state.now c.args.table c.in-Ok.seat c.in-Ok.ensures in omega arith

pub overflow_add-end : goal.overflow_add-end
overflow_add-end c = let i = seat_inside c.args.state.now c.args.table c.in-Ok.seat c.in-Ok.ensures in omega arith

pub offset_bounds-state-at : goal.offset_bounds-state-at
offset_bounds-state-at c = let i = seat_inside c.args.state.now c.args.table c.in-Ok.seat c.in-Ok.ensures in omega arith

pub slice_bounds-cells-end : goal.slice_bounds-cells-end
slice_bounds-cells-end c = let i = seat_inside c.args.state.now c.args.table c.in-Ok.seat c.in-Ok.ensures in search rules

pub offset_bounds-state-after : goal.offset_bounds-state-after
offset_bounds-state-after c = let i = seat_inside c.args.state.now c.args.table c.in-Ok.seat c.in-Ok.ensures in omega arith

pub slice_bounds-write_shown-end : goal.slice_bounds-write_shown-end
slice_bounds-write_shown-end c = let i = seat_inside c.args.state.now c.args.table c.in-Ok.seat c.in-Ok.ensures in search rules

pub returns-in-Err : goal.returns-in-Err
returns-in-Err c =
    see_refused c.args.rules.now c.args.state.now c.args.answer.now c.write_refusal.new.answer c.args.table c.write_refusal.result
    c.in-Err.refusal c.in-Err.ensures c.write_refusal.ensures.size c.write_refusal.ensures.bytes

pub returns-in-Ok : goal.returns-in-Ok
returns-in-Ok c =
    let q = c.in-Ok.seat in
    let a : q.at + q.cells - q.at ≡ q.cells = omega arith in
    let b : q.at + q.cells + q.players - (q.at + q.cells) ≡ q.players = omega arith in
    see_shown c.args.rules.now c.args.state.now c.args.answer.now c.write_shown.new.answer c.args.table c.write_shown.result q
    _ _ c.turn-me.result c.in-Ok.ensures (ap (λ k. take k (drop q.at c.args.state.now)) a)
    (ap (λ k. take k (drop (q.at + q.cells) c.args.state.now)) b) c.turn-me.ensures c.write_shown.ensures.size c.write_shown.ensures.bytes
