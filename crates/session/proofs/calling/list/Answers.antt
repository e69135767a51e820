use Rattle.std.proofs.Common.{◌≡◌, ◌+◌, ◌-◌, take, drop, ap, arith, rules}
use Rattle.session.proofs.Seats.{seat_inside}
use Rattle.session.proofs.Acting.{may_refused, may_none, may_listed, room_some}
use Rattle.session.proofs.calling.list.Goals as goal

pub returns-then-seat-ne0 : goal.returns-then-seat-ne0
returns-then-seat-ne0 c =
    may_none c.args.rules.now c.args.state.now c.args.answer.now c.write_list_head.new.answer c.args.table
    c.write_list_head.result c.in-Ok.seat c.in-Ok.ensures c.if-seat-ne0.true c.write_list_head.ensures.size
    c.write_list_head.ensures.bytes

pub overflow_add-after : goal.overflow_add-after
overflow_add-after c = let i = seat_inside c.args.state.now c.args.table c.in-Ok.seat c.in-Ok.ensures in omega arith

pub offset_bounds-state-at : goal.offset_bounds-state-at
offset_bounds-state-at c = let i = seat_inside c.args.state.now c.args.table c.in-Ok.seat c.in-Ok.ensures in omega arith

pub slice_bounds-list_moves-end : goal.slice_bounds-list_moves-end
slice_bounds-list_moves-end c = let i = seat_inside c.args.state.now c.args.table c.in-Ok.seat c.in-Ok.ensures in search rules

pub returns-in-Err : goal.returns-in-Err
returns-in-Err c =
    may_refused c.args.rules.now c.args.state.now c.args.answer.now c.write_refusal.new.answer c.args.table c.write_refusal.result
    c.in-Err.refusal c.in-Err.ensures c.write_refusal.ensures.size c.write_refusal.ensures.bytes

pub returns-else-seat-ne0 : goal.returns-else-seat-ne0
returns-else-seat-ne0 c =
    let q = c.in-Ok.seat in
    let a : q.at + q.cells - q.at ≡ q.cells = omega arith in
    may_listed c.args.rules.now c.args.state.now c.args.answer.now c.list_moves.new.answer c.args.table c.list_moves.result q
    _ c.in-Ok.ensures c.if-seat-ne0.false (ap (λ k. take k (drop q.at c.args.state.now)) a) c.list_moves.ensures.size
    (room_some c.list_moves.result _ _ _ _ c.list_moves.ensures.size c.list_moves.ensures.bytes)
