use Rattle.std.proofs.Common.{◌+◌, sym, ◌∙◌, arith}
use Rattle.rows.specs.Layout.{game_at}
use Rattle.play.specs.Cursor.{move, seconds_from}
use Rattle.play.proofs.Steps.{second_none}
use Rattle.play.proofs.Finding.{second_skipped, second_next}
use Rattle.play.proofs.Writes.{begun, like, skipped, went_on, stopped, ended, one_listed, one_refused}
use Rattle.play.proofs.position.Rule.list_seconds.Goals as goal
use Rattle.play.proofs.position.Rule.list_seconds.Goals.{then-allows+in_ok-write_move, else-allows}

pub loop-second-init : goal.loop-second-init
loop-second-init c = begun _ c.args.before c.args.answer.now c.requires.room

pub returns-in_err-write_move : goal.returns-in_err-write_move
returns-in_err-write_move c =
    let rule = c.args.self.now in
    rw c.from_residual.ensures
    (stopped c.loop-second.invariant
    (seconds_from (game_at rule.at.rules.now) rule.at.cells.now rule.number c.args.first (c.loop-second.second + 1))
    (second_next (game_at rule.at.rules.now) rule.at.cells.now rule.number c.args.first c.loop-second.second (omega (arith, rule.second_bound))
    (sym c.if-allows.true ∙ c.allows.ensures c.requires.below c.loop-second-test.true))
    (one_refused c.loop-second.answer c.loop-second.count (move rule.number c.args.first c.loop-second.second)
    c.write_move.ensures.bytes (omega (arith, c.loop-second.invariant.so_far.fits, c.loop-second.auto.answer)) (sym c.in_err-write_move.was ∙ c.write_move.ensures.size)))

pub loop-second-preserved : goal.loop-second-preserved
loop-second-preserved c =
    let rule = c.args.self.now in
    elim c.if-allows.branch [
      | then-allows+in_ok-write_move w ↦
          like w.answer-is w.count-is (went_on c.loop-second.invariant
          (seconds_from (game_at rule.at.rules.now) rule.at.cells.now rule.number c.args.first (c.loop-second.second + 1))
          (second_next (game_at rule.at.rules.now) rule.at.cells.now rule.number c.args.first c.loop-second.second (omega (arith, rule.second_bound))
          (sym w.if-allows.true ∙ c.allows.ensures c.requires.below c.loop-second-test.true))
          (one_listed c.loop-second.answer c.loop-second.count (move rule.number c.args.first c.loop-second.second)
          w.write_move.ensures.bytes (sym w.in_ok-write_move.was ∙ w.write_move.ensures.size)))
      | else-allows w ↦ like w.answer-is w.count-is (skipped c.loop-second.invariant
          (second_skipped (game_at rule.at.rules.now) rule.at.cells.now rule.number c.args.first c.loop-second.second (omega (arith, rule.second_bound))
          (sym w.if-allows.false ∙ c.allows.ensures c.requires.below c.loop-second-test.true)))
    ]

pub returns : goal.returns
returns c =
    let rule = c.args.self.now in
    ended c.loop-second.invariant
    (second_none (game_at rule.at.rules.now) rule.at.cells.now rule.number c.args.first c.loop-second.second
    (omega (arith, c.loop-second-test.false, rule.second_bound)))
