use Rattle.std.proofs.Common.{refl, arith}
use Rattle.rows.proofs.LoadGame.{no_bytes, no_rules, no_last, game_filled}
use Rattle.rows.proofs.loading.load_game.Goals as goal

pub returns-in_err-rest : goal.returns-in_err-rest
returns-in_err-rest c = λ g reads good is. absurd (no_bytes c.args.bytes.now c.args.size g reads good is c.in_err-rest.ensures.cases)

pub returns-in_err-all : goal.returns-in_err-all
returns-in_err-all c =
    let front = c.in_ok-rest.ensures.cases in
    λ g reads good is.
    absurd (no_rules c.args.bytes.now c.args.size g reads good is c.load_cells.new.rules _ (omega arith) (omega arith) front.2 c.load_rules.new.rules
    c.in_err-all.ensures)

pub returns-in_err-load_exprs : goal.returns-in_err-load_exprs
returns-in_err-load_exprs c =
    let front = c.in_ok-rest.ensures.cases in
    λ g reads good is.
    absurd (no_last c.args.bytes.now c.args.size g reads good is c.load_cells.new.rules _ (omega arith) (omega arith) front.2 c.load_rules.new.rules
    c.in_ok-all.all (omega arith) c.in_ok-all.ensures c.load_exprs.new.rules c.in_err-load_exprs.ensures)

pub returns : goal.returns
returns c =
    let front = c.in_ok-rest.ensures.cases in
    λ g reads good is. (
      refl,
      game_filled c.args.bytes.now c.args.size g reads good is c.load_cells.new.rules _ (omega arith) (omega arith) front.2 c.load_rules.new.rules
          c.in_ok-all.all (omega arith) c.in_ok-all.ensures c.load_exprs.new.rules c.put_header.new.rules
          c.in_ok-load_exprs.field-0 c.in_ok-load_exprs.ensures c.load_cells.ensures c.put_header.ensures,
    )
