use Rattle.std.proofs.Common.{◌≡◌, Some, None, sym, ◌∙◌, arith, rules}
use Rattle.std.proofs.lemmas.Grind.{common_steps}
use Rattle.rules.specs.declared.Reason.TheVariants.{NotGood}
use Rattle.session.specs.Opening.{needed}
use Rattle.session.proofs.Starting.{needs_none, needs_some}
use Rattle.tables.proofs.Refusals.{refused_so}
use Rattle.session.proofs.opening.needs.Goals as goal

pub returns-in_err-size : goal.returns-in_err-size
unfolding needed
returns-in_err-size c = search rules

pub returns-in_err-ok_or : goal.returns-in_err-ok_or
returns-in_err-ok_or c =
    let why : c.in_err-ok_or.field-0.0 ≡ NotGood = grind (arith, common_steps) in
    let none : c.sizes_for.result ≡ None = grind arith in
    refused_so c.from_residual-in_err-ok_or.result why c.from_residual-in_err-ok_or.ensures.1
    ∙ needs_none c.args.limits c.args.game.now c.in_ok-size.size (sym c.in_ok-size.ensures) (sym none ∙ c.sizes_for.ensures)

pub returns : goal.returns
returns c =
    let some : c.sizes_for.result ≡ Some c.in_ok-ok_or.field-0 = grind arith in
    needs_some c.args.limits c.args.game.now c.in_ok-size.size (sym c.in_ok-size.ensures) c.in_ok-ok_or.field-0
    (sym some ∙ c.sizes_for.ensures)
