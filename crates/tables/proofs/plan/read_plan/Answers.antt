use Rattle.std.proofs.Common.{◌∙◌}
use Rattle.tables.proofs.Planned.{no_header, no_mark, by_test}
use Rattle.tables.proofs.plan.read_plan.Goals as goal

pub returns-then-state-lt-HEADER : goal.returns-then-state-lt-HEADER
returns-then-state-lt-HEADER c = no_header c.args.state.now c.if-state-lt-HEADER.true

pub returns-then-state-ne-MARK : goal.returns-then-state-ne-MARK
returns-then-state-ne-MARK c = no_mark c.args.state.now c.if-state-ne-MARK.true

pub returns : goal.returns
returns c =
    c.then_some.ensures
    ∙ by_test c.args.state.now c.is_good.result c.if-state-lt-HEADER.false c.if-state-ne-MARK.false c.is_good.ensures
