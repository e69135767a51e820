use Rattle.rows.proofs.Reading.{rule_past, rule_found}
use Rattle.rows.proofs.read.read_rule.Goals as goal

pub returns-then-r-word_at : goal.returns-then-r-word_at
returns-then-r-word_at c = rule_past c.args.rules.now c.word_at.ensures c.if-r-word_at.true

pub returns : goal.returns
returns c =
    rule_found c.args.rules.now c.word_at.ensures c.if-r-word_at.false c.word_at-2.ensures
    c.word_at-3.ensures c.word_at-4.ensures c.word_at-5.ensures c.word_at-6.ensures c.word_at-7.ensures
