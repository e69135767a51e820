use Rattle.std.proofs.Common.{Some, length, refl, sym, ap, subst, ◌∙◌}
use Rattle.text.specs.RawReader.{SmallStep}
use Rattle.text.proofs.Filling.{moved, on_line, after_blank, after_first, after_kept, after_full, after_wrong, end_half, end_whole}
use Rattle.text.proofs.raw.fill.Goals.{in-Blank, in-First, in-Pair, then-count-bytes, else-count-bytes}
use Rattle.text.proofs.raw.fill.Goals as goal

pub returns-in_default : goal.returns-in_default
returns-in_default c =
    on_line c.rest-b-items.result.now c.args.cursor.line.now c.loop-b.bytes c.args.cursor.at (length c.args.bytes.now) _ _ c.rest-b-items.ensures refl
    (after_wrong c.rest-b-items.result.now c.args.cursor.at (length c.args.bytes.now) c.loop-b.bytes c.loop-b.awaits c.loop-b.count c.loop-b.b-index c.loop-b.cursor.at c.loop-b.invariant c.loop-b-test.true c.in_default.ensures.value)

pub loop-b-preserved : goal.loop-b-preserved
loop-b-preserved c =
    elim c.match-step.branch [
      | in-Blank w ↦ moved c.rest-b-items.result.now c.args.cursor.at (length c.args.bytes.now) _ _ _ _ _ _ _ _ w.bytes-is w.awaits-is w.count-is
          (after_blank c.rest-b-items.result.now c.args.cursor.at (length c.args.bytes.now) c.loop-b.bytes c.loop-b.awaits c.loop-b.count c.loop-b.b-index c.loop-b.cursor.at c.loop-b.invariant c.loop-b-test.true (sym (ap Some w.in-Blank.is) ∙ c.in-Some.ensures.value))
      | in-First w ↦ moved c.rest-b-items.result.now c.args.cursor.at (length c.args.bytes.now) _ _ _ _ _ _ _ _ w.bytes-is w.awaits-is w.count-is
          (after_first c.rest-b-items.result.now c.args.cursor.at (length c.args.bytes.now) c.loop-b.bytes c.loop-b.awaits c.loop-b.count c.loop-b.b-index c.loop-b.cursor.at c.loop-b.invariant w.in-First.high
          (subst SmallStep w.in-First.is c.in-Some.ensures.small) c.loop-b-test.true
          (sym (ap Some w.in-First.is) ∙ c.in-Some.ensures.value))
      | in-Pair w ↦
          elim w.if-count-bytes.branch [
            | then-count-bytes w' ↦ moved c.rest-b-items.result.now c.args.cursor.at (length c.args.bytes.now) _ _ _ _ _ _ _ _ (w.bytes-is ∙ w'.bytes-is) w.awaits-is w.count-is
                (after_kept c.rest-b-items.result.now c.args.cursor.at (length c.args.bytes.now) c.loop-b.bytes c.loop-b.awaits c.loop-b.count c.loop-b.b-index c.loop-b.cursor.at c.loop-b.invariant w.in-Pair.byte c.loop-b.auto.bytes w'.if-count-bytes.true c.loop-b-test.true
                (sym (ap Some w.in-Pair.is) ∙ c.in-Some.ensures.value))
            | else-count-bytes w' ↦ moved c.rest-b-items.result.now c.args.cursor.at (length c.args.bytes.now) _ _ _ _ _ _ _ _ (w.bytes-is ∙ w'.bytes-is) w.awaits-is w.count-is
                (after_full c.rest-b-items.result.now c.args.cursor.at (length c.args.bytes.now) c.loop-b.bytes c.loop-b.awaits c.loop-b.count c.loop-b.b-index c.loop-b.cursor.at c.loop-b.invariant w.in-Pair.byte c.loop-b.auto.bytes w'.if-count-bytes.false c.loop-b-test.true
                (sym (ap Some w.in-Pair.is) ∙ c.in-Some.ensures.value))
          ]
    ]

pub returns-in-Second : goal.returns-in-Second
returns-in-Second c =
    on_line c.rest-b-items.result.now c.args.cursor.line.now c.loop-b.bytes c.args.cursor.at (length c.args.bytes.now) _ _ c.rest-b-items.ensures refl (end_half c.rest-b-items.result.now c.args.cursor.at (length c.args.bytes.now) c.loop-b.bytes c.loop-b.awaits c.loop-b.count c.loop-b.b-index c.loop-b.cursor.at c.in-Second.field-0 c.loop-b.invariant c.in-Second.is c.loop-b-test.false)

pub returns-in_default-awaits : goal.returns-in_default-awaits
returns-in_default-awaits c =
    on_line c.rest-b-items.result.now c.args.cursor.line.now c.loop-b.bytes c.args.cursor.at (length c.args.bytes.now) _ _ c.rest-b-items.ensures refl (end_whole c.rest-b-items.result.now c.args.cursor.at (length c.args.bytes.now) c.loop-b.bytes c.loop-b.awaits c.loop-b.count c.loop-b.b-index c.loop-b.cursor.at c.loop-b.invariant c.in_default-awaits.not-Second c.loop-b-test.false)
