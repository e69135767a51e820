use Rattle.std.proofs.Common.{◌+◌, ◌-◌, length, sym, refl, ◌∙◌, arith}
use Rattle.std.proofs.lemmas.Slice.{put_mid-paste}
use Rattle.std.proofs.lemmas.List.Edits.{paste_all}
use Rattle.wire.proofs.Writing.{written_none, written_is}
use Rattle.wire.proofs.fields.put_bytes.Goals as goal
use Rattle.wire.proofs.fields.put_bytes.Goals.{else-at-bytes-via-then-at-bytes+else-new-bytes, else-at-bytes-via-else-at-bytes}

pub returns-then-new-bytes : goal.returns-then-new-bytes
returns-then-new-bytes c =
    let at = c.args.at in
    let new = c.args.new.now in
    let old = c.args.bytes.now in
    put_mid-paste at (at + length new - at) old _ new (length new) c.copy_from_slice.ensures.after (omega arith) refl
    ∙ paste_all old at new (length new) refl ∙ sym (written_is at new old (omega arith))

pub returns-else-at-bytes : goal.returns-else-at-bytes
returns-else-at-bytes c =
    elim c.else-at-bytes.branch [
      | else-at-bytes-via-then-at-bytes+else-new-bytes w ↦ sym (written_none c.args.at c.args.new.now c.args.bytes.now (omega arith))
      | else-at-bytes-via-else-at-bytes w ↦ sym (written_none c.args.at c.args.new.now c.args.bytes.now (omega arith))
    ]
