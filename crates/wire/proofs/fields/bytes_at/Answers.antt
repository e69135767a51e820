use Rattle.std.proofs.Common.{◌++◌, length, take, drop, replicate, get_or, min, ap, ◌∙◌}
use Rattle.std.proofs.lemmas.List.{take_rest, length-drop}
use Rattle.wire.proofs.FieldLists.{padded}
use Rattle.wire.proofs.fields.bytes_at.Goals as goal

pub returns : goal.returns
returns g c = λ i h.
    let bs = c.args.bytes.now in
    let m = c.min.result in
    let n = c.min-count.result in
    let rest = take_rest bs m in
    let zeros = drop n (replicate g.row.N 0) in
    ap (λ l. get_or (l ++ zeros) i 0) (c.copy_from_slice.ensures.after ∙ ap (take n) rest)
    ∙ padded bs c.args.at g.row.N i m n c.min.ensures
    (c.min-count.ensures ∙ ap (λ k. min k g.row.N) (ap length rest ∙ length-drop m bs)) h
