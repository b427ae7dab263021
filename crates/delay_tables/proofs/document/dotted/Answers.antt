use Rattle.std.proofs.Common.{◌++◌, ◌∙◌, ap, arith}
use Rattle.delay_tables.proofs.Ways.{dots_more, dots_all}
use Rattle.delay_tables.proofs.document.dotted.Goals as goal

pub loop-table-preserved : goal.loop-table-preserved
loop-table-preserved c =
    rw (c.in_ok-push.ensures.items, c.in_ok-extend_from_slice.ensures.items)
    (dots_more c.loop-table.text.items c.args.way.now c.loop-table.table-index _ _
    (omega arith) c.as_bytes.ensures.value c.loop-table.invariant)

pub returns : goal.returns
returns c =
    let before = dots_all c.loop-table.text.items c.args.way.now c.loop-table.table-index
    (omega arith) c.loop-table.invariant in
    c.from_vec.ensures ∙ c.in_ok-extend_from_slice-2.ensures.items
    ∙ rw c.as_bytes-2.ensures.value (ap (λ text. text ++ c.args.name.now) before)
