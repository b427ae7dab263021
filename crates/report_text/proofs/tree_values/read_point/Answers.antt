use Rattle.report_text.proofs.Vocabulary.{w128, to_z-of_z}
use Rattle.report_text.proofs.ScanLemmas.{takes_so, takes_then}
use Rattle.report_text.proofs.tree_values.read_point.Goals as goal

pub returns : goal.returns
returns c circuit =
    let x = to_z-of_z w128 c.length-x.result (record { sfits = c.length-x.type_inv }) in
    let y = to_z-of_z w128 c.length-y.result (record { sfits = c.length-y.type_inv }) in
    rw (x, y)
    (takes_so (takes_then (c.length-x.ensures circuit) (c.length-y.ensures circuit))
    (λ below. record { x = below.0; y = below.1 }))
