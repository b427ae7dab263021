use Rattle.report_text.proofs.Vocabulary.{refl, w128, to_z-of_z}
use Rattle.report_text.proofs.ScanLemmas.{form_read, takes_then}
use Rattle.report_text.proofs.tree_values.TotalLineLine.read.Goals as goal

pub returns-clause-read : goal.returns-clause-read
returns-clause-read c =
    let circuit = c.args.rules.now.circuit.now in
    rw (to_z-of_z w128 c.length-length.result (record { sfits = c.length-length.type_inv }))
    (form_read refl (takes_then (c.keyword.ensures circuit) (c.length-length.ensures circuit))
    (λ are holds. (are, holds.1)))
