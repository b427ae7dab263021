use Rattle.report_text.proofs.Vocabulary.{ap, sym, ◌∙◌, w128, to_z-of_z}
use Rattle.report_text.proofs.ScanLemmas.{form_read, takes_then}
use Rattle.report_text.proofs.TreeLines.{shown_fields}
use Rattle.report_text.proofs.tree_values.SourceLineLine.read.Goals as goal

pub returns-then-is_root-clause-read : goal.returns-then-is_root-clause-read
returns-then-is_root-clause-read c =
    let circuit = c.args.rules.now.circuit.now in
    rw (to_z-of_z w128 c.length-reach.result (record { sfits = c.length-reach.type_inv }))
    (form_read (ap (shown_fields c.args.rules.now.scale)
    (sym c.has_word-is_root.ensures ∙ c.if-is_root.true)) (takes_then (c.keyword.ensures circuit)
    (takes_then (c.length-reach.ensures circuit) (c.keyword-then-is_root.ensures circuit)))
    (λ are holds. record { words_are = are; reach = holds.1.0; show = tt; among = tt }))

pub returns-clause-read : goal.returns-clause-read
returns-clause-read c =
    let circuit = c.args.rules.now.circuit.now in
    rw (to_z-of_z w128 c.length-reach.result (record { sfits = c.length-reach.type_inv }))
    (form_read (ap (shown_fields c.args.rules.now.scale)
    (sym c.has_word-is_root.ensures ∙ c.if-is_root.false))
    (takes_then (c.keyword.ensures circuit) (takes_then (c.length-reach.ensures circuit)
    (takes_then (c.keyword-2.ensures circuit) c.register-register.ensures.taken)))
    (λ are holds. record { words_are = are; reach = holds.1.0; show = tt; among = holds.1.1.1 }))
