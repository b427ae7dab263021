use Rattle.report_text.proofs.Vocabulary.{refl, w128, to_z-of_z}
use Rattle.report_text.proofs.ScanLemmas.{form_read, takes_then}
use Rattle.report_text.proofs.timing_values.TimedLine.read.Goals as goal

pub returns-clause-read : goal.returns-clause-read
returns-clause-read c =
    let circuit = c.args.rules.now.circuit.now in
    rw (to_z-of_z w128 c.arrival-arrival.result (record { sfits = c.arrival-arrival.type_inv }))
    (form_read refl (takes_then c.named.ensures (takes_then (c.arrival-arrival.ensures circuit)
    (takes_then (c.slack-setup.ensures circuit) (c.slack-hold.ensures circuit)))) (λ are holds.
    let (_, (small, (setup, hold))) = holds in
    record { line = are; small = small; slacks = record { setup = setup; hold = hold } }))
