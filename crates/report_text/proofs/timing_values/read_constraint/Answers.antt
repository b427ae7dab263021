use Rattle.report_text.proofs.Vocabulary.{◌∙◌, cond, w128, to_z-of_z}
use Rattle.report_text.proofs.ScanLemmas.{takes_then, constraint_taken}
use Rattle.report_text.proofs.timing_values.read_constraint.Goals as goal

pub returns : goal.returns
returns c =
    let circuit = c.args.rules.now.circuit.now in
    let setup = c.kind-setup.result in
    let launch = c.register-launch.result in
    let capture = c.register-capture.result in
    let weight = to_z-of_z w128 c.weight-weight.result
    (record { sfits = c.weight-weight.type_inv }) in
    constraint_taken _ (takes_then (c.kind-setup.ensures circuit)
    (takes_then c.register-launch.ensures.taken (takes_then c.register-capture.ensures.taken
    (c.weight-weight.ensures circuit)))) _ (c.between.ensures ∙ (λ i. record {
      setup = setup;
      tail = cond setup launch capture;
      head = cond setup capture launch;
      weight = weight i;
    }))
