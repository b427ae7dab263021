use Rattle.gate_order.proofs.Vocabulary.{◌++◌, ◌∷◌, [], take, get_or, ap, sym, ◌∙◌, append_assoc, reads_among}
use Rattle.gate_order.proofs.ReadLemmas.{reads_among_more}
use Rattle.gate_order.proofs.gate_reads.push_reads.Goals as goal

pub loop-input-preserved : goal.loop-input-preserved
loop-input-preserved c =
    let signals = c.args.signals.now in
    let number = c.args.number in
    let inputs = c.as_slice-input-items.result.now in
    let before = c.args.pairs.now.items in
    let passed = reads_among signals number (take c.loop-input.input-index inputs) in
    let next = reads_among signals number (get_or inputs c.loop-input.input-index 0 ∷ []) in
    c.in_ok-push_read.ensures
    ∙ (ap (λ l. l ++ next) c.loop-input.invariant
    ∙ (append_assoc before passed next ∙ ap (λ l. before ++ l) (sym (reads_among_more signals number
    inputs c.loop-input.input-index 0 c.loop-input-test.true))))
