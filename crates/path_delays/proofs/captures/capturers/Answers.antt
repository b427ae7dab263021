-- The pairs grouped by signal.
use Rattle.path_delays.proofs.Vocabulary.{IfOk-weaker, HasGroups, AreCapturersOf}
use Rattle.path_delays.proofs.CaptureLemmas.{captures_grouped}
use Rattle.path_delays.proofs.captures.capturers.Goals as goal

pub returns : goal.returns
returns c =
    let circuit = c.args.circuit.now in
    let pairs = c.in_ok-pairs.pairs.items in
    IfOk-weaker c.of.result (HasGroups c.len.result c.as_slice.result.now) (AreCapturersOf circuit)
    (λ groups grouped. captures_grouped circuit pairs groups c.in_ok-pairs.ensures
    (rw (c.len.ensures, c.as_slice.ensures.value) at grouped)) c.of.ensures
