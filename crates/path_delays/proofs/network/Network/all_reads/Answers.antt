-- One signal more.
use Rattle.path_delays.proofs.Vocabulary.{length, refl, arith, slice_get_read}
use Rattle.path_delays.proofs.NetworkLemmas.{AreAllReads-none, AreAllReads-more}
use Rattle.path_delays.proofs.network.Network.all_reads.Goals as goal

pub loop-number-init : goal.loop-number-init
loop-number-init c = rw c.new-pairs.ensures.items (AreAllReads-none c.args.circuit.now.signals)

pub loop-number-preserved : goal.loop-number-preserved
loop-number-preserved c =
    let signals = c.args.circuit.now.signals in
    let signal = c.signal-item.result in
    rw c.in_ok-push_inputs.ensures
    (AreAllReads-more signals c.loop-number.number c.loop-number.pairs.items signal
    (slice_get_read signals (length signals) c.loop-number.number signal refl
    (rw c.as_slice-signal-items.ensures at c.loop-number-test.true)
    (rw c.as_slice-signal-items.ensures at c.signal-item.is)) c.loop-number.invariant)

pub returns : goal.returns
returns c = grind (arith)
