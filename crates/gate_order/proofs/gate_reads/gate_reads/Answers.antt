use Rattle.gate_order.proofs.Vocabulary.{◌≡◌, length, refl, arith, slice_get_read}
use Rattle.gate_order.proofs.ReadLemmas.{AreReads-none, AreReads-more}
use Rattle.gate_order.proofs.gate_reads.gate_reads.Goals as goal

pub loop-number-init : goal.loop-number-init
loop-number-init c = rw c.new-pairs.ensures.items (AreReads-none c.as_slice-signals.result.now)

pub loop-number-preserved : goal.loop-number-preserved
loop-number-preserved c =
    let signals = c.as_slice-signals.result.now in
    let signal = c.index-signals-number.result in
    rw c.in_ok-push_reads.ensures
    (AreReads-more signals c.loop-number.number c.loop-number.pairs.items signal
    (slice_get_read signals (length signals) c.loop-number.number signal refl
    c.loop-number-test.true c.index-signals-number.is) c.loop-number.invariant)

pub returns : goal.returns
returns c =
    let all : c.loop-number.number ≡ length c.as_slice-signals.result.now = omega arith in
    rw (all, c.as_slice-signals.ensures) at c.loop-number.invariant
