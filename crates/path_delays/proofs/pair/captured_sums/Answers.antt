-- One signal more, and all of them.
use Rattle.path_delays.proofs.Vocabulary.{Contains, take, get_or, arith, subst, take_all, take_more, AreExtremesIfAny, StandsAt, sums_to}
use Rattle.path_delays.proofs.CarryLemmas.{extremes_next, extremes_single}
use Rattle.path_delays.proofs.CapturingLemmas.{single_list}
use Rattle.path_delays.proofs.pair.captured_sums.Goals as goal

pub returns-in-len1 : goal.returns-in-len1
returns-in-len1 c = grind (arith, single_list, extremes_single)

pub loop-signal-init : goal.loop-signal-init
loop-signal-init c = λ one (signal, (place, within, here), stands). absurd (omega arith)

pub loop-signal-preserved : goal.loop-signal-preserved
loop-signal-preserved c =
    let signals = c.args.signals.now in
    let i = c.loop-signal.signal-index in
    rw (
      c.either-captured.ensures,
      c.sums-in-loop-signal.ensures,
      take_more signals i 0
          c.loop-signal-test.true,
    )
    (extremes_next (sums_to c.args.walk.now c.args.lane.number) (take i signals)
    (get_or signals i 0) c.loop-signal.captured c.loop-signal.invariant)

pub returns : goal.returns
returns c =
    subst (λ signals. AreExtremesIfAny
    (StandsAt (sums_to c.args.walk.now c.args.lane.number) (Contains signals))
    c.loop-signal.captured) (take_all c.loop-signal.signal-index c.args.signals.now
    (omega (arith, c.loop-signal-test.false)))
    c.loop-signal.invariant
