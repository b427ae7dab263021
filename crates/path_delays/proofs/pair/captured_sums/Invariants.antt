-- The least and the greatest at the signals passed so far.
use Rattle.path_delays.proofs.Vocabulary.{Contains, take, AreExtremesIfAny, StandsAt, sums_to}
use Rattle.path_delays.proofs.pair.captured_sums.Given as goal

abbrev pub invariant-loop-signal : goal.invariant-loop-signal
invariant-loop-signal l = AreExtremesIfAny
    (StandsAt (sums_to l.walk l.lane.number) (Contains (take l.signal-index l.signals))) l.captured
