use Rattle.path_delays.proofs.FurthestSignals.{NoneFitsBefore}
use Rattle.path_delays.specs.ExtremePaths.{extreme_of}
use Rattle.path_delays.proofs.extreme_path.furthest.Given as goal

abbrev pub invariant-loop-signal : goal.invariant-loop-signal
invariant-loop-signal l =
    NoneFitsBefore l.walk l.lane.number l.signals l.greatest (extreme_of l.greatest l.sums)
    l.signal-index
