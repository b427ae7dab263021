-- The window over the signals passed so far.
use Rattle.path_delays.proofs.Vocabulary.{Contains, take, option_map, AreExtremesIfAny, StandsAt, sums_in, sums_of}
use Rattle.path_delays.proofs.sweep.merged_windows.Given as goal

abbrev pub invariant-loop-signal : goal.invariant-loop-signal
invariant-loop-signal l = AreExtremesIfAny
    (StandsAt (sums_in l.windows) (Contains (take l.signal-index l.signals)))
    (option_map sums_of l.merged)
