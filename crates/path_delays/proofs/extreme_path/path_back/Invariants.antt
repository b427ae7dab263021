-- The path back so far; the rank of its first signal falls with each turn.
use Rattle.path_delays.proofs.Vocabulary.{◌<◌, ℕ, length, Tech, rank_at, HasReachBetween}
use Rattle.path_delays.proofs.PathsBack.{IsBack}
use Rattle.path_delays.proofs.extreme_path.path_back.Given as goal

abbrev pub invariant-loop-read : goal.invariant-loop-read
invariant-loop-read l = record {
  within : l.signal < length l.circuit.signals;
  back : (tech : Tech) (from : ℕ)
      → (reach : HasReachBetween l.circuit tech from l.to l.lane.number l.walk)
      → IsBack l.circuit tech l.walk l.lane.number reach.top l.greatest l.last l.path.items
      l.signal;
}

abbrev pub decreases-loop-read : goal.decreases-loop-read
decreases-loop-read l = rank_at l.walk.network l.signal
