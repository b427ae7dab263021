use Rattle.critical_cycle.proofs.Vocabulary.{◌≡◌, pos, take, total_count, total_weight, constraints_at}
use Rattle.critical_cycle.proofs.sums.Sums.of.Given as goal

abbrev pub invariant-loop-place : goal.invariant-loop-place
invariant-loop-place l =
    (l.ticks ≡ total_weight (constraints_at l.cycle.constraints.now
    (take l.place-index l.cycle.places.now)))
    × (l.setups ≡ pos (total_count
    (constraints_at l.cycle.constraints.now (take l.place-index l.cycle.places.now))))
