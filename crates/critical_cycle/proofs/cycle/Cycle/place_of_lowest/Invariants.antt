use Rattle.critical_cycle.proofs.Vocabulary.{ℕ, ◌<◌, ◌≤◌, length, slice_index, tail_at}
use Rattle.critical_cycle.proofs.cycle.Cycle.place_of_lowest.Given as goal

abbrev pub invariant-loop-place : goal.invariant-loop-place
invariant-loop-place l = (l.lowest < length l.self.places.now) × ((other : ℕ) → other < l.place
    → tail_at l.self.constraints.now (slice_index l.self.places.now l.lowest)
    ≤ tail_at l.self.constraints.now (slice_index l.self.places.now other))
