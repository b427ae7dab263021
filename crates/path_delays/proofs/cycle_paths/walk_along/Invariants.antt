-- The pairs of the constraints passed so far stand in their lanes.
use Rattle.path_delays.proofs.Vocabulary.{◌≡◌, ◌<◌, ℕ, Some, length, get_or, slice_get, Constraint, pair_of}
use Rattle.path_delays.proofs.cycle_paths.walk_along.Given as goal

abbrev pub invariant-loop-lane : goal.invariant-loop-lane
invariant-loop-lane l = record {
  lanes : length l.pairs ≡ 16;
  each : (lane : ℕ) (constraint : Constraint) → lane < l.lane
      → slice_get l.block.items.now lane ≡ Some constraint
      → get_or l.pairs lane (0, 0) ≡ pair_of constraint;
  within : (lane : ℕ) → lane < l.lane
      → ((get_or l.pairs lane (0, 0)).0 < length l.circuit.registers)
      × ((get_or l.pairs lane (0, 0)).1 < length l.circuit.registers);
}
