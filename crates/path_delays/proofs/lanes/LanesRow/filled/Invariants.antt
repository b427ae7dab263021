-- The lanes passed so far are told.
use Rattle.path_delays.proofs.Vocabulary.{◌≡◌, ◌<◌, ℕ, None, false, length, slice_index_or, some_sums}
use Rattle.path_delays.specs.LaneParts.{lane_of}
use Rattle.path_delays.proofs.lanes.LanesRow.filled.Given as goal

abbrev pub invariant-loop-lane : goal.invariant-loop-lane
invariant-loop-lane l = record {
  covers : length l.filled ≡ 16;
  each : (other : ℕ) → other < l.lane → slice_index_or l.filled other false ≡ false
      → some_sums (lane_of l.self other) ≡ None;
}
