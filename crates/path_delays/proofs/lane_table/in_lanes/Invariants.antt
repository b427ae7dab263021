-- The lanes passed so far are told.
use Rattle.path_delays.proofs.Vocabulary.{◌≡◌, ◌<◌, ℕ, None, length, slice_index_or, lane_of, some_sums}
use Rattle.path_delays.proofs.lane_table.in_lanes.Given as goal

abbrev pub invariant-loop-lane : goal.invariant-loop-lane
invariant-loop-lane g l = record {
  covers : length l.sums ≡ 16;
  each : (other : ℕ) → other < l.lane
      → slice_index_or l.sums other None ≡ some_sums (lane_of (g.R.Row.wide l.row) other);
}
