-- The lanes passed so far hold the least and the greatest of both.
use Rattle.path_delays.proofs.Vocabulary.{ℕ, ◌≡◌, ◌<◌, ◌≤◌, merged_sums, lane_of}
use Rattle.path_delays.proofs.lanes.LanesRow.merge.Given as goal

abbrev pub invariant-loop-lane : goal.invariant-loop-lane
invariant-loop-lane l = record {
  passed : (lane : ℕ) → lane < l.lane
      → lane_of l.self lane ≡ merged_sums (lane_of l.initial.self lane) (lane_of l.other lane);
  later : (lane : ℕ) → l.lane ≤ lane → lane_of l.self lane ≡ lane_of l.initial.self lane;
}
