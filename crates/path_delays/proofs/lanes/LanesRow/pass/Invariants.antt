-- The lanes passed so far hold the sums after the gate, the later ones those before it.
use Rattle.path_delays.proofs.Vocabulary.{ℕ, ◌≡◌, ◌<◌, ◌≤◌, sums_through, lane_of}
use Rattle.path_delays.proofs.lanes.LanesRow.pass.Given as goal

abbrev pub invariant-loop-lane : goal.invariant-loop-lane
invariant-loop-lane l = record {
  passed : (lane : ℕ) → lane < l.lane
      → lane_of l.self lane ≡ sums_through (lane_of l.initial.self lane) l.delay;
  later : (lane : ℕ) → l.lane ≤ lane → lane_of l.self lane ≡ lane_of l.initial.self lane;
}
