-- The lanes passed so far hold the least and the greatest of both.
use Rattle.path_delays.proofs.Vocabulary.{ℕ, ◌≡◌, ◌<◌, ◌≤◌, int_min, int_max, greatest_in, least_in}
use Rattle.path_delays.proofs.narrow_lanes.NarrowLanesRow.merge.Given as goal

abbrev pub invariant-loop-lane : goal.invariant-loop-lane
invariant-loop-lane l = record {
  least : (lane : ℕ) → lane < l.lane
      → least_in l.self lane ≡ int_min (least_in l.initial.self lane) (least_in l.other lane);
  greatest : (lane : ℕ) → lane < l.lane → greatest_in l.self lane
      ≡ int_max (greatest_in l.initial.self lane) (greatest_in l.other lane);
  later : (lane : ℕ) → l.lane ≤ lane → least_in l.self lane ≡ least_in l.initial.self lane;
  later_greatest : (lane : ℕ) → l.lane ≤ lane
      → greatest_in l.self lane ≡ greatest_in l.initial.self lane;
}
